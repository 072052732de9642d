-- A flat tree over the room that is left from a layer on, and that it is the flat tree over the whole room. Assumes nothing.
use Rattle.std.specs.Prelude.{ℕ, zero, suc, ◌+◌, ◌-◌, ◌*◌, ◌≡◌, true, false, cond, [], ◌∷◌, Ok}
use Rattle.std.proofs.Common.{arith}
use Rattle.floats.specs.Answers.{Outcome, follow, refusal}
use Rattle.lattice.specs.Layers.{Room, fits}
use Rattle.lattice.specs.Lattice.{Lattice, root_layer, flat_layer, flat}
use Rattle.lattice.specs.laws.RoomTest.{room_behind, leb_same}
use Rattle.floats.specs.declared.Reason.TheVariants as reason

-- A flat layer in front of the others.
abbrev pub with_flat : Lattice → Lattice
with_flat t = record { layers = flat_layer ∷ t.layers; final = t.final }

-- The layers from k on: each takes one node of the room that is left.
unfoldable pub flat_left : Room → ℕ → ℕ → Outcome Lattice
flat_left room k zero = cond (fits room 1 1) (Ok (record { layers = []; final = root_layer })) (refusal reason.NoRoom k)
flat_left room k (suc left) = cond (fits room 1 1) (follow (flat_left (room_behind room 1) (suc k) left) λ rest. Ok (with_flat rest)) (refusal reason.NoRoom k)

fits_left : (room : Room) (k : ℕ) → fits (room_behind room k) 1 1 ≡ fits room (k + 1) 1
fits_left room k =
    let n : ℕ = room.nodes in
    let p : ℕ = room.probabilities in
    rw (leb_same 2 (n - 2 * k) (2 * (k + 1)) n (λ h. omega arith) (λ h. omega arith), leb_same 3 (p - 3 * k) (3 * (k + 1)) p (λ h. omega arith) (λ h. omega arith))

less_again : (room : Room) (k : ℕ) → room_behind (room_behind room k) 1 ≡ room_behind room (suc k)
less_again room k =
    let e : room.nodes - 2 * k - 2 * 1 ≡ room.nodes - 2 * suc k = omega arith in
    let f : room.probabilities - 3 * k - 3 * 1 ≡ room.probabilities - 3 * suc k = omega arith in
    rw (e, f)

left_of : (room : Room) (k left : ℕ) → flat_left (room_behind room k) k left ≡ flat room k left
unfolding flat_left flat
left_of room k zero = rw (fits_left room k)
left_of room k (suc left) = rw (fits_left room k, less_again room k, left_of room (suc k) left)

-- The flat tree of the definition.
pub flat_left_lem : (room : Room) (left : ℕ) → flat_left room 0 left ≡ flat room 0 left
flat_left_lem room left =
    let e : room.nodes - 0 ≡ room.nodes = omega arith in
    let f : room.probabilities - 0 ≡ room.probabilities = omega arith in
    rw (e, f) at (left_of room 0 left)

-- ---- by whether one node fits

pub flat-refused : (room : Room) (k left : ℕ) → fits room 1 1 ≡ false → flat_left room k left ≡ refusal reason.NoRoom k
unfolding flat_left
flat-refused room k zero e = rw e
flat-refused room k (suc left) e = rw e

pub flat_last : (room : Room) (k : ℕ) → fits room 1 1 ≡ true → flat_left room k 0 ≡ Ok (record { layers = []; final = root_layer })
unfolding flat_left
flat_last room k e = rw e

pub flat_next : (room : Room) (k left : ℕ) → fits room 1 1 ≡ true → flat_left room k (suc left) ≡ follow (flat_left (room_behind room 1) (suc k) left) λ rest. Ok (with_flat rest)
unfolding flat_left
flat_next room k left e = rw e
