-- The room test: what it says where it holds, and the room behind some nodes. Assumes nothing.
use Rattle.std.specs.Prelude.{ℕ, ◌-◌, ◌*◌, ◌≤◌, ◌<◌, ◌≡◌, refl, Bool, true, false, ◌&&◌, leb}
use Rattle.std.proofs.Common.{sym, le-leb, leb-true, leb-false}
use Rattle.std.proofs.lemmas.Bool.{false≢true, lt-leb}
use Rattle.lattice.specs.Layers.{Room, fits}

pub record Fitting (room : Room) (all layer : ℕ) : Type 0 where
  pub pairs : 2 * all ≤ room.nodes
  pub threes : 3 * all ≤ room.probabilities
  pub first : layer ≤ room.first
  pub second : layer ≤ room.second

both_true : (a b : Bool) → (a && b) ≡ true → (a ≡ true) × (b ≡ true)
both_true true b e = (refl, e)
both_true false b e = absurd (false≢true e)

pub fitting : (room : Room) (all layer : ℕ) → fits room all layer ≡ true → Fitting room all layer
fitting room all layer e =
    let slices = leb (2 * all) room.nodes && leb (3 * all) room.probabilities in
    let rows = leb layer room.first && leb layer room.second in
    let p = both_true slices rows e in
    let q = both_true (leb (2 * all) room.nodes) (leb (3 * all) room.probabilities) p.0 in
    let r = both_true (leb layer room.first) (leb layer room.second) p.1 in
    record {
      pairs = leb-true (2 * all) room.nodes q.0;
      threes = leb-true (3 * all) room.probabilities q.1;
      first = leb-true layer room.first r.0;
      second = leb-true layer room.second r.1;
    }

-- The room behind so many nodes.
abbrev pub room_behind : Room → ℕ → Room
room_behind room k = record { nodes = room.nodes - 2 * k; probabilities = room.probabilities - 3 * k; first = room.first; second = room.second }

-- Two comparisons that agree.
pub leb_same : (a b c d : ℕ) → (a ≤ b → c ≤ d) → (b < a → d < c) → leb a b ≡ leb c d
leb_same a b c d f g = go (leb a b) refl
  where
    go : (t : Bool) → leb a b ≡ t → t ≡ leb c d
    go true e = sym (le-leb c d (f (leb-true a b e)))
    go false e = sym (lt-leb c d (g (leb-false a b e)))
