-- Where a node's destinations stand in the next layer: replayed middle by middle, they are the last three reached. Assumes nothing.
use Rattle.std.specs.Prelude.{ℕ, ◌+◌, ◌-◌, ◌≤◌, ◌<◌, ◌≡◌, List, [], ◌∷◌, ◌++◌, length, get_or, ℤ, pos}
use Rattle.std.proofs.Common.{arith, sym, ap, ◌∙◌, append_assoc, length-append, get_or-append-add}
use Rattle.std.proofs.Math.IntN.{suc_ℤ, pred_ℤ, pred-suc}
use Rattle.lattice.specs.declared.reach.Reach.{Reach}
use Rattle.lattice.specs.laws.IntegerOrder.{up, up_pred, up_suc, below_up, at_base}
use Rattle.lattice.specs.laws.Reaching.{reach, nothing_below}
use Rattle.lattice.specs.laws.RisingMiddles.{Rising, ends, next, laid, laid_three, done_at, grew, reach-gap, moved}

-- The three destinations around m stand at p, p + 1 and p + 2.
pub record Stands (nodes : List ℤ) (p : ℕ) (m : ℤ) : Type 0 where
  pub room : p + 2 < length nodes
  pub down : get_or nodes p (pos 0) ≡ pred_ℤ m
  pub middle : get_or nodes (p + 1) (pos 0) ≡ m
  pub up : get_or nodes (p + 2) (pos 0) ≡ suc_ℤ m

-- Replaying the middles from r, each node's destinations are the last three reached once it is done; in the end all nodes are reached.
pub data Replays (nodes : List ℤ) : Reach → List ℤ → Type 0 where
  done : {r : Reach} → r.count ≡ length nodes → Replays nodes r []
  node : {r : Reach} {m : ℤ} {ms : List ℤ} → 3 ≤ (reach r m).count → Stands nodes ((reach r m).count - 3) m → Replays nodes (reach r m) ms → Replays nodes r (m ∷ ms)

pub stands_after : (front : List ℤ) (m : ℤ) (t : List ℤ) (c : ℕ) → length front + 3 ≡ c → Stands (front ++ (pred_ℤ m ∷ m ∷ suc_ℤ m ∷ t)) (c - 3) m
stands_after front m t c e =
    let z : c - 3 ≡ length front + 0 = omega arith in
    let a : c - 3 + 1 ≡ length front + 1 = omega arith in
    let b : c - 3 + 2 ≡ length front + 2 = omega arith in
    let l = pred_ℤ m ∷ m ∷ suc_ℤ m ∷ t in
    record {
      room = rw (length-append front l) (omega arith);
      down = rw z (get_or-append-add front l 0 (pos 0));
      middle = rw a (get_or-append-add front l 1 (pos 0));
      up = rw b (get_or-append-add front l 2 (pos 0));
    }

-- after a first middle m, with `front` before its three nodes
pub replays_on : (front : List ℤ) (m : ℤ) (ms : List ℤ) (c : ℕ) → length front + 3 ≡ c → Rising m ms → Replays (front ++ (pred_ℤ m ∷ m ∷ suc_ℤ m ∷ laid (done_at m c) ms)) (done_at m c) ms
unfolding laid
replays_on front m [] c e ends = done {r = done_at m c} (rw (length-append front (pred_ℤ m ∷ m ∷ suc_ℤ m ∷ [])) (omega arith))
replays_on front m ms' c e (next {ms = ms} g r) =
    let t = laid (done_at (up m g) (grew c g)) ms in
    let v = moved c g t m in
    let p = front ++ v.front in
    let k : length p + 3 ≡ grew c g = rw (length-append front v.front) (omega (arith, v.count)) in
    let q : front ++ (pred_ℤ m ∷ m ∷ suc_ℤ m ∷ laid_three (done_at m c) (up m g) t) ≡ p ++ (pred_ℤ (up m g) ∷ up m g ∷ suc_ℤ (up m g) ∷ t) = ap (λ (l : List ℤ). front ++ l) v.same ∙ sym (append_assoc front v.front _) in
    let d = reach-gap c g m in
    rw (d, q) (node {r = done_at m c} {m = up m g} {ms = ms} (rw d (omega arith)) (rw d (stands_after p (up m g) t (grew c g) k)) (rw d (replays_on p (up m g) ms (grew c g) k r)))

first_b : (b : ℤ) → reach (record { top = up b 0; count = 0 }) (up b 2) ≡ record { top = up b 3; count = 3 }
unfolding reach
first_b b = rw (up_pred b 1, up_suc b 2, below_up b 0 1, below_up b 1 2, below_up b 2 3)

First : ℤ → Type 0
First m = reach (nothing_below m) m ≡ done_at m 3

first_based : (b : ℤ) → First (suc_ℤ (suc_ℤ b))
unfolding First up
first_based b = rw (pred-suc (suc_ℤ b), pred-suc b) (first_b b)

-- The first middle reaches its three nodes.
pub first_reach : (m : ℤ) → reach (nothing_below m) m ≡ done_at m 3
unfolding First
first_reach m = at_base First (at_base (λ (b : ℤ). First (suc_ℤ b)) first_based) m
