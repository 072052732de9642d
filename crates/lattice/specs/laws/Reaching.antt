-- The nodes that a layer's middles reach, replayed node by node: the highest one reached and how many there are. Assumes nothing.
use Rattle.std.specs.Prelude.{◌+◌, ◌≤◌, Bool, true, false, cond, ◌≡◌, List, [], ◌∷◌, ℤ}
use Rattle.std.proofs.Common.{arith, ap}
use Rattle.std.proofs.Math.IntN.{pred_ℤ, suc_ℤ}
use Rattle.lattice.specs.declared.reach.Reach.{Reach}
use Rattle.lattice.specs.Layers.{below}

-- A node above all that are reached is one more, and the highest; any other is reached already.
unfoldable pub reach_one : Reach → ℤ → Reach
reach_one r n = cond (below r.top n) (record { top = n; count = r.count + 1 }) r

-- The three destinations around a middle, rising.
unfoldable pub reach : Reach → ℤ → Reach
unfolding reach_one
reach r m = reach_one (reach_one (reach_one r (pred_ℤ m)) m) (suc_ℤ m)

-- Nothing is reached, and each destination around the first middle will be above.
abbrev pub nothing_below : ℤ → Reach
nothing_below m = record { top = pred_ℤ (pred_ℤ m); count = 0 }

-- All middles of a layer in turn.
unfoldable pub reach_all : Reach → List ℤ → Reach
unfolding reach
reach_all r [] = r
reach_all r (m ∷ ms) = reach_all (reach r m) ms

-- ---- by the test

pub one_more : (r : Reach) (n : ℤ) → below r.top n ≡ true → reach_one r n ≡ record { top = n; count = r.count + 1 }
unfolding reach_one
one_more r n e = ap (λ (b : Bool). cond b (record { top = n; count = r.count + 1 }) r) e

pub no_more : (r : Reach) (n : ℤ) → below r.top n ≡ false → reach_one r n ≡ r
unfolding reach_one
no_more r n e = ap (λ (b : Bool). cond b (record { top = n; count = r.count + 1 }) r) e

-- ---- how far a count can grow

pub reach_one-count : (r : Reach) (n : ℤ) → (r.count ≤ (reach_one r n).count) × ((reach_one r n).count ≤ r.count + 1)
unfolding reach_one
reach_one-count r n = go (below r.top n)
  where
    go : (b : Bool)
        → (r.count ≤ (cond b (record { top = n; count = r.count + 1 }) r).count)
        × ((cond b (record { top = n; count = r.count + 1 }) r).count ≤ r.count + 1)
    go true = (omega arith, omega arith)
    go false = (omega arith, omega arith)

pub reach-count : (r : Reach) (m : ℤ) → (r.count ≤ (reach r m).count) × ((reach r m).count ≤ r.count + 3)
unfolding reach
reach-count r m =
    let a = reach_one-count r (pred_ℤ m) in
    let b = reach_one-count (reach_one r (pred_ℤ m)) m in
    let c = reach_one-count (reach_one (reach_one r (pred_ℤ m)) m) (suc_ℤ m) in
    (omega (arith, a.0, b.0, c.0), omega (arith, a.1, b.1, c.1))
