-- Middles that never fall from node to node, and what follows: the sorted set of their destinations is laid by appending, and a node's three destinations are the last three reached. Assumes nothing.
use Prim.Native.Nat.{ℕ, zero, suc}
use Rattle.std.proofs.Common.{arith, subst}
use Rattle.std.specs.Prelude.{◌≡◌, true, List, [], ◌∷◌, ℤ}
use Rattle.std.proofs.Math.IntN.{suc_ℤ, pred_ℤ, pred-suc, suc-pred}
use Rattle.lattice.specs.Layers.{below, insert}
use Rattle.lattice.specs.laws.IntegerOrder.{up, below_up, below_next, up_shift, at_base}
use Rattle.lattice.specs.laws.RisingMiddles.{Climbs, Rising, T_of, above, around, done_at, ends, far, grew, laid, laid-climbs, laid_b, laid_three, news, next, reach-gap}

module _ (b : ℤ) (c : ℕ) where
  into_b : (g : ℕ) (t : List ℤ) → insert (up b 0) (insert (up b 1) (insert (up b 2) (up b g ∷ up b (suc g) ∷ up b (suc (suc g)) ∷ t))) ≡ up b 0 ∷ up b 1 ∷ up b 2 ∷ news b g t
  unfolding insert news
  into_b zero t = simp (below_up)
  into_b (suc zero) t = simp (below_up)
  into_b (suc (suc zero)) t = simp (below_up)
  into_b (suc (suc (suc h))) t = simp (below_up, far 2 h (omega arith))

-- A middle that lies g above the one before.
module _ (c g : ℕ) where
  module _ (t : List ℤ) where
    Into : ℤ → Type 0
    Into m =
        insert (pred_ℤ m) (insert m (insert (suc_ℤ m) (pred_ℤ (up m g) ∷ up m g ∷ suc_ℤ (up m g) ∷ t)))
        ≡ pred_ℤ m ∷ m ∷ suc_ℤ m ∷ laid_three (done_at m c) (up m g) t

    based_into : (b : ℤ) → Into (suc_ℤ b)
    unfolding Into up
    based_into b = rw (pred-suc b, up_shift b g, pred-suc (up b g)) (rw (laid_b b c g t) (into_b b c g t))

    into_gap : (m : ℤ) → Into m
    into_gap m = at_base Into based_into m

alone_b : (b : ℤ) → insert (up b 0) (insert (up b 1) (insert (up b 2) [])) ≡ up b 0 ∷ up b 1 ∷ up b 2 ∷ []
unfolding insert
alone_b b = simp (below_up)

Alone : ℤ → Type 0
Alone m = insert (pred_ℤ m) (insert m (insert (suc_ℤ m) [])) ≡ pred_ℤ m ∷ m ∷ suc_ℤ m ∷ []

based_alone : (b : ℤ) → Alone (suc_ℤ b)
unfolding Alone up
based_alone b = rw (pred-suc b) (alone_b b)

alone : (m : ℤ) → Alone m
alone m = at_base Alone based_alone m

-- The sorted set of destinations is what is laid by appending.
pub around-laid : (c : ℕ) (m : ℤ) (ms : List ℤ) → Rising m ms → around (m ∷ ms) ≡ pred_ℤ m ∷ m ∷ suc_ℤ m ∷ laid (done_at m c) ms
unfolding around laid Alone Into
around-laid c m [] ends = alone m
around-laid c m ms' (next {ms = ms} g r) = rw (around-laid (grew c g) (up m g) ms r, reach-gap c g m) (into_gap c g (laid (done_at (up m g) (grew c g)) ms) m)

-- It rises.
pub around-climbs : (m : ℤ) (ms : List ℤ) → Rising m ms → Climbs (pred_ℤ (pred_ℤ m)) (around (m ∷ ms))
around-climbs m ms r = rw (around-laid 3 m ms r) (above (T_of (before (pred_ℤ m))) (above (T_of (before m)) (above (T_of (below_next m)) (laid-climbs 3 m ms r))))
  where
    before : (m : ℤ) → below (pred_ℤ m) m ≡ true
    before m = subst (λ (n : ℤ). below (pred_ℤ m) n ≡ true) (suc-pred m) (below_next (pred_ℤ m))
