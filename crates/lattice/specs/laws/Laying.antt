-- Laying the nodes of the next layer behind a layer: each new node's number and a middle 0. Assumes nothing.
use Rattle.std.specs.Prelude.{ℕ, ◌+◌, ◌*◌, ◌≤◌, ◌≡◌, refl, Bool, true, false, cond, List, [], ◌∷◌, length, set, ℤ, pos}
use Rattle.std.proofs.Common.{arith, ap, ◌∙◌, length-set}
use Rattle.std.proofs.Math.IntN.{suc_ℤ, pred_ℤ}
use Rattle.lattice.specs.declared.reach.Reach.{Reach}
use Rattle.lattice.specs.Layers.{below}
use Rattle.lattice.specs.laws.Reaching.{reach_one, reach, reach_all, reach-count}

-- The slice once a node is tried: the first `from` nodes are another layer's.
unfoldable pub pushed : ℕ → Reach → ℤ → List ℤ → List ℤ
pushed from r n l = cond (below r.top n) (set (set l (2 * (from + r.count)) n) (2 * (from + r.count) + 1) (pos 0)) l

unfoldable pub pushed_three : ℕ → Reach → ℤ → List ℤ → List ℤ
unfolding pushed reach_one
pushed_three from r m l = pushed from (reach_one (reach_one r (pred_ℤ m)) m) (suc_ℤ m) (pushed from (reach_one r (pred_ℤ m)) m (pushed from r (pred_ℤ m) l))

unfoldable pub pushed_all : ℕ → Reach → List ℤ → List ℤ → List ℤ
unfolding pushed_three reach
pushed_all from r [] l = l
pushed_all from r (m ∷ ms) l = pushed_all from (reach r m) ms (pushed_three from r m l)

-- A reach and the slice, after a step.
pub record Pushed (s r : Reach) (after before : List ℤ) : Type 0 where
  pub reach : s ≡ r
  pub slice : after ≡ before

-- ---- by the test

pub pushed-new : (from : ℕ) (r : Reach) (n : ℤ) (l : List ℤ) → below r.top n ≡ true → pushed from r n l ≡ set (set l (2 * (from + r.count)) n) (2 * (from + r.count) + 1) (pos 0)
unfolding pushed
pushed-new from r n l e = ap (λ (b : Bool). cond b (set (set l (2 * (from + r.count)) n) (2 * (from + r.count) + 1) (pos 0)) l) e

pub pushed-old : (from : ℕ) (r : Reach) (n : ℤ) (l : List ℤ) → below r.top n ≡ false → pushed from r n l ≡ l
unfolding pushed
pushed-old from r n l e = ap (λ (b : Bool). cond b (set (set l (2 * (from + r.count)) n) (2 * (from + r.count) + 1) (pos 0)) l) e

pub pushed-length : (from : ℕ) (r : Reach) (n : ℤ) (l : List ℤ) → length (pushed from r n l) ≡ length l
unfolding pushed
pushed-length from r n l = go (below r.top n)
  where
    go : (b : Bool) → length (cond b (set (set l (2 * (from + r.count)) n) (2 * (from + r.count) + 1) (pos 0)) l) ≡ length l
    go true = length-set (set l (2 * (from + r.count)) n) (2 * (from + r.count) + 1) (pos 0) ∙ length-set l (2 * (from + r.count)) n
    go false = refl

pub three_length : (from : ℕ) (r : Reach) (m : ℤ) (l : List ℤ) → length (pushed_three from r m l) ≡ length l
unfolding pushed_three
three_length from r m l =
    let a = pushed from r (pred_ℤ m) l in
    let b = pushed from (reach_one r (pred_ℤ m)) m a in
    pushed-length from (reach_one (reach_one r (pred_ℤ m)) m) (suc_ℤ m) b ∙ pushed-length from (reach_one r (pred_ℤ m)) m a ∙ pushed-length from r (pred_ℤ m) l

pub all_length : (from : ℕ) (r : Reach) (ms l : List ℤ) → length (pushed_all from r ms l) ≡ length l
unfolding pushed_all
all_length from r [] l = refl
all_length from r (m ∷ ms) l = all_length from (reach r m) ms (pushed_three from r m l) ∙ three_length from r m l

-- The count never falls.
pub reach_all-count : (r : Reach) (ms : List ℤ) → r.count ≤ (reach_all r ms).count
unfolding reach_all
reach_all-count r [] = omega arith
reach_all-count r (m ∷ ms) = omega (arith, (reach-count r m).0, reach_all-count (reach r m) ms)
