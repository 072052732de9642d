-- What is left of the first so many entries of a slice, from one on. Assumes nothing.
use Rattle.std.specs.Prelude.{ℕ, ◌+◌, ◌-◌, ◌≤◌, ◌<◌, ◌≡◌, List, [], ◌∷◌, length, get_or, take, drop, ℤ, pos}
use Rattle.std.proofs.Common.{add-one, arith, drop-cons}
use Rattle.lattice.specs.laws.Counting.{left_over}

abbrev pub left_from : List ℤ → ℕ → ℕ → List ℤ
left_from nodes count i = take (count - i) (drop i nodes)

module _ (nodes : List ℤ) (count : ℕ) where
  pub left_first : left_from nodes count 0 ≡ take count nodes
  left_first = let e : count - 0 ≡ count = omega arith in rw e

  pub left_cons : (i : ℕ) → count ≤ length nodes → i < count → left_from nodes count i ≡ get_or nodes i (pos 0) ∷ left_from nodes count (i + 1)
  left_cons i l h = let k : i < length nodes = omega arith in rw (left_over h, drop-cons nodes i (pos 0) k, add-one i)

  pub left_none : (i : ℕ) → count ≤ i → left_from nodes count i ≡ []
  left_none i h = let z : count - i ≡ 0 = omega arith in rw z
