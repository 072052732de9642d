-- How many nodes all layers have, by their counts: they are the nodes of the tree that is laid. Assumes nothing.
use Rattle.std.specs.Prelude.{ℕ, zero, suc, ◌+◌, ◌*◌, ◌≤◌, ◌≡◌, refl, Bool, List, [], ◌∷◌, length, ℤ, Float}
use native.Mathlib.Omega.{arith}
use Rattle.std.proofs.Common.{ap}
use Rattle.std.proofs.Math.ListN.{length-drop}
use Rattle.lattice.specs.Lattice.{count_of}
use Rattle.lattice.specs.laws.Stored.{numbers_in}
use Rattle.lattice.specs.laws.Laid.{front_nodes, layers_in, final_in, Laid, last_laid, more_laid}

unfoldable pub total_of : List ℕ → ℕ
total_of [] = 0
total_of (c ∷ counts) = c + total_of counts

-- A layer of c nodes has c numbers.
pub numbers-length : (c : ℕ) (nodes : List ℤ) → c * 2 ≤ length nodes → length (numbers_in (front_nodes c nodes)) ≡ c
unfolding numbers_in
numbers-length zero nodes h = refl
numbers-length (suc c) [] h = absurd (omega arith)
numbers-length (suc c) (n ∷ []) h = absurd (omega arith)
numbers-length (suc c) (n ∷ m ∷ nodes) h =
    let e : suc c * 2 ≡ suc (suc (c * 2)) = omega arith in
    rw e (ap suc (numbers-length c nodes (omega arith)))

module _ {flat : Bool} {one two : ℕ} where
  -- There is a count more than spacings.
  pub laid-counts : {counts : List ℕ} {spacings : List Float} {nodes : List ℤ} {probabilities : List Float} → Laid flat one two counts spacings nodes probabilities → length spacings + 1 ≡ length counts
  laid-counts (last_laid h k l) = refl
  laid-counts (more_laid s rest) = let e = laid-counts rest in omega arith

  -- Two entries a node are there.
  pub laid-total : {counts : List ℕ} {spacings : List Float} {nodes : List ℤ} {probabilities : List Float} → Laid flat one two counts spacings nodes probabilities → total_of counts * 2 ≤ length nodes
  unfolding total_of
  laid-total (last_laid h k l) = omega arith
  laid-total (more_laid {c = c} {nodes = nodes} s rest) = let e = laid-total rest in let d = length-drop (c * 2) nodes in let p = s.pairs in omega arith

  -- The nodes of the layers and of the last one.
  pub laid-nodes : {counts : List ℕ} {spacings : List Float} {nodes : List ℤ} {probabilities : List Float} → Laid flat one two counts spacings nodes probabilities → count_of (layers_in flat counts spacings nodes probabilities) + length (final_in counts spacings nodes) ≡ total_of counts
  unfolding total_of layers_in final_in count_of
  laid-nodes (last_laid {c = c} {nodes = nodes} h k l) = rw (numbers-length c nodes h) (omega arith)
  laid-nodes (more_laid {c = c} {nodes = nodes} s rest) = let e = laid-nodes rest in rw (numbers-length c nodes s.pairs) (omega arith)
