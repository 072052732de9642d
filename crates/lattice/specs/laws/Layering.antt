-- What the layers of a tree leave in the slices, from the last one back to the front: no step left, a step refused, and a step grown before the rest. Assumes nothing.
use Rattle.std.specs.Prelude.{ℕ, ◌+◌, ◌≤◌, ◌≡◌, refl, false, length, set, ℤ, Float, Ok}
use Rattle.std.proofs.Common.{arith}
use mathlib.Core.List.{List, [], ◌∷◌}
use Rattle.terms.specs.laws.Outcomes.{same_given}
use Rattle.hullwhite.specs.laws.Filled.{check_of}
use Rattle.lattice.specs.Layers.{Room}
use Rattle.lattice.specs.Lattice.{grown}
use Rattle.lattice.specs.laws.Laid.{layers_in, final_in, last_laid}
use Rattle.lattice.specs.laws.LaidTree.{LaidTree, LaysTree}
use Rattle.lattice.specs.laws.Growing.{Front}
use Rattle.lattice.specs.laws.LayersMore.{numbers_of}

-- ---- no step left

module _ {one two c : ℕ} {decay spacing : Float} {nodes : List ℤ} {probabilities : List Float} (f : Front c spacing decay nodes probabilities) (h : c ≤ one) (i : c ≤ two) where
  last_tree : LaidTree false one two c (numbers_of c nodes) (record { layers = []; final = numbers_of c nodes }) (c ∷ []) [] nodes probabilities
  unfolding layers_in final_in
  last_tree = record { others = []; counted = refl; first_layer = refl; layers = refl; final = refl; laid = last_laid f.pairs h i }

  pub layers_last : (room : Room) (step : ℕ) (variances : List Float) (counts : List ℕ) (spacings : List Float) → length variances ≡ 0 → length counts ≡ length variances + 1 → length spacings ≡ length variances
      → LaysTree false one two c (numbers_of c nodes) (grown room decay spacing 0 (numbers_of c nodes) step variances) (Ok tt) (set counts 0 c) spacings nodes probabilities
  unfolding grown check_of
  layers_last room step [] (x ∷ []) [] a b d = record { outcome = refl; tree = λ t e. rw (← same_given e) last_tree }
  layers_last room step (v ∷ vs) counts spacings a b d = absurd (omega arith)
  layers_last room step [] [] spacings a b d = absurd (omega arith)
  layers_last room step [] (x ∷ y ∷ counts) spacings a b d = absurd (omega arith)
  layers_last room step [] (x ∷ []) (s ∷ spacings) a b d = absurd (omega arith)

-- ---- one step
