-- The probabilities of a tree: finite and between 0 and 1, whatever the terms. Assumes nothing.
use Rattle.std.specs.Prelude.{List, [], ◌∷◌, T}
use Rattle.std.specs.Float.Ieee.{le}
use Rattle.floats.specs.Answers.{one}
use Rattle.elementary.specs.laws.Values.{Above}
use Rattle.lattice.specs.declared.Transition.{Transition}
use Rattle.lattice.specs.Lattice.{Layer}

-- The three probabilities of a transition, each finite, not below 0 and not above 1.
pub record Weighted (t : Transition) : Type 0 where
  pub down : Above t.probability_down
  pub middle : Above t.probability_middle
  pub up : Above t.probability_up
  pub down_most : T (le t.probability_down one)
  pub middle-most : T (le t.probability_middle one)
  pub up_most : T (le t.probability_up one)

-- Every element has it.
pub data Each {A : Type 0} (P : A → Type 0) : List A → Type 0 where
  none : Each P []
  more : {x : A} {xs : List A} → P x → Each P xs → Each P (x ∷ xs)

-- Every transition of every layer has three such probabilities.
abbrev pub Proper : List Layer → Type 0
Proper = Each λ (l : Layer). Each Weighted l.transitions

-- ---- layer by layer
