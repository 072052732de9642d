-- What a step that was grown brings: its transitions go along its layer, the next layer is known, its spacing is not below 0, and it fits. Assumes nothing.
use Rattle.std.specs.Prelude.{◌+◌, ◌≡◌, refl, Bool, true, false, cond, List, length, ℤ, Err}
use Rattle.floats.specs.Refusals.{Refusal}
use Rattle.rounded.specs.laws.RootBounds.{NotBelow}
use Rattle.floats.specs.Answers.{Outcome}
use Rattle.terms.specs.laws.Outcomes.{Gives, nothing}
use Rattle.lattice.specs.Layers.{Room}
use Rattle.lattice.specs.Transitions.{Step}
use Rattle.lattice.specs.Lattice.{destinations}
use Rattle.lattice.specs.laws.RoomTest.{Fitting}
use Rattle.lattice.specs.laws.Middles.{Along}
use Rattle.lattice.specs.laws.NextLayer.{NextLayer}
use Rattle.lattice.specs.laws.Growing.{Grew}

pub gives-true : {A : Type 0} {P : A → Type 0} (b : Bool) (o : Outcome A) (r : Refusal) → (b ≡ true → Gives P o) → Gives P (cond b o (Err r))
gives-true true o r h = h refl
gives-true false o r h = nothing

-- ---- one step

pub record Next (room : Room) (nodes : List ℤ) (g : Grew) : Type 0 where
  pub step : Step
  pub along : Along step nodes g.transitions
  pub next : NextLayer g.transitions
  pub new : NotBelow g.spacing
  pub fit : Fitting room (length nodes + length (destinations g.transitions)) (length (destinations g.transitions))
