-- Which of the two lent rows is current at a step. Assumes nothing.
use Rattle.std.specs.Prelude.{ℕ, ◌%◌, Bool, cond, List, take, eqb, Float}

-- An even step.
abbrev pub even : ℕ → Bool
even step = eqb (step % 2) 0

-- At an even step a part of the first row, at an odd step of the second.
abbrev pub current_part : ℕ → ℕ → List Float → List Float → List Float
current_part step count first second = cond (even step) (take count first) (take count second)

-- The two lent rows.
pub record Both : Type 0 where
  pub first : List Float
  pub second : List Float
