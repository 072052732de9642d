-- The fit of one step over the two lent rows. Assumes nothing.
use Rattle.std.specs.Prelude.{ℕ, Bool, cond, List, take, ℤ, Float, Ok}
use Rattle.floats.specs.Answers.{Answer, plus_zero, follow, Outcome}
use Rattle.lattice.specs.Layers.{At}
use Rattle.forwardinduction.specs.Fit.{weighted, shift_of}
use Rattle.lattice.specs.laws.Stored.{numbers_in, row_of}
use Rattle.lattice.specs.laws.Positions.{start_of}
use Rattle.lattice.specs.laws.Rows.{even, current_part, Both}
use Rattle.forwardinduction.specs.laws.FitSteps.{onward_at}

-- The weighted sum, then the shift.
abbrev pub layer_shift : (Float → ℕ → Answer) → Float → ℕ → Float → List At → Answer
layer_shift curve dt place spacing row = follow (weighted spacing dt place row plus_zero) λ sum. shift_of curve dt place sum

-- The contributions of the current row into the other.
unfoldable pub advanced_at : Float → Float → Float → ℕ → Bool → ℕ → List ℤ → List Float → Both → Outcome Both
unfolding onward_at
advanced_at spacing dt shift step flat count nodes probabilities rows =
    cond (even step)
    (follow (onward_at spacing dt shift step flat (start_of nodes) nodes probabilities (take count rows.first) rows.second) λ o. Ok (record { first = rows.first; second = o }))
    (follow (onward_at spacing dt shift step flat (start_of nodes) nodes probabilities (take count rows.second) rows.first) λ o. Ok (record { first = o; second = rows.second }))

-- A step's shift, and the rows after it.
pub record Moved : Type 0 where
  pub shift : Float
  pub rows : Both

-- One step of the fit: the shift of the current row, then the other row.
unfoldable pub step_at : (Float → ℕ → Answer) → Float → ℕ → Bool → ℕ → Float → List ℤ → List Float → Both → Outcome Moved
unfolding advanced_at weighted shift_of
step_at curve dt step flat count spacing nodes probabilities rows =
    follow (layer_shift curve dt step spacing (row_of (numbers_in nodes) (current_part step count rows.first rows.second))) λ shift.
    follow (advanced_at spacing dt shift step flat count nodes probabilities rows) λ rows. Ok (record { shift = shift; rows = rows })
