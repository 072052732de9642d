-- Definitions only. What the parts of the grid hand to one another: a price from its principal, the steps of one entry by any test and price, and the steps as marks beside prices.
use Rattle.std.specs.Prelude.{ℕ, zero, suc, ◌<◌, ◌≡◌, Bool, cond, ◌&&◌, List, [], ◌∷◌, length, get_or, replicate, ltb, Float, Ok, Err}
use Rattle.std.specs.Float.{nan, binary64}
use Rattle.std.specs.Float.Ieee.{add, mul, div, le}
use Rattle.floats.specs.Answers.{Answer, plus_zero, refusal, tested, when_finite, Outcome, follow}
use Rattle.terms.specs.Checks.{on_check}
use Rattle.terms.specs.declared.Epoch.{Epoch}
use Rattle.terms.specs.Times.{time_from}
use Rattle.terms.specs.Numbers.{tolerance}
use Rattle.terms.specs.declared.Settlement.{Settlement}
use Rattle.terms.specs.Terms.{Leg, CallSchedule, Bond, TimeGrid, no_entries}
use Rattle.terms.specs.Entries.{grid_checks}
use Rattle.bondevents.specs.declared.axis.Axis.{Axis as LentAxis}
use Rattle.bondevents.specs.declared.Side.{Side}
use Rattle.bondevents.specs.declared.Side.TheVariants.{Call, Put}
use Rattle.bondevents.specs.declared.Exercise.{Exercise}
use Rattle.bondevents.specs.declared.CallStep.{CallStep}
use Rattle.bondevents.specs.declared.BondEventGrid.{BondEventGrid}
use Rattle.bondevents.specs.Steps.{Axis}
use Rattle.bondevents.specs.Calls.{Entry, none, keep, grid_time, redemptions, redemption_step_of}
use Rattle.bondevents.specs.Grid.{event_grid, zero_grid}
use Rattle.floats.specs.declared.Reason.TheVariants as reason

-- What the parallel parameters of the code make together.
abbrev pub axis_at : Epoch → Float → ℕ → Axis
axis_at settlement maturity steps =
    record { settlement = settlement.day; time = time_from settlement; maturity = maturity; steps = steps }

abbrev pub axis_in : LentAxis → Axis
axis_in axis = axis_at axis.settlement axis.maturity axis.steps

-- Prices don't read the puts of the bond.
abbrev pub without_puts : Leg → Float → Bond
without_puts leg units = record { leg = leg; units = units; puts = no_entries }

abbrev pub entry_of : ℕ → ℕ → Float → Entry
entry_of start end strike = record { start = start; end = end; strike = strike }

-- 20: no principal. Price: strike × principal/units.
abbrev pub priced : Float → Float → Float → Answer
priced strike principal units =
    cond (le principal plus_zero) (refusal reason.NoPrincipal 0) (when_finite (mul binary64 strike principal) 0 λ paid. tested (div binary64 paid units) 0)

-- The step's time within two times, with the tolerance.
abbrev pub in_window : Axis → Float → Float → ℕ → Bool
in_window a from to step = le from (add binary64 (grid_time a step) tolerance) && le (grid_time a step) (add binary64 to tolerance)

-- One entry over the count steps from step on, where `eligible` says at which steps and `price` at which price.
unfoldable pub over_prices : Side → (ℕ → Bool) → (ℕ → Answer) → ℕ → ℕ → List Exercise → Outcome (List Exercise)
unfolding keep
over_prices side eligible price (suc count) step (c ∷ cs) =
    follow
    (cond (eligible step) (follow (price step) λ x. Ok (keep side c x)) (Ok c))
    λ c. follow (over_prices side eligible price count (suc step) cs) λ cs. Ok (c ∷ cs)
over_prices side eligible price (suc count) step [] = Ok []
over_prices side eligible price zero step cs = Ok cs

-- The principal of a window at a step: redemptions whose step exceeds it.
abbrev pub principal_after : Axis → Leg → ℕ → Float
principal_after a leg step = redemptions (λ day. ltb step (redemption_step_of a day)) leg.days leg.kinds leg.amounts plus_zero

-- A table of the step that each cashflow has as a redemption.
pub record FlowSteps (a : Axis) (days table : List ℕ) : Type 0 where
  pub size : length table ≡ 256
  pub at : (i : ℕ) → i < length days → get_or table i 0 ≡ redemption_step_of a (get_or days i 0)

-- A table of a window's principal at each of the count steps from 0 on.
pub record Principals (a : Axis) (leg : Leg) (count : ℕ) (table : List Float) : Type 0 where
  pub size : length table ≡ 513
  pub at : (step : ℕ) → step < count → get_or table step nan ≡ principal_after a leg step

-- No step has a price.
unfoldable pub no_exercises : List Exercise
no_exercises = replicate 513 none

-- The input checks, then the grid.
unfoldable pub checked_grid : Settlement → Bond → CallSchedule → TimeGrid → Outcome BondEventGrid
unfolding grid_checks event_grid
checked_grid settlement bond calls controls = on_check (grid_checks settlement bond calls controls) Err (event_grid settlement bond calls controls)

-- The grid that is all zero.
unfoldable pub no_grid : BondEventGrid
no_grid = zero_grid

-- A mark is 1 where a price stands.
abbrev pub mark_of : Exercise → ℕ
mark_of c = cond c.marked 1 0

-- A step's call, or its put.
unfoldable pub side_of : Side → CallStep → Exercise
side_of Call step = step.call
side_of Put step = step.put

unfoldable pub side_mark : Side → CallStep → ℕ
unfolding side_of
side_mark side step = mark_of (side_of side step)

unfoldable pub side_price : Side → CallStep → Float
unfolding side_of
side_price side step = (side_of side step).price

-- A step's mark for the walk: 0 nothing, 1 a call, 2 a put, 3 both.
abbrev pub step_mark : CallStep → ℕ
step_mark s = cond s.call.marked (cond s.put.marked 3 1) (cond s.put.marked 2 0)

-- The prices of all steps for the walk: call and put of each step side by side.
unfoldable pub step_prices : List CallStep → List Float
step_prices (s ∷ steps) = s.call.price ∷ s.put.price ∷ step_prices steps
step_prices [] = []
