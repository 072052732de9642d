-- Definitions only. The event grid and the grid entry.
use Rattle.std.specs.Prelude.{replicate, Ok, Some, None}
use Rattle.floats.specs.Refusals.{Refusal}
use Rattle.floats.specs.Answers.{plus_zero, Outcome, follow, on_outcome}
use Rattle.terms.specs.declared.Settlement.{Settlement}
use Rattle.terms.specs.Terms.{Leg, CallSchedule, Bond, TimeGrid}
use Rattle.terms.specs.Times.{year_fraction}
use Rattle.terms.specs.Checks.{on_check}
use Rattle.terms.specs.Entries.{grid_checks}
use Rattle.bondevents.specs.declared.BondEventGrid.{BondEventGrid}
use Rattle.bondevents.specs.declared.GridAnswer.{GridAnswer}
use Rattle.bondevents.specs.Steps.{Axis, maturity_time, steps_of, step_cashflows}
use Rattle.bondevents.specs.Calls.{new_step, call_steps}

-- T and steps of a bond's grid.
unfoldable pub axis_of : Settlement → Leg → TimeGrid → Axis
unfolding steps_of
axis_of settlement leg controls =
    record {
      settlement = settlement.day;
      time = year_fraction settlement;
      maturity = maturity_time settlement leg;
      steps = steps_of (maturity_time settlement leg) controls;
    }

-- bond_event_grid: the grid of checked terms, or 20 or 27 at place 0, or 38 at its step.
unfoldable pub event_grid : Settlement → Bond → CallSchedule → TimeGrid → Outcome BondEventGrid
unfolding axis_of call_steps
event_grid settlement bond calls controls =
    let a = axis_of settlement bond.leg controls in
    follow (call_steps a bond calls) λ cs.
    Ok
    (record {
      maturity_time = a.maturity;
      steps = a.steps;
      cashflows = step_cashflows a bond.leg;
      calls = cs;
    })

-- A refused grid is all zero.
abbrev pub zero_grid : BondEventGrid
zero_grid = record { maturity_time = plus_zero; steps = 0; cashflows = replicate 513 plus_zero; calls = replicate 513 new_step }

abbrev pub refused_grid : Refusal → GridAnswer
refused_grid r = record { refusal = Some r; grid = zero_grid }

abbrev pub accepted_grid : BondEventGrid → GridAnswer
accepted_grid g = record { refusal = None; grid = g }

-- The grid entry: the input checks, then the grid.
unfoldable pub grid_answer : Settlement → Bond → CallSchedule → TimeGrid → GridAnswer
unfolding grid_checks event_grid
grid_answer settlement bond calls controls =
    on_check (grid_checks settlement bond calls controls) refused_grid
    (on_outcome (event_grid settlement bond calls controls) refused_grid accepted_grid)
