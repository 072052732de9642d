-- `eventgrid::grid::bond_event_grid` meets its contract: the grid, or a refusal beside a grid that is all zero (`Grids`). Assumes nothing.
use mathlib.Core.Path.{◌∙◌}
use Rattle.floats.proofs.Lent.{passes-call, refuses-call, at_refusal}
use Rattle.bondevents.proofs.Grids.{answer_of-grid, answer_of-refusal}
use Rattle.eventgrid.proofs.grid.bond_event_grid.Goals as goal

pub returns-in-Ok : goal.returns-in-Ok
returns-in-Ok c = answer_of-grid _ _ _ _ c.checked_grid.ensures.written (passes-call _ c.in-Ok.is)

pub returns-in-Err : goal.returns-in-Err
returns-in-Err c =
    answer_of-refusal _ _ _ _ c.checked_grid.ensures.written (refuses-call _ c.in-Err.is) (at_refusal c.checked_grid.ensures.untouched c.in-Err.is ∙ c.zero_grid-grid.ensures)
