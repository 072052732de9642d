-- `eventgrid::grid::checked_grid` meets its contract: the passed checks give what `event_grid` requires (`Grids`). Assumes nothing.
use Rattle.bondevents.proofs.Grids.{settled, leg-sized, calls-sized, puts-sized}
use Rattle.eventgrid.proofs.grid.checked_grid.Goals as goal

pub event_grid-requires : goal.event_grid-requires
event_grid-requires c =
    let checks = c.grid_checks.ensures in
    let passed = c.in_ok-grid_checks.was in
    let steps = settled _ _ _ _ checks passed in
    let leg = leg-sized _ _ _ _ checks passed in
    let calls = (calls-sized _ _ _ _ checks passed).entries in
    let puts = (puts-sized _ _ _ _ checks passed).entries in
    record {
      le_maximum = (steps.some-steps, steps.few-steps);
      days_len_bound = (leg.few, leg.kinds_too, leg.amounts_too);
      ends_len = (calls.ends_too, calls.strikes_too);
      put_ends_len = (puts.ends_too, puts.strikes_too);
    }
