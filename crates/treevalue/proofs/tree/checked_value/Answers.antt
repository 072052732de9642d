-- `checked_value` meets its contract: the grid, then the tree (`Entered`). Assumes nothing.
use Rattle.std.proofs.Common.{rules}
use Rattle.floats.proofs.Lent.{passes-call, refuses-call}
use Rattle.treebasedbondpricer.specs.laws.Entered.{value_unchecked, value-checked, steps_of-grid}
use Rattle.treevalue.proofs.tree.checked_value.Goals as goal

pub returns-in_err-event_grid : goal.returns-in_err-event_grid
returns-in_err-event_grid c =
    value_unchecked _ _ _ c.event_grid.ensures.written (refuses-call _ c.in_err-event_grid.was) (search rules)

pub lattice_value-requires : goal.lattice_value-requires
lattice_value-requires c =
    steps_of-grid _ _ _ _ c.event_grid.ensures.written (passes-call _ c.in_ok-event_grid.was) c.requires.le_maximum.0 c.requires.le_maximum.1

pub returns : goal.returns
returns c =
    value-checked _ _ _ c.event_grid.ensures.written c.requires.curve_times_value (passes-call _ c.in_ok-event_grid.was) c.lattice_value.ensures
