-- `checked_spread` meets its contract: the grid, then the root (`SpreadSolved`). Assumes nothing.
use Rattle.std.proofs.Common.{rules}
use Rattle.floats.proofs.Lent.{passes-call, refuses-call}
use Rattle.treebasedbondpricer.specs.laws.Entered.{steps_of-grid}
use Rattle.brackets.proofs.Laws.{was_given, was_refused, refused_after}
use Rattle.spreads.specs.laws.SpreadSolved.{root_unchecked, root-checked}
use Rattle.spreads.proofs.spreads.checked_spread.Goals as goal

pub returns-in_err-counted : goal.returns-in_err-counted
returns-in_err-counted c =
    root_unchecked _ _ _ c.event_grid-answer.ensures.written (refuses-call _ (was_refused _ c.counted.ensures c.in_err-counted.was))
    (refused_after _ _ c.counted.ensures c.in_err-counted.was (search rules))

pub solve_grid-requires : goal.solve_grid-requires
solve_grid-requires c =
    steps_of-grid _ _ _ _ c.event_grid-answer.ensures.written (passes-call _ (was_given _ c.counted.ensures c.in_ok-counted.was)) c.requires.le_maximum.0 c.requires.le_maximum.1

pub returns : goal.returns
returns c =
    root-checked _ _ _ c.event_grid-answer.ensures.written c.requires.curve_times_value (passes-call _ (was_given _ c.counted.ensures c.in_ok-counted.was)) c.solve_grid.ensures
