-- `yields::yield_from_price` meets its contract. Assumes nothing.
use Rattle.std.proofs.Common.{rules}
use Rattle.brackets.proofs.Laws.{was_given, was_refused, refused_after}
use Rattle.bondanalytics.proofs.Entering.{same_count, yield-refused, yield-unknown, yield-given}
use Rattle.bondanalytics.proofs.yields.yield_from_price.Goals as goal

pub returns-in_err-counted : goal.returns-in_err-counted
returns-in_err-counted c =
    yield-refused _ _ _ _ _ _ c.rate_of-found.ensures c.rate_check.ensures c.target_checks-checked.ensures
    (was_refused _ c.counted.ensures c.in_err-counted.was)
    (refused_after _ _ c.counted.ensures c.in_err-counted.was (search rules))

pub returns-in_err-rate : goal.returns-in_err-rate
returns-in_err-rate c =
    yield-unknown _ _ _ _ _ _ c.rate_of-found.ensures c.rate_check.ensures c.target_checks-checked.ensures
    (was_given _ c.counted.ensures c.in_ok-counted.was)
    (was_refused _ c.counted-2.ensures c.in_err-rate.was)
    (refused_after _ _ c.counted-2.ensures c.in_err-rate.was (search rules))

pub solve_yield-requires : goal.solve_yield-requires
solve_yield-requires c =
    same_count _ _ _ _ _ _ c.rate_of-found.result c.rate_of-found.ensures c.rate_check.ensures c.target_checks-checked.ensures
    (was_given _ c.counted.ensures c.in_ok-counted.was)

pub returns : goal.returns
returns c =
    yield-given _ _ _ _ _ _ c.rate_of-found.ensures c.rate_check.ensures c.target_checks-checked.ensures c.epoch_of-epoch.ensures
    (was_given _ c.counted.ensures c.in_ok-counted.was)
    (was_given _ c.counted-2.ensures c.in_ok-rate.was)
    c.solve_yield.ensures
