-- `with_flow` meets its contract. Assumes nothing.
use Rattle.std.proofs.Common.{rules}
use Rattle.floats.specs.Answers.{on_outcome}
use Rattle.bondpricer.proofs.Flowing.{at_time, no_factor}
use Rattle.bondpricer.proofs.with_flow.Goals as goal

pub returns-in_err-factor : goal.returns-in_err-factor
returns-in_err-factor c = no_factor _ _ _ _ _ _ _ c.time_from-time.ensures c.curve_at.ensures c.in_err-factor.was (search rules)

pub returns-in_err-discount : goal.returns-in_err-discount
unfolding on_outcome
returns-in_err-discount c = at_time _ _ _ _ _ _ _ c.time_from-time.ensures c.curve_at.ensures c.in_ok-factor.was (search rules)

pub returns-in_err-x : goal.returns-in_err-x
unfolding on_outcome
returns-in_err-x c = at_time _ _ _ _ _ _ _ c.time_from-time.ensures c.curve_at.ensures c.in_ok-factor.was (search rules)

pub returns-in_err-spread_discount : goal.returns-in_err-spread_discount
unfolding on_outcome
returns-in_err-spread_discount c = at_time _ _ _ _ _ _ _ c.time_from-time.ensures c.curve_at.ensures c.in_ok-factor.was (search rules)

pub returns-in_err-y : goal.returns-in_err-y
unfolding on_outcome
returns-in_err-y c = at_time _ _ _ _ _ _ _ c.time_from-time.ensures c.curve_at.ensures c.in_ok-factor.was (search rules)

pub returns-in_err-z : goal.returns-in_err-z
unfolding on_outcome
returns-in_err-z c = at_time _ _ _ _ _ _ _ c.time_from-time.ensures c.curve_at.ensures c.in_ok-factor.was (search rules)

pub returns : goal.returns
unfolding on_outcome
returns c = at_time _ _ _ _ _ _ _ c.time_from-time.ensures c.curve_at.ensures c.in_ok-factor.was (search rules)
