-- `objectives::at_yield` meets its contract. Assumes nothing.
use Rattle.std.proofs.Common.{rules}
use Rattle.sought.specs.Objectives.{objective}
use Rattle.interestrate.proofs.Laws.{priced, no_price}
use Rattle.sought.proofs.objectives.at_yield.Goals as goal

pub returns-in_err-at_y : goal.returns-in_err-at_y
unfolding objective
returns-in_err-at_y c = no_price _ _ _ c.yield_price_and_derivative.ensures c.in_err-at_y.was (search rules)

pub returns : goal.returns
unfolding objective
returns c = priced _ _ _ c.yield_price_and_derivative.ensures c.in_ok-at_y.was c.above_target.ensures
