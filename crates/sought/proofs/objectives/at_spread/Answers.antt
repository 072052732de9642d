-- `objectives::at_spread` meets its contract. Assumes nothing.
use lib.Ieee.{of_int, of_bits}
use Rattle.sought.specs.laws.Sought.{spread_at}
use Rattle.interestrate.proofs.Laws.{prices}
use Rattle.sought.proofs.objectives.at_spread.Goals as goal

pub returns-then-spread : goal.returns-then-spread
unfolding spread_at
returns-then-spread c = search prices

pub returns-then-not_within : goal.returns-then-not_within
unfolding spread_at of_int of_bits
returns-then-not_within c = search prices

pub returns-in_err-value : goal.returns-in_err-value
unfolding spread_at of_int of_bits
returns-in_err-value c = search (prices, c.in_err-value.was)

pub returns : goal.returns
unfolding spread_at of_int of_bits
returns c = search (prices, c.in_ok-value.was)
