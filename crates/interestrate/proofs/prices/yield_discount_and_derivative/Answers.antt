-- `prices::yield_discount_and_derivative` meets its contract, compounding by compounding. Assumes nothing.
use Rattle.interestrate.specs.Prices.{discount_and_derivative}
use Rattle.floats.proofs.Laws.{taken, left}
use Rattle.interestrate.proofs.Laws.{prices}
use Rattle.interestrate.proofs.prices.yield_discount_and_derivative.Goals as goal

pub returns-then-time-frequency : goal.returns-then-time-frequency
unfolding discount_and_derivative
returns-then-time-frequency c = rw (c.in-SimpleThenCompounded.is, ← c.frequency_value-frequency.ensures) (taken _ _ _ c.if-time-frequency.true c.simple-then-time-frequency.ensures)

pub returns-then-time-frequency-2 : goal.returns-then-time-frequency-2
unfolding discount_and_derivative
returns-then-time-frequency-2 c = rw (c.in-CompoundedThenSimple.is, ← c.frequency_value-frequency-in-CompoundedThenSimple.ensures) (search prices)

pub returns-in-Simple : goal.returns-in-Simple
unfolding discount_and_derivative
returns-in-Simple c = rw c.in-Simple.is c.simple.ensures

pub returns-in-Compounded : goal.returns-in-Compounded
unfolding discount_and_derivative
returns-in-Compounded c = rw (c.in-Compounded.is, ← c.frequency_value.ensures) c.compounded.ensures

pub returns-in-Continuous : goal.returns-in-Continuous
unfolding discount_and_derivative
returns-in-Continuous c = rw c.in-Continuous.is c.continuous.ensures

pub returns-else-time-frequency : goal.returns-else-time-frequency
unfolding discount_and_derivative
returns-else-time-frequency c = rw (c.in-SimpleThenCompounded.is, ← c.frequency_value-frequency.ensures) (left _ _ _ c.if-time-frequency.false c.compounded-in-SimpleThenCompounded.ensures)

pub returns-else-time-frequency-2 : goal.returns-else-time-frequency-2
unfolding discount_and_derivative
returns-else-time-frequency-2 c = rw (c.in-CompoundedThenSimple.is, ← c.frequency_value-frequency-in-CompoundedThenSimple.ensures) (search prices)
