-- `prices::yield_price_and_derivative` meets its contract: the parts that are left give the whole answer. Assumes nothing.
use Rattle.std.specs.Iterator.Adapters.{zip_first, zip_second}
use Rattle.std.specs.Slice.Iter.{chunks_rest, chunks_size}
use Rattle.floats.specs.Answers.{plus_zero}
use Rattle.interestrate.proofs.prices.Flowing.{Parting}
use Rattle.interestrate.proofs.prices.yield_price_and_derivative.Given as goal

abbrev pub invariant-loop-days : goal.invariant-loop-days
invariant-loop-days l =
    goal.iterator-loop-days.can_next l.days-iterator
    × goal.iterator-loop-days.is_finite l.days-iterator
    × Parting l.at.rate l.at.compounding l.at.settlement l.leg.days.now l.leg.amounts.now plus_zero plus_zero
    (chunks_size (zip_first l.days-iterator)) (chunks_rest (zip_first l.days-iterator))
    (chunks_size (zip_second l.days-iterator)) (chunks_rest (zip_second l.days-iterator))
    l.sum.price l.sum.derivative
