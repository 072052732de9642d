-- `prices::summed_row` meets its contract. Assumes nothing.
use Rattle.interestrate.proofs.prices.Flowing.{Going}
use Rattle.interestrate.proofs.prices.summed_row.Given as goal

abbrev pub invariant-loop-i : goal.invariant-loop-i
invariant-loop-i l = Going l.fn.at.rate l.fn.at.compounding l.fn.at.settlement l.days l.amounts l.fn.first.price l.fn.first.derivative l.i l.sum.price l.sum.derivative
