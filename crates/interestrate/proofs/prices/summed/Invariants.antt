-- `prices::summed` meets its contract. Assumes nothing.
use Rattle.interestrate.proofs.prices.Flowing.{Going}
use Rattle.interestrate.proofs.prices.summed.Given as goal

abbrev pub invariant-loop-i : goal.invariant-loop-i
invariant-loop-i l = Going l.at.rate l.at.compounding l.at.settlement l.days l.amounts l.fn.first.price l.fn.first.derivative l.i l.sum.price l.sum.derivative
