-- `all_flows` meets its contract. Assumes nothing.
use Rattle.terms.specs.Curve.{curve_over}
use Rattle.bondpricer.proofs.Flowing.{Going}
use Rattle.bondpricer.proofs.all_flows.Given as goal

abbrev pub invariant-loop-i : goal.invariant-loop-i
invariant-loop-i l = Going (curve_over l.by.curve.times.now l.by.curve.factors.now) l.by.settlement l.by.spread l.by.reference l.leg.days.now l.leg.amounts.now l.i l.value
