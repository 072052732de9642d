-- `pillar_times` meets its contract: in the loop, the times before i are the days'. Assumes nothing.
use Rattle.terms.specs.Times.{time_from}
use Rattle.terms.proofs.Timing.{Timed}
use Rattle.terms.proofs.curve.pillar_times.Given as goal

abbrev pub invariant-loop-i : goal.invariant-loop-i
invariant-loop-i l = Timed (time_from l.epoch) l.days 256 l.times l.i
