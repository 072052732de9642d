-- `refused_first` meets its contract: what the call says at an index is the cause there. Assumes nothing.
use Rattle.std.proofs.Common.{arith, refl}
use Rattle.terms.proofs.Seeking.{turn, found, done}
use Rattle.terms.proofs.refusing.refused_first.Goals as goal

pub returns-then-bad : goal.returns-then-bad
returns-then-bad g c =
    λ cause says. found c.args.reason cause c.args.count c.loop-i.i (c.loop-i.invariant cause says) (omega arith) (says c.loop-i.i c.bad.result (omega arith) c.bad.ensures) c.if-bad.true c.refused_at.ensures

pub loop-i-preserved : goal.loop-i-preserved
loop-i-preserved g c =
    λ cause says. turn c.args.reason cause c.args.count c.loop-i.i (c.loop-i.invariant cause says) (omega arith) (says c.loop-i.i c.bad.result (omega arith) c.bad.ensures) c.if-bad.false

pub returns : goal.returns
returns g c = λ cause says. done c.args.reason cause c.args.count c.loop-i.i (c.loop-i.invariant cause says) (omega arith) refl
