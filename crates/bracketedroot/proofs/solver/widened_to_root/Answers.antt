-- `solver::widened_to_root` meets its contract. Assumes nothing.
use mathlib.Core.Path.{◌∙◌}
use native.Mathlib.Omega.{arith}
use Rattle.std.proofs.Common.{rules}
use Rattle.sought.specs.laws.Sought.{still_ready}
use Rattle.bracketedroot.proofs.solver.Rounds.{widening-starts, widening_goes_on, last_room, widening_settles, widening-stops, end-room, widening-ends}
use Rattle.bracketedroot.proofs.solver.widened_to_root.Goals as goal

pub loop-init : goal.loop-init
loop-init c = widening-starts _ _ _ c.requires.evaluations_bound

pub widen-requires : goal.widen-requires
widen-requires c = record { ready = still_ready _ c.requires.ready c.loop.auto.first c.loop.auto.second; evaluations_bound = omega (arith, c.loop.invariant.room) }

pub loop-preserved : goal.loop-preserved
loop-preserved c = widening_goes_on _ _ _ _ _ c.loop.invariant (omega (arith, c.loop-test.true)) _ c.widen.ensures c.in_ok-next.was c.in-Next.is

pub settle-requires : goal.settle-requires
settle-requires c =
    record {
      ready = still_ready _ c.requires.ready (c.widen.auto.first ∙ c.loop.auto.first) (c.widen.auto.second ∙ c.loop.auto.second);
      evaluations_bound = last_room _ _ _ _ _ c.loop.invariant (omega (arith, c.loop-test.true)) _ c.widen.ensures c.in_ok-next.was c.in-Last.is;
    }

pub returns-in-Last : goal.returns-in-Last
returns-in-Last c = widening_settles _ _ _ _ _ c.loop.invariant (omega (arith, c.loop-test.true)) _ c.widen.ensures c.in_ok-next.was c.in-Last.is c.settle.ensures

pub returns-in_err-next : goal.returns-in_err-next
returns-in_err-next c = widening-stops _ _ _ _ _ c.loop.invariant (omega (arith, c.loop-test.true)) c.widen.ensures c.in_err-next.was (search rules)

pub settle-requires-2 : goal.settle-requires-2
settle-requires-2 c = record { ready = still_ready _ c.requires.ready c.loop.auto.first c.loop.auto.second; evaluations_bound = end-room _ _ _ _ _ c.loop.invariant (omega arith) }

pub returns : goal.returns
returns c = widening-ends _ _ _ _ _ c.loop.invariant (omega (arith, c.loop-test.false)) c.settle-2.ensures
