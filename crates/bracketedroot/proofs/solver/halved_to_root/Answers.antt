-- `solver::halved_to_root` meets its contract. Assumes nothing.
use native.Mathlib.Omega.{arith}
use Rattle.std.proofs.Common.{rules}
use Rattle.sought.specs.laws.Sought.{still_ready}
use Rattle.bracketedroot.proofs.solver.Rounds.{halving-starts, halving_goes_on, halving_finds, halving-stops, halving-ends}
use Rattle.bracketedroot.proofs.solver.halved_to_root.Goals as goal

pub loop-init : goal.loop-init
loop-init c = halving-starts _ _ c.requires.evaluations_bound

pub halve-requires : goal.halve-requires
halve-requires c = record { ready = still_ready _ c.requires.ready c.loop.auto.first c.loop.auto.second; evaluations_bound = omega (arith, c.loop.invariant.room) }

pub loop-preserved : goal.loop-preserved
loop-preserved c = halving_goes_on _ _ _ _ c.loop.invariant (omega (arith, c.loop-test.true)) _ c.halve.ensures c.in_ok-next.was c.in-Next.is

pub returns-in-Found : goal.returns-in-Found
returns-in-Found c = halving_finds _ _ _ _ c.loop.invariant (omega (arith, c.loop-test.true)) _ c.halve.ensures c.in_ok-next.was c.in-Found.is

pub returns-in_err-next : goal.returns-in_err-next
returns-in_err-next c = halving-stops _ _ _ _ c.loop.invariant (omega (arith, c.loop-test.true)) c.halve.ensures c.in_err-next.was (search rules)

pub returns : goal.returns
returns c = halving-ends _ _ _ _ c.loop.invariant (omega (arith, c.loop-test.false))
