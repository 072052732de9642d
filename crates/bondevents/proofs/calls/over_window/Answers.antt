-- `bondevents::calls::over_window` meets its contract: the loop's invariant is `Scanning`. Assumes nothing.
use native.Mathlib.Omega.{arith}
use borrow.Author.Rules.{rules}
use Rattle.floats.proofs.Lent.{refuses-call}
use Rattle.bondevents.proofs.Scanning.{keeps, refuse}
use Rattle.bondevents.proofs.calls.over_window.Goals as goal

pub returns-in_err-price : goal.returns-in_err-price
returns-in_err-price c =
    refuse _ _ _ _ (omega arith) _ _ _ c.loop-step.invariant c.loop-step-test.true c.in_window.ensures (search rules) c.call_price.ensures c.in_err-price.was
    (refuses-call _ (search rules))

pub loop-step-preserved : goal.loop-step-preserved
loop-step-preserved c =
    keeps _ _ _ _ (omega arith) _ _ _ c.loop-step.invariant c.loop-step-test.true c.in_window.ensures (search rules) c.call_price.ensures _ (search rules) c.keep.ensures
