-- `bondevents::marks::each_step` meets its contract: the loop's invariant is `Copying`. Assumes nothing.
use mathlib.Core.Path.{◌≡◌}
use Rattle.bondevents.specs.declared.CallStep.{CallStep}
use Rattle.bondevents.proofs.Copying.{past_end, Copying}
use Rattle.bondevents.proofs.marks.each_step.Given as goal

abbrev pub invariant-loop-i : goal.invariant-loop-i
invariant-loop-i g l = (reading : _) → ((step : CallStep) (r : _) → goal.F-post g l.read step r → r ≡ reading step) → Copying reading past_end 513 l.steps l.i l.row
