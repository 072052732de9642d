-- `bondevents::principal::window_principals` meets its contract: the loop's invariant is `Filling`. Assumes nothing.
use mathlib.Core.Path.{◌≡◌}
use lib.ListN.{length}
use lib.Dec.{ltb}
use lib.Ieee.{nan}
use Rattle.floats.specs.Answers.{plus_zero}
use Rattle.bondevents.specs.Calls.{redemptions}
use Rattle.bondevents.proofs.Filling.{Filling}
use Rattle.bondevents.proofs.principal.window_principals.Given as goal

abbrev pub invariant-loop-step : goal.invariant-loop-step
invariant-loop-step l =
    (length l.reached ≡ 256)
    × Filling (λ k. redemptions (ltb k) l.reached l.leg.kinds.now l.leg.amounts.now plus_zero) nan 513 l.step l.table
