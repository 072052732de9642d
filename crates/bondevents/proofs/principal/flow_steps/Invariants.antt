-- `bondevents::principal::flow_steps` meets its contract: the loop's invariant is `Filling`. Assumes nothing.
use Prim.Native.Nat.{◌≤◌}
use lib.ListN.{length, get_or}
use Rattle.bondevents.specs.Calls.{redemption_step_of}
use Rattle.bondevents.specs.Parts.{axis_in}
use Rattle.bondevents.proofs.Filling.{Filling}
use Rattle.bondevents.proofs.principal.flow_steps.Given as goal

abbrev pub invariant-loop-i : goal.invariant-loop-i
invariant-loop-i l = (l.i ≤ length l.days) × Filling (λ k. redemption_step_of (axis_in l.axis) (get_or l.days k 0)) 0 256 l.i l.table
