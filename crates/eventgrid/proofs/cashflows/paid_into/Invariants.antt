-- `bondevents::cashflows::paid_into` meets its contract: the loop's invariant is `Paying`. Assumes nothing.
use Rattle.bondevents.specs.Parts.{axis_in}
use Rattle.bondevents.proofs.Paying.{Paying}
use Rattle.eventgrid.proofs.cashflows.paid_into.Given as goal

abbrev pub invariant-loop-i : goal.invariant-loop-i
invariant-loop-i l = Paying (axis_in l.axis) l.days l.amounts l.row l.i
