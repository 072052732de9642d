-- `eventgrid::cashflows::paid_into` meets its contract: the loop's invariant is `Paying`. Assumes nothing.
use Rattle.bondevents.proofs.Paying.{paying}
use Rattle.eventgrid.proofs.cashflows.paid_into.Goals as goal

pub loop-i-preserved : goal.loop-i-preserved
loop-i-preserved c = search (paying, c.step_of-step.ensures)

pub loop-i-preserved-then-days-i : goal.loop-i-preserved-then-days-i
loop-i-preserved-then-days-i c = search paying

pub returns : goal.returns
returns c = search paying
