-- `bondevents::calls::over_window` meets its contract: the loop's invariant is `Scanning`. Assumes nothing.
use lib.ListN.{get_or}
use lib.Ieee.{nan}
use Rattle.bondevents.specs.Parts.{axis_in, in_window, priced}
use Rattle.bondevents.proofs.Scanning.{Scanning}
use Rattle.bondevents.proofs.calls.over_window.Given as goal

abbrev pub invariant-loop-step : goal.invariant-loop-step
invariant-loop-step l = Scanning l.side (in_window (axis_in l.axis) l.from l.to) (λ step. priced l.strike (get_or l.principals step nan) l.units) l.axis.steps l.initial.row l.row l.step
