-- `bondevents::schedule::over_entries` meets its contract: the loop's invariant is `Entering`. Assumes nothing.
use Rattle.bondevents.specs.Parts.{axis_in, without_puts}
use Rattle.terms.specs.Market.{leg_of}
use Rattle.bondevents.proofs.Entering.{Entering}
use Rattle.eventgrid.proofs.schedule.over_entries.Given as goal

abbrev pub invariant-loop-at : goal.invariant-loop-at
invariant-loop-at l =
    Entering l.side (axis_in l.axis) (without_puts (leg_of l.leg) l.units) l.entries.starts.now l.entries.ends.now l.entries.strikes.now l.initial.row l.row l.at
