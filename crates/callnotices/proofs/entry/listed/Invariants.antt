-- `listed` meets its contract: in the loop, the entries of the series so far stand in the three rows (`Listing`). Assumes nothing.
use Rattle.callnotices.specs.Notices.{notices_of}
use Rattle.callnotices.proofs.Listing.{Listing}
use Rattle.callnotices.proofs.entry.listed.Given as goal

abbrev pub invariant-loop-before : goal.invariant-loop-before
invariant-loop-before l =
    Listing (notices_of l.notices) l.before l.count l.call_starts l.call_ends l.call_strikes
