-- `highest_version` meets its contract: in the loop, the highest version of the notices before the index is kept (`Climbing`). Assumes nothing.
use Rattle.callnotices.proofs.Climbing.{Climbing}
use Rattle.callnotices.proofs.standing.highest_version.Given as goal

abbrev pub invariant-loop-i : goal.invariant-loop-i
invariant-loop-i l = Climbing l.notices.series.now l.notices.versions.now l.s l.so_far l.i
