-- `first_version` meets its contract: in the loop, no notice before the index has the series and version (`Looking`). Assumes nothing.
use Rattle.callnotices.specs.Standing.{is_version}
use Rattle.callnotices.proofs.Looking.{Looking}
use Rattle.callnotices.proofs.standing.first_version.Given as goal

abbrev pub invariant-loop-i : goal.invariant-loop-i
invariant-loop-i l = Looking (is_version l.notices.series.now l.notices.versions.now l.s l.version) l.count l.i
