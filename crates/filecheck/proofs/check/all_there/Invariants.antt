-- In the loop no kind was missing. Assumes nothing.
use Rattle.std.proofs.Common.{◌≡◌, drop}
use Rattle.bondfile.specs.Checks.{required, missing_of}
use Rattle.filecheck.proofs.check.all_there.Given as goal

abbrev pub invariant-loop-kind : goal.invariant-loop-kind
invariant-loop-kind l = missing_of (drop l.kind-index required) l.counts ≡ missing_of required l.counts
