-- In the loop the lines that are left give the check of the whole file. Assumes nothing.
use Rattle.std.proofs.Common.{◌≡◌, drop, length, replicate}
use Rattle.bondfile.specs.File.{entries_of}
use Rattle.bondfile.specs.Checks.{check_from}
use Rattle.filecheck.proofs.check.checked.Given as goal

abbrev pub invariant-loop-line : goal.invariant-loop-line
invariant-loop-line l =
    (goal.iterator-loop-line).can_next l.line-iterator
    × (goal.iterator-loop-line).is_finite l.line-iterator
    × (check_from l.counts (drop (length l.yielded) (entries_of l.text)) ≡ check_from (replicate 12 0) (entries_of l.text))
