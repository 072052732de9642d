-- In the loop no entry of the kind was passed. Assumes nothing.
use Rattle.std.proofs.Common.{◌≡◌, ◌+◌, ◌-◌, ◌≤◌, length}
use Rattle.bondfile.specs.File.{entries_from, of_kind}
use Rattle.bondfile.proofs.file.next_entry.Given as goal

abbrev pub invariant-loop-at : goal.invariant-loop-at
invariant-loop-at l =
    (l.line ≤ l.at + 1)
    × (l.at ≤ length l.text)
    × (of_kind l.kind (entries_from l.text l.at l.line) ≡ of_kind l.kind (entries_from l.text l.fn.at l.fn.line))

abbrev pub decreases-loop-at : goal.decreases-loop-at
decreases-loop-at l = length l.text - l.at
