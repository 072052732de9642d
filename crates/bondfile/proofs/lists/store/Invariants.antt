-- In the loop the entries that came are stored. Assumes nothing.
use Rattle.std.proofs.Common.{◌≡◌, ◌++◌, map, length, take, drop}
use Rattle.bondfile.specs.Entries.{number_of}
use Rattle.bondfile.specs.File.{entries_of, of_kind}
use Rattle.bondfile.specs.Walks.{Reads}
use Rattle.bondfile.proofs.lists.store.Given as goal

abbrev pub invariant-loop-entry : goal.invariant-loop-entry
invariant-loop-entry g l =
    (goal.iterator-loop-entry g).can_next l.entry-iterator
    × (goal.iterator-loop-entry g).is_finite l.entry-iterator
    × (l.stored ≡ length l.yielded)
    × (length l.out ≡ length l.initial.out)
    × ((p : _) → Reads (goal.F-post g) l.part p → l.out ≡ map p (take l.stored (take (length l.initial.out) (of_kind (number_of l.fn.kind) (entries_of l.text)))) ++ drop l.stored l.initial.out)
