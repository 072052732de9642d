-- In the loop the entries that came are stored. Assumes nothing.
use Rattle.std.proofs.Common.{◌≡◌, ◌++◌, map, length, take, drop}
use Rattle.bondfile.specs.File.{entries_of, of_kind}
use Rattle.bondfile.specs.Walks.{ReadsSaid}
use Rattle.bondfile.proofs.lists.store_said.Given as goal

abbrev pub invariant-loop-found : goal.invariant-loop-found
invariant-loop-found g l =
    (goal.iterator-loop-found g).can_next l.found-iterator
    × (goal.iterator-loop-found g).is_finite l.found-iterator
    × (l.stored ≡ length l.yielded)
    × (length l.out ≡ length l.initial.out)
    × ((p : _) → ReadsSaid (goal.F-post g) l.part p → l.out ≡ map p (take l.stored (take (length l.initial.out) (of_kind l.fn.kind (entries_of l.text)))) ++ drop l.stored l.initial.out)
