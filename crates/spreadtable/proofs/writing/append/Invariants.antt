-- `writing::append` meets its contract. Assumes nothing.
use Rattle.spreadtable.proofs.Appending.{Appending}
use Rattle.spreadtable.proofs.writing.append.Given as goal

abbrev pub invariant-loop-byte : goal.invariant-loop-byte
invariant-loop-byte l = Appending l.initial.page l.initial.length l.text l.page l.length l.byte-index
