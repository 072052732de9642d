-- `first_entry` meets its contract: in the loop, the sum of the counts before k. Assumes nothing.
use Rattle.bookchecks.proofs.Summing.{Summed}
use Rattle.bookchecks.proofs.parts.first_entry.Given as goal

abbrev pub invariant-loop-k : goal.invariant-loop-k
invariant-loop-k l = Summed l.counts l.i l.total l.k
