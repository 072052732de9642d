-- `sum_of` meets its contract: in the loop, the sum of the values before i, each finite so far. Assumes nothing.
use Rattle.bookvalue.proofs.laws.Summing.{Summing}
use Rattle.bookvalue.proofs.answers.sum_of.Given as goal

abbrev pub invariant-loop-i : goal.invariant-loop-i
invariant-loop-i l = Summing l.values l.size l.i l.sum
