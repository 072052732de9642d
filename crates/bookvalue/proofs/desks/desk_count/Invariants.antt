-- `desk_count` meets its contract: in the loop, the sum of the counts of the desk's bonds before i, which fits 64 bits. Assumes nothing.
use lib.ListN.{get_or}
use Rattle.bookvalue.proofs.laws.Summing.{Totalling}
use Rattle.bookvalue.proofs.desks.desk_count.Given as goal

abbrev pub invariant-loop-i : goal.invariant-loop-i
invariant-loop-i l = Totalling (λ k. get_or l.desks k 0) l.desk l.counts l.size l.i l.total
