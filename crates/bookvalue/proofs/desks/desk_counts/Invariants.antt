-- `desk_counts` meets its contract: in the loop, the counts of the desks before d stand in their places. Assumes nothing.
use lib.ListN.{get_or}
use Rattle.bookchecks.specs.laws.Holdings.{Filling}
use Rattle.bookvalue.specs.Values.{desk_to}
use Rattle.bookvalue.proofs.desks.desk_counts.Given as goal

abbrev pub invariant-loop-d : goal.invariant-loop-d
invariant-loop-d l = Filling (λ k. desk_to (λ i. get_or l.desks i 0) k l.counts l.size) 0 8 l.d l.totals
