-- `holdings` meets its contract: in the loop, the bonds before i stand in their places. Assumes nothing.
use Rattle.bookchecks.specs.Book.{holding_at}
use Rattle.bookchecks.specs.Lent.{fields_of}
use Rattle.bookchecks.specs.laws.Holdings.{Filling, past_end}
use Rattle.bookchecks.proofs.Fields.holdings.Given as goal

abbrev pub invariant-loop-i : goal.invariant-loop-i
invariant-loop-i l = Filling (holding_at (fields_of l.self)) past_end 32 l.i l.table
