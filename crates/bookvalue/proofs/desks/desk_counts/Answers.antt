-- `desk_counts` meets its contract: in the loop, the counts of the desks before d stand in their places. Assumes nothing.
use native.Mathlib.Omega.{arith}
use Rattle.bookvalue.proofs.laws.Summing.{eight}
use Rattle.bookvalue.proofs.desks.desk_counts.Goals as goal

pub returns : goal.returns
returns c = eight _ _ _ (omega arith) c.loop-d.invariant
