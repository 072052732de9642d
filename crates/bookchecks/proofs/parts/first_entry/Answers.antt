-- `first_entry` meets its contract: in the loop, the sum of the counts before k. Assumes nothing.
use borrow.Author.Rules.{rules}
use native.Mathlib.Omega.{arith}
use Rattle.bookchecks.proofs.Summing.{begin, more, done}
use Rattle.bookchecks.proofs.parts.first_entry.Goals as goal

pub loop-k-init : goal.loop-k-init
loop-k-init c = begin _ _

pub loop-k-preserved : goal.loop-k-preserved
loop-k-preserved c = more _ _ _ _ c.loop-k.invariant (omega arith) c.field_at.ensures (search rules)
