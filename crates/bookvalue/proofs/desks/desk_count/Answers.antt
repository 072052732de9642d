-- `desk_count` meets its contract: in the loop, the sum of the counts of the desk's bonds before i, which fits 64 bits. Assumes nothing.
use Rattle.std.specs.Prelude.{ℕ, ◌+◌, cond, eqb, get_or}
use Rattle.std.proofs.Common.{ap, ◌∙◌}
use native.Mathlib.Omega.{arith}
use Rattle.bookvalue.proofs.laws.Summing.{total-begin, total_more}
use Rattle.bookvalue.proofs.desks.desk_count.Goals as goal

pub loop-i-init : goal.loop-i-init
loop-i-init c = total-begin _ _ _ _

pub loop-i-preserved : goal.loop-i-preserved
loop-i-preserved c =
    total_more _ _ _ _ _ _ c.loop-i.invariant (omega arith) c.requires.1
    (c.added-total.ensures ∙ ap (λ (z : ℕ). cond (eqb z c.args.desk) (c.loop-i.total + get_or c.args.counts c.loop-i.i 0) c.loop-i.total) c.field_at-of.ensures)
