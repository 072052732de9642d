-- `transitions::node_count` meets its contract. The invariant: the total so far and that of the layers left make the whole. Assumes nothing.
use Rattle.std.specs.Prelude.{◌≡◌, ℕ, ◌+◌, ◌<◌, List, length}
use Rattle.std.proofs.Common.{arith, ap, get_or, drop, drop_of_length-le}
use Rattle.lattice.specs.laws.StoredAt.{drop_one}
use Rattle.lattice.specs.laws.Totals.{total_of}
use Rattle.latticetransitions.proofs.transitions.node_count.Goals as goal

next : (counts : List ℕ) (i : ℕ) → i < length counts → total_of (drop i counts) ≡ get_or counts i 0 + total_of (drop (i + 1) counts)
unfolding total_of
next counts i h = rw (drop_one counts 0 i h)

pub overflow_add-total : goal.overflow_add-total
overflow_add-total c = omega (arith, next c.args.counts.now c.loop-count.count-index c.loop-count-test.true, c.loop-count.invariant, c.requires)

pub loop-count-preserved : goal.loop-count-preserved
loop-count-preserved c = omega (arith, next c.args.counts.now c.loop-count.count-index c.loop-count-test.true, c.loop-count.invariant)

pub returns : goal.returns
unfolding total_of
returns c = omega (arith, ap total_of (drop_of_length-le c.args.counts.now c.loop-count-test.false), c.loop-count.invariant)
