-- `transitions::node_count` meets its contract. The invariant: the total so far and that of the layers left make the whole. Assumes nothing.
use Rattle.std.specs.Prelude.{◌≡◌, ◌+◌}
use Rattle.std.proofs.Common.{drop}
use Rattle.lattice.specs.laws.Totals.{total_of}
use Rattle.latticetransitions.proofs.transitions.node_count.Given as goal

abbrev pub invariant-loop-count : goal.invariant-loop-count
invariant-loop-count l = l.total + total_of (drop l.count-index l.counts) ≡ total_of l.counts
