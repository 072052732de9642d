-- `all_values` meets its contract: in the loop, the bonds before i are valued (`Valuing`). Assumes nothing.
use lib.ListN.{length, get_or}
use Rattle.bookchecks.specs.Lent.{shared_of, lists_of}
use Rattle.bookchecks.specs.laws.Holdings.{past_end}
use Rattle.bookvalue.specs.laws.Valuing.{Valuing}
use Rattle.bookvalue.proofs.values.all_values.Given as goal

abbrev pub invariant-loop-i : goal.invariant-loop-i
invariant-loop-i l =
    Valuing (shared_of l.shared) (lists_of l.lists) (λ k. get_or l.held k past_end)
    (record { nodes = length l.initial.nodes; probabilities = length l.initial.probabilities; first = length l.initial.first; second = length l.initial.second })
    l.size
    l.i
    l.values
    l.counts
    (record { nodes = length l.nodes; probabilities = length l.probabilities; first = length l.first; second = length l.second })
