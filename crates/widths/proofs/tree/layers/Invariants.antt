-- `layers` meets its contract: the invariant is that the layers from the i-th on, with the sums so far, give the whole. Assumes nothing.
use Rattle.widths.specs.laws.Summing.{Summing}
use Rattle.widths.proofs.tree.layers.Given as goal

abbrev pub invariant-loop-i : goal.invariant-loop-i
invariant-loop-i l =
    Summing l.decay l.first l.variances l.initial.nodes l.nodes l.layer.spacing l.layer.count l.total l.widest l.i
