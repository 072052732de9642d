-- `sigmas::any_outside` meets its contract. Assumes nothing.
use Rattle.spreadtable.proofs.Shifted.{Looking}
use Rattle.spreadtable.proofs.sigmas.any_outside.Given as goal

abbrev pub invariant-loop-sigma : goal.invariant-loop-sigma
invariant-loop-sigma l = Looking l.shift l.sigmas l.sigma-index
