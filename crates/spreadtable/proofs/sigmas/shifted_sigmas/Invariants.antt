-- `sigmas::shifted_sigmas` meets its contract. Assumes nothing.
use Rattle.spreadtable.proofs.Shifted.{Shifting}
use Rattle.spreadtable.proofs.sigmas.shifted_sigmas.Given as goal

abbrev pub invariant-loop-i : goal.invariant-loop-i
invariant-loop-i l = Shifting l.shift l.sigmas l.moved l.i
