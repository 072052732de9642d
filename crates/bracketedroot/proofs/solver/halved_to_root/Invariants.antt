-- `solver::halved_to_root` meets its contract. Assumes nothing.
use Rattle.sought.specs.laws.Sought.{sought_at}
use Rattle.bracketedroot.proofs.solver.Rounds.{Halving}
use Rattle.bracketedroot.proofs.solver.halved_to_root.Given as goal

abbrev pub invariant-loop : goal.invariant-loop
invariant-loop l = Halving (sought_at l.sought.priced l.sought.target) l.initial.b l.counter l.b
