-- `solver::widened_to_root` meets its contract. Assumes nothing.
use Rattle.sought.specs.laws.Sought.{sought_at}
use Rattle.bracketedroot.proofs.solver.Rounds.{Widening}
use Rattle.bracketedroot.proofs.solver.widened_to_root.Given as goal

abbrev pub invariant-loop : goal.invariant-loop
invariant-loop l = Widening (sought_at l.sought.priced l.sought.target) l.lowest l.initial.b l.counter l.b
