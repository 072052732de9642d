-- `columns::used` meets its contract. Assumes nothing.
use Rattle.bondreport.proofs.Putting.{Looking}
use Rattle.bondreport.proofs.columns.used.Given as goal

abbrev pub invariant-loop-column : goal.invariant-loop-column
invariant-loop-column l = Looking l.line l.column
