-- `typed::line_start` meets its contract. Assumes nothing.
use Rattle.reportlines.proofs.typed.Beginning.{Stepping}
use Rattle.reportlines.proofs.typed.line_start.Given as goal

abbrev pub invariant-loop : goal.invariant-loop
invariant-loop l = Stepping l.text l.line l.at l.counter
