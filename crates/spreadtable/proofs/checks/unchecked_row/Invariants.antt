-- `checks::unchecked_row` meets its contract. Assumes nothing.
use Rattle.terms.specs.Market.{calls_of, market_of}
use Rattle.spreadtable.specs.laws.Filling.{Filling}
use Rattle.spreadtable.specs.laws.Refusing.{check_cell}
use Rattle.spreadtable.proofs.checks.unchecked_row.Given as goal

abbrev pub invariant-loop-spread : goal.invariant-loop-spread
invariant-loop-spread l = Filling (check_cell (market_of l.market) (calls_of l.calls)) l.spreads l.initial.row l.row l.spread-index
