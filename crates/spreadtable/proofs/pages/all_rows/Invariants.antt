-- `all_rows` meets its contract. Assumes nothing.
use Rattle.terms.specs.Market.{calls_of, market_of}
use Rattle.treebasedbondpricer.specs.Tree.{room_of}
use Rattle.spreadtable.specs.Table.{cell_at}
use Rattle.spreadtable.proofs.laws.Stacking.{Stacking}
use Rattle.spreadtable.proofs.Lanes.{lent_of, SameLent}
use Rattle.spreadtable.proofs.pages.all_rows.Given as goal

abbrev pub invariant-loop-shift : goal.invariant-loop-shift
invariant-loop-shift l =
    Stacking (cell_at (market_of l.market) (calls_of l.calls) (room_of (lent_of l.initial.nodes l.initial.probabilities l.initial.first l.initial.second))) l.spreads l.shifts l.rows l.shift-index
    × SameLent (lent_of l.initial.nodes l.initial.probabilities l.initial.first l.initial.second) (lent_of l.nodes l.probabilities l.first l.second)
