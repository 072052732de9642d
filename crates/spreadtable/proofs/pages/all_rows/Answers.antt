-- `all_rows` meets its contract. Assumes nothing.
use Rattle.terms.specs.Market.{calls_of, market_of}
use Rattle.spreadtable.specs.Table.{cell_at}
use Rattle.spreadtable.proofs.laws.Widths.{cell-wide}
use Rattle.spreadtable.proofs.laws.Stacking.{stack_begin, stack_done}
use Rattle.spreadtable.proofs.Lanes.{lent-begin, lent-turn, page-turn}
use Rattle.spreadtable.proofs.pages.all_rows.Goals as goal

pub loop-shift-init : goal.loop-shift-init
loop-shift-init c =
    let p = c.requires in
    (stack_begin _ _ _ (cell-wide _ _ _) p.spreads_len_bound.0 p.spreads_len_bound.1 c.empty-rows.ensures, lent-begin _)

pub loop-shift-preserved : goal.loop-shift-preserved
loop-shift-preserved c =
    let a = c.args in
    let inv = c.loop-shift.invariant in
    let kept = c.shifted_row-rows.auto in
    (page-turn (cell_at (market_of a.market) (calls_of a.calls)) _ _ inv.1 inv.0 c.loop-shift-test.true c.shifted_row-rows.ensures, lent-turn inv.1 (record { same_nodes = kept.nodes; same_probabilities = kept.probabilities; same_first = kept.first; same_second = kept.second }))

pub returns : goal.returns
returns c = stack_done _ _ _ _ _ c.loop-shift.invariant.0 c.loop-shift-test.false
