-- `spread_table` meets its contract: 45, or the rows of all shifts with the slices left all zero (`Stacking`). Assumes nothing.
use native.Mathlib.Omega.{arith}
use Rattle.treebasedbondpricer.specs.Tree.{room_of}
use Rattle.terms.specs.Market.{calls_of, market_of}
use Rattle.spreadtable.proofs.laws.Widths.{cell-wide}
use Rattle.spreadtable.proofs.laws.Stacking.{few_of, rows_fit, table-refused, table-printed}
use Rattle.spreadtable.proofs.Lanes.{lent_of}
use Rattle.spreadtable.proofs.entry.spread_table.Goals as goal

pub returns-then-wrong_count : goal.returns-then-wrong_count
returns-then-wrong_count c = table-refused _ _ _ _ _ c.wrong_count.ensures c.if-wrong_count.true c.no_table.ensures

pub as_table-requires : goal.as_table-requires
as_table-requires c =
    let a = c.args in
    let few = few_of a.spreads.now a.shifts.now c.wrong_count.ensures c.if-wrong_count.false in
    rows_fit _ (cell-wide (market_of a.market) (calls_of a.calls) (room_of (lent_of a.nodes.now a.probabilities.now a.first_row.now a.second_row.now))) _ _ (omega arith) (omega arith) c.all_rows-rows.ensures

pub returns : goal.returns
returns c =
    let a = c.args in
    let few = few_of a.spreads.now a.shifts.now c.wrong_count.ensures c.if-wrong_count.false in
    let kept = c.all_rows-rows.auto in
    table-printed _ _ _ _ _ c.wrong_count.ensures c.if-wrong_count.false c.all_rows-rows.ensures c.zero_numbers.ensures c.zero_floats.ensures c.zero_floats-2.ensures c.zero_floats-3.ensures kept.nodes kept.probabilities kept.first kept.second few.0 few.1 c.as_table.ensures
