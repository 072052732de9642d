-- `shifted_row` meets its contract. Assumes nothing.
use Rattle.std.proofs.Common.{ap, ◌∙◌}
use Rattle.terms.specs.Terms.{Market}
use Rattle.terms.specs.Market.{calls_of, market_of}
use Rattle.spreadtable.specs.Cells.{hash_cell}
use Rattle.spreadtable.specs.Page.{row_text}
use Rattle.spreadtable.specs.laws.Writing.{appended}
use Rattle.spreadtable.specs.laws.Refusing.{single_cell}
use Rattle.spreadtable.proofs.laws.Refusing.{row-outside, row-unread, row-shifted}
use Rattle.treebasedbondpricer.specs.Tree.{room_of}
use Rattle.spreadtable.proofs.Lanes.{lent_of}
use Rattle.spreadtable.proofs.shifts.shifted_row.Goals as goal

pub returns-then-any_outside : goal.returns-then-any_outside
returns-then-any_outside c =
    let a = c.args in
    row-outside (market_of a.market) (calls_of a.calls) (room_of (lent_of a.nodes.now a.probabilities.now a.first.now a.second.now)) a.shift a.w a.spreads.now c.any_outside.ensures c.if-any_outside.true (c.hash_cell-cell.ensures ∙ ap hash_cell c.number.ensures) c.same_row.ensures

pub returns-then-sigmas-gt-MOST : goal.returns-then-sigmas-gt-MOST
returns-then-sigmas-gt-MOST c =
    let a = c.args in
    row-unread (market_of a.market) (calls_of a.calls) (room_of (lent_of a.nodes.now a.probabilities.now a.first.now a.second.now)) a.shift a.w a.spreads.now c.any_outside.ensures c.if-any_outside.false c.if-sigmas-gt-MOST.true c.unchecked_row.ensures

pub returns : goal.returns
returns c =
    let a = c.args in
    let room = room_of (lent_of a.nodes.now a.probabilities.now a.first.now a.second.now) in
    row-shifted (market_of a.market) (calls_of a.calls) room a.shift a.w a.spreads.now c.any_outside.ensures c.if-any_outside.false c.shifted_sigmas-moved.ensures
    (c.single_row.ensures ∙ ap (λ (m : Market). appended a.w (row_text (single_cell m (calls_of a.calls) room) a.spreads.now)) c.with_sigmas.ensures)
