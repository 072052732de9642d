-- `exps::reduced_row` meets its contract: the loops one after the other give exp at each index. Assumes nothing.
use mathlib.Core.Path.{sym, ◌∙◌}
use Rattle.elementary.specs.laws.Rows.{step_row, row_is}
use Rattle.elementary.proofs.exps.reduced_row.Goals as goal

pub raise_row-requires : goal.raise_row-requires
raise_row-requires c =
    let p = c.reduce_row.ensures c.if-not-reduce_row.false in
    (c.series_row.ensures.kept ∙ p.rest-kept ∙ sym p.steps-kept, step_row p)

pub returns : goal.returns
returns c = row_is (c.reduce_row.ensures c.if-not-reduce_row.false) c.series_row.ensures c.raise_row.ensures
