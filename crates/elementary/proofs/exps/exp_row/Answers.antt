-- `exps::exp_row` meets its contract: the series alone near 0, else the whole way. Assumes nothing.
use Rattle.elementary.specs.laws.Rows.{small_is}
use Rattle.elementary.proofs.exps.exp_row.Goals as goal

pub returns-then-small_row : goal.returns-then-small_row
returns-then-small_row c = small_is (c.small_row.ensures c.if-small_row.true) c.series_row.ensures
