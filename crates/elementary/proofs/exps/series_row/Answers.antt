-- `exps::series_row` meets its contract: the two loops one after the other. Assumes nothing.
use Rattle.elementary.specs.laws.Rows.{series_row_lem}
use Rattle.elementary.proofs.exps.series_row.Goals as goal

pub returns : goal.returns
returns c = series_row_lem c.requires c.first_terms.ensures c.last_terms.ensures
