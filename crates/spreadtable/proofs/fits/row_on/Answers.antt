-- `row_on` meets its contract. Assumes nothing.
use Rattle.spreadtable.proofs.laws.FittedOnce.{row-with_calls}
use Rattle.spreadtable.proofs.fits.row_on.Goals as goal

pub returns : goal.returns
returns c = row-with_calls _ c.args.w c.args.spreads.now c.args.grid.cashflows c.args.grid.calls c.row_over.ensures c.step_marks-marks.ensures c.step_prices-prices.ensures
