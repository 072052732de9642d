-- `row_over` meets its contract. Assumes nothing.
use Rattle.spreadtable.proofs.laws.FittedOnce.{row-stopped, row_walked}
use Rattle.spreadtable.proofs.fits.row_over.Goals as goal

pub returns-in-Err : goal.returns-in-Err
returns-in-Err c = row-stopped c.fitted_tree-fitted.ensures c.args.w c.args.spreads.now _ _ c.in-Err.is c.stopped_row.ensures

pub returns-in-Ok : goal.returns-in-Ok
returns-in-Ok c = row_walked c.fitted_tree-fitted.ensures c.args.w c.args.spreads.now _ _ c.in-Ok.is c.walked_row.ensures
