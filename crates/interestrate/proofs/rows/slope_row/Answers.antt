-- `rows::slope_row` meets its contract. The invariant: of the flows passed, the derivatives are there and, while the flag holds, finite. Assumes nothing.
use Rattle.interestrate.specs.laws.Rows.{slopes_none, slopes_more, slopes_done}
use Rattle.interestrate.proofs.rows.slope_row.Goals as goal

pub loop-i-init : goal.loop-i-init
loop-i-init c = slopes_none _ _ _ _

pub loop-i-preserved : goal.loop-i-preserved
loop-i-preserved c =
    slopes_more _ _ _ _ c.loop-i.invariant c.loop-i-test.true c.requires.1

pub returns : goal.returns
returns c = slopes_done _ _ _ _ c.loop-i.invariant c.loop-i-test.false
