-- `rows::slope_row` meets its contract. The invariant: of the flows passed, the derivatives are there and, while the flag holds, finite. Assumes nothing.
use Rattle.interestrate.specs.laws.Rows.{Slopes}
use Rattle.interestrate.proofs.rows.slope_row.Given as goal

abbrev pub invariant-loop-i : goal.invariant-loop-i
invariant-loop-i l = Slopes l.good l.base l.times l.discounts l.initial.slopes l.slopes l.i
