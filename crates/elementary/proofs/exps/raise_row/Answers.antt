-- `exps::raise_row` meets its contract. The invariant: the entries passed are raised and, while the flag holds, finite; the others are as they were. Assumes nothing.
use mathlib.Core.Path.{ap}
use lib.Ieee.{binary64, mul}
use Rattle.elementary.specs.laws.Rows.{raising_more}
use Rattle.elementary.proofs.exps.raise_row.Goals as goal

pub loop-i-preserved : goal.loop-i-preserved
loop-i-preserved c = raising_more _ c.loop-i.invariant c.loop-i-test.true c.requires.0 (ap (mul binary64 _) c.power_of_two.ensures)
