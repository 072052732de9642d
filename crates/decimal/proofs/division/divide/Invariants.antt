-- `division::divide` meets its contract. Assumes nothing.
use Prim.Native.Nat.{◌-◌}
use Rattle.decimal.specs.laws.Division.{Dividing}
use Rattle.decimal.proofs.division.divide.Given as goal

abbrev pub invariant-loop-whole : goal.invariant-loop-whole
invariant-loop-whole l = Dividing l.digits l.divisor l.whole l.rest l.doublings

abbrev pub decreases-loop-whole : goal.decreases-loop-whole
decreases-loop-whole l = 114 - l.doublings
