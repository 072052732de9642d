-- `rows::exponents` meets its contract. The invariant: of the flows passed, time and exponent are there. Assumes nothing.
use Rattle.interestrate.specs.laws.Rows.{Exponents}
use Rattle.interestrate.proofs.rows.exponents.Given as goal

abbrev pub invariant-loop-i : goal.invariant-loop-i
invariant-loop-i l = Exponents l.frequency l.log l.settlement l.days l.initial.times l.initial.xs l.times l.xs l.i
