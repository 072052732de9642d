-- `rows::exponents` meets its contract. The invariant: of the flows passed, time and exponent are there. Assumes nothing.
use Rattle.interestrate.specs.laws.Rows.{exponents-none, exponents_more, exponents-done}
use Rattle.interestrate.proofs.rows.exponents.Goals as goal

pub loop-i-init : goal.loop-i-init
loop-i-init c = exponents-none _ _ _ _ _ _

pub loop-i-preserved : goal.loop-i-preserved
loop-i-preserved c =
    exponents_more _ _ _ _ _ _ _ c.loop-i.invariant c.loop-i-test.true c.requires.0 c.requires.1 c.time_from-time.ensures

pub returns : goal.returns
returns c = exponents-done _ _ _ _ _ _ c.loop-i.invariant c.loop-i-test.false
