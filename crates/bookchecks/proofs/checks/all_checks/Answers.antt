-- `all_checks` meets its contract: in the loop, no bond before i is refused. Assumes nothing.
use native.Mathlib.Omega.{arith}
use Rattle.std.proofs.Common.{rules, ◌∙◌}
use Rattle.bookchecks.proofs.laws.Naming.{turn_at, found_at, done}
use Rattle.bookchecks.proofs.checks.all_checks.Goals as goal

pub returns-in_err-at_bond : goal.returns-in_err-at_bond
returns-in_err-at_bond c = search rules ∙ found_at _ _ _ c.loop-i.invariant (omega arith) c.bond_check-check.ensures c.at_bond.ensures c.in_err-at_bond.was

pub loop-i-preserved : goal.loop-i-preserved
loop-i-preserved c = turn_at _ _ _ c.loop-i.invariant (omega arith) c.bond_check-check.ensures c.at_bond.ensures c.in_ok-at_bond.was

pub returns : goal.returns
returns c = done _ _ _ c.loop-i.invariant (omega arith)
