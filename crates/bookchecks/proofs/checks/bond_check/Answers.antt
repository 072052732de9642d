-- `bond_check` meets its contract: the cut, then the checks of what was cut. Assumes nothing.
use Rattle.std.proofs.Common.{rules, ◌∙◌}
use Rattle.bookchecks.specs.laws.Bonds.{bond-refused, bond-cut}
use Rattle.bookchecks.proofs.checks.bond_check.Goals as goal

pub returns-in_err-cut_checks : goal.returns-in_err-cut_checks
returns-in_err-cut_checks c = search rules ∙ bond-refused _ _ _ c.cut_checks.ensures c.in_err-cut_checks.was

pub returns : goal.returns
returns c = bond-cut _ _ _ c.cut_checks.ensures c.in_ok-cut_checks.was c.market_of-market.ensures c.calls_of-calls.ensures c.tree_checks.ensures
