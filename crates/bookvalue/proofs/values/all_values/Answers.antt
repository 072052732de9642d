-- `all_values` meets its contract: in the loop, the bonds before i are valued (`Valuing`). Assumes nothing.
use borrow.Author.Rules.{rules}
use native.Mathlib.Omega.{arith}
use mathlib.Core.Path.{◌∙◌}
use Rattle.bookchecks.proofs.laws.Naming.{all_pass}
use Rattle.bookvalue.specs.laws.Valuing.{value-begin, value_more, value-refused, values-done, same_room}
use Rattle.bookvalue.proofs.values.all_values.Goals as goal

pub loop-i-init : goal.loop-i-init
loop-i-init c = value-begin _ _ _ _ _

pub bond_value-outcome-requires : goal.bond_value-outcome-requires
bond_value-outcome-requires c = all_pass _ _ c.requires.1 _ (omega arith)

pub returns-in_err-worth : goal.returns-in_err-worth
returns-in_err-worth c = search rules ∙ value-refused _ _ _ _ _ _ _ _ c.loop-i.invariant (omega arith) c.bond_value-outcome.ensures c.at_bond.ensures c.in_err-worth.was

pub loop-i-preserved : goal.loop-i-preserved
loop-i-preserved c =
    value_more _ _ _ _ _ _ _ _ c.loop-i.invariant (omega arith) c.bond_value-outcome.ensures c.requires.0 c.at_bond.ensures c.in_ok-worth.was
    (same_room c.bond_value-outcome.auto.nodes c.bond_value-outcome.auto.probabilities c.bond_value-outcome.auto.first c.bond_value-outcome.auto.second)

pub returns : goal.returns
returns c = values-done _ _ _ _ _ _ _ _ c.loop-i.invariant (omega arith)
