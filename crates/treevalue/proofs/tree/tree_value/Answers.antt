-- `tree_value` meets its contract: the checks, the value, and the slices left all zero (`Entered`). Assumes nothing.
use Rattle.std.proofs.Common.{refl, rules, sym, ◌∙◌}
use Rattle.terms.specs.laws.TreeChecks.{tree-grid, tree-few-pillars}
use Rattle.terms.proofs.Timing.{fronted}
use Rattle.bondevents.proofs.Grids.{settled, leg-sized, calls-sized, puts-sized}
use Rattle.treebasedbondpricer.proofs.laws.Entered.{entered-refused, entered-zeroed}
use Rattle.treevalue.proofs.tree.tree_value.Goals as goal

pub tree_checks-requires : goal.tree_checks-requires
tree_checks-requires c = fronted _ _ _ c.timed_pillars-count.ensures c.pillar_times-table.ensures

pub returns-in_err-tree_checks : goal.returns-in_err-tree_checks
returns-in_err-tree_checks c = entered-refused _ _ c.tree_checks.ensures _ c.in_err-tree_checks.was (search rules)

pub checked_value-value-requires : goal.checked_value-value-requires
checked_value-value-requires c =
    let all = sym c.tree_checks.ensures ∙ c.in_ok-tree_checks.was in
    let passed = sym (tree-grid _ _ all) in
    let steps = settled _ _ _ _ passed refl in
    let leg = leg-sized _ _ _ _ passed refl in
    let calls = (calls-sized _ _ _ _ passed refl).entries in
    let puts = (puts-sized _ _ _ _ passed refl).entries in
    let times = fronted _ _ _ c.timed_pillars-count.ensures c.pillar_times-table.ensures in
    record { le_maximum = (steps.some-steps, steps.few-steps); days_len_bound = (leg.few, leg.kinds_too, leg.amounts_too); ends_len = (calls.ends_too, calls.strikes_too); put_ends_len = (puts.ends_too, puts.strikes_too); curve_times_value = times.timed (tree-few-pillars _ _ all) }

pub returns : goal.returns
returns c =
    let kept = c.checked_value-value.auto in
    entered-zeroed _ _ c.tree_checks.ensures _ c.in_ok-tree_checks.was c.checked_value-value.ensures c.zero_numbers.ensures c.zero_floats.ensures c.zero_floats-2.ensures c.zero_floats-3.ensures kept.nodes kept.probabilities kept.first kept.second
