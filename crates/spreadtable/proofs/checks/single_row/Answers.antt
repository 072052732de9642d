-- `single_row` meets its contract. Assumes nothing.
use mathlib.Core.Path.{refl, sym, ◌∙◌}
use Rattle.floats.specs.Answers.{plus_zero}
use Rattle.terms.specs.Terms.{with_spread}
use Rattle.terms.specs.Market.{calls_of, market_of}
use Rattle.terms.specs.laws.TreeChecks.{tree-grid, tree-few-pillars}
use Rattle.bondevents.proofs.Grids.{settled, leg-sized, calls-sized, puts-sized}
use Rattle.spreadtable.proofs.laws.Refusing.{row_unchecked, row-checked}
use Rattle.treebasedbondpricer.specs.Tree.{room_of}
use Rattle.spreadtable.proofs.Lanes.{lent_of}
use Rattle.spreadtable.proofs.checks.single_row.Goals as goal

pub returns-in_default : goal.returns-in_default
returns-in_default c =
    let a = c.args in
    row_unchecked (with_spread (market_of a.market) plus_zero) (calls_of a.calls) a.w a.spreads.now (room_of (lent_of a.nodes.now a.probabilities.now a.first.now a.second.now)) c.tree_checks-check.ensures c.in_default.is c.unchecked_row.ensures refl

pub checked_row-requires : goal.checked_row-requires
checked_row-requires c =
    let p = c.requires in
    let all = sym c.tree_checks-check.ensures ∙ c.in-Ok.is in
    let passed = sym (tree-grid _ _ all) in
    let steps = settled _ _ _ _ passed refl in
    let leg = leg-sized _ _ _ _ passed refl in
    let calls = (calls-sized _ _ _ _ passed refl).entries in
    let puts = (puts-sized _ _ _ _ passed refl).entries in
    record {
      spreads_bound = p.spreads_bound;
      le_maximum = (steps.some-steps, steps.few-steps);
      days_len_bound = (leg.few, leg.kinds_too, leg.amounts_too);
      ends_len = (calls.ends_too, calls.strikes_too);
      put_ends_len = (puts.ends_too, puts.strikes_too);
      curve_times_value = p.curve_times.timed (tree-few-pillars _ _ all);
    }

pub returns : goal.returns
returns c =
    let a = c.args in
    row-checked (with_spread (market_of a.market) plus_zero) (calls_of a.calls) a.w a.spreads.now (room_of (lent_of a.nodes.now a.probabilities.now a.first.now a.second.now)) c.tree_checks-check.ensures c.in-Ok.is c.checked_row.ensures
