-- `spread_from_price` meets its contract: the checks, the root, and the slices left all zero (`SpreadSolved`). Assumes nothing.
use mathlib.Core.Path.{refl, sym, ◌∙◌}
use native.Mathlib.Omega.{arith}
use lib.Seq.{length-take-le}
use Rattle.terms.specs.laws.TreeChecks.{spread-grid, spread-few-pillars}
use Rattle.terms.proofs.Timing.{fronted}
use Rattle.bondevents.proofs.Grids.{settled, leg-sized, calls-sized, puts-sized}
use Rattle.std.proofs.Common.{rules}
use Rattle.brackets.proofs.Laws.{was_given, was_refused, refused_after}
use Rattle.spreads.specs.laws.SpreadSolved.{solved-refused, solved-zeroed}
use Rattle.spreads.proofs.spreads.spread_from_price.Goals as goal

pub slice_bounds-times-end : goal.slice_bounds-times-end
slice_bounds-times-end c = let few = c.timed_pillars-count.ensures in sym (length-take-le _ _ (omega arith))

pub spread_checks-checked-requires : goal.spread_checks-checked-requires
spread_checks-checked-requires c = fronted _ _ _ c.timed_pillars-count.ensures c.pillar_times-table.ensures

pub returns-in_err-counted : goal.returns-in_err-counted
returns-in_err-counted c =
    solved-refused _ _ c.spread_checks-checked.ensures _ (was_refused _ c.counted.ensures c.in_err-counted.was) (refused_after _ _ c.counted.ensures c.in_err-counted.was (search rules))

pub checked_spread-root-requires : goal.checked_spread-root-requires
checked_spread-root-requires c =
    let all = sym c.spread_checks-checked.ensures ∙ was_given _ c.counted.ensures c.in_ok-counted.was in
    let passed = sym (spread-grid _ _ all) in
    let steps = settled _ _ _ _ passed refl in
    let leg = leg-sized _ _ _ _ passed refl in
    let calls = (calls-sized _ _ _ _ passed refl).entries in
    let puts = (puts-sized _ _ _ _ passed refl).entries in
    let times = fronted _ _ _ c.timed_pillars-count.ensures c.pillar_times-table.ensures in
    record { le_maximum = (steps.some-steps, steps.few-steps); days_len_bound = (leg.few, leg.kinds_too, leg.amounts_too); ends_len = (calls.ends_too, calls.strikes_too); put_ends_len = (puts.ends_too, puts.strikes_too); curve_times_value = times.timed (spread-few-pillars _ _ all) }

pub shape_of-nodes : goal.shape_of-nodes
shape_of-nodes c = c.zero_numbers.auto.s ∙ c.checked_spread-root.auto.nodes

pub shape_of-probabilities : goal.shape_of-probabilities
shape_of-probabilities c = c.zero_floats.auto.s ∙ c.checked_spread-root.auto.probabilities

pub shape_of-first_row : goal.shape_of-first_row
shape_of-first_row c = c.zero_floats-2.auto.s ∙ c.checked_spread-root.auto.first

pub shape_of-second_row : goal.shape_of-second_row
shape_of-second_row c = c.zero_floats-3.auto.s ∙ c.checked_spread-root.auto.second

pub returns : goal.returns
returns c =
    solved-zeroed _ _ c.spread_checks-checked.ensures _ (was_given _ c.counted.ensures c.in_ok-counted.was) c.checked_spread-root.ensures c.zero_numbers.ensures c.zero_floats.ensures c.zero_floats-2.ensures c.zero_floats-3.ensures c.checked_spread-root.auto.nodes c.checked_spread-root.auto.probabilities c.checked_spread-root.auto.first c.checked_spread-root.auto.second
