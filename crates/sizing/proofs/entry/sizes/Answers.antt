-- `sizes` meets its contract: the checks, the widths, and the slice left all zero. Assumes nothing.
use Rattle.std.specs.Prelude.{◌≡◌, Err}
use Rattle.std.proofs.Common.{rules}
use native.Mathlib.Nat.{lt_of_le_of_lt}
use native.Mathlib.Omega.{arith}
use mathlib.Core.Path.{refl, sym, ap, ◌∙◌}
use lib.Dec.{lit<}
use Rattle.terms.specs.Times.{year_fraction}
use Rattle.terms.specs.laws.TreeChecks.{tree-grid}
use Rattle.terms.proofs.Timing.{fronted}
use Rattle.bondevents.specs.Grid.{axis_of}
use Rattle.bondevents.proofs.Grids.{bounded, settled}
use Rattle.sizing.specs.laws.Sized.{entered-refused, entered-zeroed}
use Rattle.sizing.proofs.entry.sizes.Goals as goal

pub tree_checks-requires : goal.tree_checks-requires
tree_checks-requires c = fronted _ _ _ c.timed_pillars-count.ensures c.pillar_times-table.ensures

pub returns-in_err-tree_checks : goal.returns-in_err-tree_checks
returns-in_err-tree_checks c =
    let x : c.from_residual.result ≡ Err c.in_err-tree_checks.field-0.0 = search rules in
    rw x (entered-refused _ _ c.tree_checks.ensures _ c.in_err-tree_checks.was)

pub steps_of-steps-requires : goal.steps_of-steps-requires
steps_of-steps-requires c =
    let checks = tree-grid _ _ (sym c.tree_checks.ensures ∙ c.in_ok-tree_checks.was) in
    let steps = settled _ _ _ _ (sym checks) refl in
    (steps.some-steps, steps.few-steps)

pub overflow_cast-steps : goal.overflow_cast-steps
overflow_cast-steps c =
    let checks = tree-grid _ _ (sym c.tree_checks.ensures ∙ c.in_ok-tree_checks.was) in
    let steps = settled _ _ _ _ (sym checks) refl in
    record { fits = lt_of_le_of_lt (bounded _ _ c.steps_of-steps.ensures steps.some-steps steps.few-steps).1 (lit< tt) }

pub sizes_at-found-requires : goal.sizes_at-found-requires
sizes_at-found-requires c =
    let checks = tree-grid _ _ (sym c.tree_checks.ensures ∙ c.in_ok-tree_checks.was) in
    let steps = settled _ _ _ _ (sym checks) refl in
    let b = bounded _ _ c.steps_of-steps.ensures steps.some-steps steps.few-steps in
    (omega (arith, b.0), b.1)

pub returns : goal.returns
unfolding axis_of
returns c =
    let time = c.year_fraction-maturity.ensures ∙ ap (year_fraction c.args.market.settlement) c.last_day.ensures in
    entered-zeroed _ _ c.tree_checks.ensures _ c.in_ok-tree_checks.was time (c.steps_of-steps.ensures ∙ (rw time)) c.sizes_at-found.ensures c.zero_numbers.ensures c.sizes_at-found.auto.nodes
