-- The tree value from its parts: the checks, the grid and the tree. Assumes nothing.
use Rattle.std.specs.Prelude.{ℕ, ◌≤◌, ◌<◌, ◌≡◌, refl, Float, Ok, Err}
use Rattle.std.proofs.Common.{arith, ◌∙◌}
use Rattle.std.proofs.Math.Path.{sym, ap}
use mathlib.Core.List.{List}
use Rattle.std.specs.Float.Ieee.{binary64, div}
use Rattle.floats.specs.Refusals.{Refusal}
use Rattle.terms.specs.declared.Settlement.{Settlement}
use Rattle.floats.specs.Answers.{Check, Outcome, follow, on_outcome, when_finite}
use Rattle.terms.specs.Checks.{on_check}
use Rattle.terms.specs.Numbers.{float}
use Rattle.terms.specs.Terms.{Bond, CallSchedule, TimeGrid, Market}
use Rattle.terms.specs.Curve.{curve_over, pillar_times}
use Rattle.terms.specs.Entries.{tree_checks}
use Rattle.terms.specs.laws.Outcomes.{of_given, same_given, follow-given, follow-refused}
use Rattle.bondevents.specs.declared.BondEventGrid.{BondEventGrid}
use Rattle.bondevents.specs.Steps.{maturity_time}
use Rattle.bondevents.specs.Calls.{call_steps}
use Rattle.bondevents.specs.Grid.{axis_of, event_grid}
use Rattle.bondevents.proofs.Grids.{bounded}
use Rattle.treebasedbondpricer.specs.declared.TreeValue.{TreeValue}
use Rattle.lattice.specs.Layers.{Room}
use Rattle.treebasedbondpricer.specs.Tree.{Fitted, lattice_value_over, fitted_tree_over, lattice_value, fitted_tree, tree_value, curve_of}
use Rattle.treebasedbondpricer.specs.laws.FittedIn.{fitted_with, fitted_over}
use Rattle.treebasedbondpricer.specs.laws.Valued.{tree_of, walked}

-- What terms that passed their checks are worth: the grid, then the tree.
unfoldable pub value_on : Market → CallSchedule → Room → Outcome TreeValue
unfolding event_grid lattice_value_over
value_on m calls room = tree_of (follow (event_grid m.settlement m.bond calls m.controls) λ grid. lattice_value m room grid)

-- ---- the grid

pub grid-given : (o : Outcome BondEventGrid) {g : BondEventGrid} {r : Outcome BondEventGrid} → r ≡ o → r ≡ Ok g → o ≡ Ok g
grid-given o e p = sym e ∙ p

pub grid-refused : (o : Outcome BondEventGrid) {r : Outcome BondEventGrid} {q : Refusal} → r ≡ o → r ≡ Err q → o ≡ Err q
grid-refused o e p = sym e ∙ p

-- A grid that is given has 1 to 512 steps.
pub steps_of-grid : (settlement : Settlement) (bond : Bond) (calls : CallSchedule) (controls : TimeGrid) {g : BondEventGrid} {r : Outcome BondEventGrid} → r ≡ event_grid settlement bond calls controls → r ≡ Ok g → 1 ≤ controls.maximum → controls.maximum ≤ 512 → (0 < g.steps) × (g.steps ≤ 512)
unfolding event_grid axis_of
steps_of-grid settlement bond calls controls e p some few =
    let w = of_given (call_steps (axis_of settlement bond.leg controls) bond calls) _ (grid-given (event_grid settlement bond calls controls) e p) in
    let s = ap (λ (g : BondEventGrid). g.steps) (same_given w.2) in
    let b = bounded (maturity_time settlement bond.leg) controls (sym s) some few in
    (omega (arith, b.0), b.1)

-- ---- the tree

pub tree_is : (m : Market) (room : Room) (maturity : Float) (steps : ℕ) → fitted_tree m room maturity steps ≡ when_finite (div binary64 maturity (float steps)) 0 λ dt. fitted_over (curve_of m) m.model room steps dt
unfolding fitted_tree_over fitted_with
tree_is m room maturity steps = refl

module _ (m : Market) (calls : CallSchedule) (room : Room) {r : Outcome BondEventGrid} (e : r ≡ event_grid m.settlement m.bond calls m.controls) where
  pub value_unchecked : {v : Outcome TreeValue} {q : Refusal} → r ≡ Err q → v ≡ Err q → v ≡ value_on m calls room
  unfolding value_on tree_of
  value_unchecked p f =
      f
      ∙ sym (ap tree_of (follow-refused (event_grid m.settlement m.bond calls m.controls) (λ grid. lattice_value m room grid) (grid-refused (event_grid m.settlement m.bond calls m.controls) e p)))

  pub value-checked : {times : List Float} {g : BondEventGrid} {v : Outcome TreeValue} → times ≡ pillar_times m.settlement m.pillars.days → r ≡ Ok g
      → v ≡ tree_of (follow (when_finite (div binary64 g.maturity_time (float g.steps)) 0 λ dt. fitted_over (curve_over times m.pillars.factors) m.model room g.steps dt) λ f. walked m.spread g.cashflows g.calls f)
      → v ≡ value_on m calls room
  unfolding value_on lattice_value_over
  value-checked {g = g} t p f =
      f
      ∙ ap (λ (times : List Float). tree_of (follow (when_finite (div binary64 g.maturity_time (float g.steps)) 0 λ dt. fitted_over (curve_over times m.pillars.factors) m.model room g.steps dt) λ f. walked m.spread g.cashflows g.calls f)) t
      ∙ ap (λ (o : Outcome Fitted). tree_of (follow o λ f. walked m.spread g.cashflows g.calls f)) (sym (tree_is m room g.maturity_time g.steps))
      ∙ sym (ap tree_of (follow-given (event_grid m.settlement m.bond calls m.controls) (λ grid. lattice_value m room grid) (grid-given (event_grid m.settlement m.bond calls m.controls) e p)))

-- ---- the entry

as_tree : (o : Outcome (Outcome TreeValue)) → tree_of o ≡ on_outcome o Err λ v. v
unfolding tree_of on_outcome
as_tree (Ok v) = refl
as_tree (Err q) = refl

-- What has passed its checks has this tree value.
pub value_of-checked : (m : Market) (calls : CallSchedule) (room : Room) → tree_checks m calls ≡ Ok tt → value_on m calls room ≡ tree_value m calls room
unfolding tree_value value_on on_check
value_of-checked m calls room p = as_tree _ ∙ ap (λ (c : Check). on_check c Err (on_outcome (follow (event_grid m.settlement m.bond calls m.controls) λ grid. lattice_value m room grid) Err λ v. v)) (sym p)
