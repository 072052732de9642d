-- The event grid of a call list made from another, with any fixed puts, of a put list made from another, and of reordered ones. Assumes nothing.
use Rattle.std.specs.Prelude.{◌≡◌, ◌⊎◌, List, ℕ, ◌≤◌, ◌<◌, T, Ok, Err}
use Rattle.std.proofs.Math.Path.{refl}
use Rattle.std.proofs.Common.{sym, ap, ◌∙◌, inl, inr, arith}
use Rattle.std.specs.Float.Ieee.{lt}
use Rattle.floats.specs.Refusals.{Refusal}
use Rattle.floats.specs.Answers.{plus_zero, follow}
use Rattle.terms.specs.declared.Settlement.{Settlement}
use Rattle.terms.specs.Terms.{Leg, CallSchedule, Bond, TimeGrid, bond_with_puts}
use Rattle.terms.specs.CallLists.{Entries, MadeFrom, LoweredFrom, Reordered, size, strike_of}
use Rattle.terms.specs.laws.Outcomes.{given_or_refused, follow-given, follow-refused, of_given, of_refused}
use Rattle.terms.specs.laws.Lockstep.{GivenOr27, is_given, is_27}
use Rattle.bondevents.specs.declared.CallStep.{CallStep}
use Rattle.bondevents.specs.declared.BondEventGrid.{BondEventGrid}
use Rattle.bondevents.specs.Steps.{Axis, step_cashflows}
use Rattle.bondevents.specs.Calls.{call_steps}
use Rattle.bondevents.specs.Grid.{axis_of, event_grid}
use Rattle.bondevents.specs.laws.Pricing.{Above}
use Rattle.bondevents.specs.laws.NoLower.{NoLowerSteps, NoLowerGrid}
use Rattle.bondevents.proofs.laws.CallSteps.{steps-refused, calls-no_lower, calls-reordered, puts-no_lower, puts-reordered}
use Rattle.floats.specs.declared.Reason.TheVariants as reason

-- The grid of an axis, a bond's cashflows and call steps.
abbrev pub grid_of : Axis → Bond → List CallStep → BondEventGrid
grid_of a bond cs = record { maturity_time = a.maturity; steps = a.steps; cashflows = step_cashflows a bond.leg; calls = cs }

pub grid_is : (settlement : Settlement) (bond : Bond) (calls : CallSchedule) (controls : TimeGrid)
    → event_grid settlement bond calls controls
    ≡ follow (call_steps (axis_of settlement bond.leg controls) bond calls) (λ cs. Ok (grid_of (axis_of settlement bond.leg controls) bond cs))
grid_is settlement bond calls controls = unfold event_grid in refl

-- ---- the steps

-- There is one step at least, and every step has a place in the grid.
pub steps-some : (settlement : Settlement) (leg : Leg) (controls : TimeGrid) → 0 < (axis_of settlement leg controls).steps
unfolding axis_of
steps-some settlement leg controls = omega arith

pub steps-placed : (settlement : Settlement) (leg : Leg) (controls : TimeGrid) → controls.maximum ≤ 512 → (axis_of settlement leg controls).steps ≤ 512
unfolding axis_of
steps-placed settlement leg controls h = omega arith

-- ---- the grid and its call steps

module _ (settlement : Settlement) (bond : Bond) (calls : CallSchedule) (controls : TimeGrid) where
  -- Call steps that are given make the grid.
  pub grid_of-steps : (cs : List CallStep) → call_steps (axis_of settlement bond.leg controls) bond calls ≡ Ok cs
      → event_grid settlement bond calls controls ≡ Ok (grid_of (axis_of settlement bond.leg controls) bond cs)
  grid_of-steps cs h = grid_is settlement bond calls controls ∙ follow-given _ _ h

  -- A grid that is given is that of its call steps.
  pub steps_of-grid : (g : BondEventGrid) → event_grid settlement bond calls controls ≡ Ok g
      → (call_steps (axis_of settlement bond.leg controls) bond calls ≡ Ok g.calls) × (g ≡ grid_of (axis_of settlement bond.leg controls) bond g.calls)
  steps_of-grid g h =
      let a = axis_of settlement bond.leg controls in
      let (cs, u, v) = of_given (call_steps a bond calls) (λ cs. Ok (grid_of a bond cs)) (sym (grid_is settlement bond calls controls) ∙ h) in
      let e : grid_of a bond cs ≡ g = cc in
      let k : cs ≡ g.calls = ap (λ (q : BondEventGrid). q.calls) e in
      (u ∙ ap Ok k, sym e ∙ ap (grid_of a bond) k)

  -- A grid is refused as its call steps are.
  pub refused_of_steps : (r : Refusal) → call_steps (axis_of settlement bond.leg controls) bond calls ≡ Err r
      → event_grid settlement bond calls controls ≡ Err r
  refused_of_steps r h = grid_is settlement bond calls controls ∙ follow-refused _ _ h

  pub steps_of-refused : (r : Refusal) → event_grid settlement bond calls controls ≡ Err r
      → call_steps (axis_of settlement bond.leg controls) bond calls ≡ Err r
  steps_of-refused r h =
      let a = axis_of settlement bond.leg controls in
      elim (of_refused (call_steps a bond calls) (λ cs. Ok (grid_of a bond cs)) (sym (grid_is settlement bond calls controls) ∙ h)) [
        | inl u ↦ u
        | inr (cs, u, v) ↦ absurd (given_or_refused refl v)
      ]

  -- With 20 or 27 at place 0, or with 38.
  pub grid-refused : Entries calls → Entries bond.puts → (r : Refusal) → event_grid settlement bond calls controls ≡ Err r
      → (r ≡ record { reason = reason.NoPrincipal; place = 0 }) ⊎ ((r ≡ record { reason = reason.NotFinite; place = 0 }) ⊎ (r.reason ≡ reason.PutAbove))
  grid-refused n q r h = steps-refused (axis_of settlement bond.leg controls) bond calls n q r (steps_of-refused r h)

-- ---- calls dropped or strikes raised, with any fixed puts

module _ (settlement : Settlement) (bond : Bond) (first second : CallSchedule) (controls : TimeGrid) (n : Entries first) (q : Entries bond.puts) (u : Above bond.units) (g : BondEventGrid) (h : event_grid settlement bond first controls ≡ Ok g) where
  -- The second list's grid: given, with no call price lowered and all else the same, or refused with 27.
  pub grid-no_lower : MadeFrom first second → GivenOr27 (NoLowerGrid g) (event_grid settlement bond second controls)
  grid-no_lower m = go (calls-no_lower a bond first second n q u g.calls s.0 m)
    where
      a : Axis
      a = axis_of settlement bond.leg controls

      s : (call_steps a bond first ≡ Ok g.calls) × (g ≡ grid_of a bond g.calls)
      s = steps_of-grid settlement bond first controls g h

      go : GivenOr27 (NoLowerSteps g.calls) (call_steps a bond second) → GivenOr27 (NoLowerGrid g) (event_grid settlement bond second controls)
      go (is_given ds e l) =
          is_given (grid_of a bond ds) (grid_of-steps settlement bond second controls ds e)
          (record {
            same_maturity = ap (λ (q : BondEventGrid). q.maturity_time) s.1;
            same_steps_lem = ap (λ (q : BondEventGrid). q.steps) s.1;
            same_cashflows = ap (λ (q : BondEventGrid). q.cashflows) s.1;
            no_lower-steps = l;
          })
      go (is_27 r e t) = is_27 r (refused_of_steps settlement bond second controls r e) t

  -- ---- reordered: the very same grid
  pub grid-reordered : ((i : ℕ) → i < size first → T (lt plus_zero (strike_of first i))) → Reordered first second
      → event_grid settlement bond second controls ≡ Ok g
  grid-reordered strikes r =
      let a = axis_of settlement bond.leg controls in
      let (s, e) = steps_of-grid settlement bond first controls g h in
      grid_of-steps settlement bond second controls g.calls (calls-reordered a bond first second n q u g.calls s strikes r) ∙ ap Ok (sym e)

-- ---- puts dropped or strikes lowered

module _ (settlement : Settlement) (bond : Bond) (calls : CallSchedule) (controls : TimeGrid) (first second : CallSchedule) (q : Entries first) (u : Above bond.units) (g : BondEventGrid) (d : event_grid settlement (bond_with_puts bond first) calls controls ≡ Ok g) where
  -- Both accepted: the first list's grid gives no lower values.
  pub grid-puts-no_lower : Entries calls → LoweredFrom first second → (h : BondEventGrid) → event_grid settlement (bond_with_puts bond second) calls controls ≡ Ok h → NoLowerGrid h g
  grid-puts-no_lower n m h e =
      let (s, x) = steps_of-grid settlement (bond_with_puts bond first) calls controls g d in
      let (t, y) = steps_of-grid settlement (bond_with_puts bond second) calls controls h e in
      record {
        same_maturity = ap (λ (z : BondEventGrid). z.maturity_time) y ∙ sym (ap (λ (z : BondEventGrid). z.maturity_time) x);
        same_steps_lem = ap (λ (z : BondEventGrid). z.steps) y ∙ sym (ap (λ (z : BondEventGrid). z.steps) x);
        same_cashflows = ap (λ (z : BondEventGrid). z.cashflows) y ∙ sym (ap (λ (z : BondEventGrid). z.cashflows) x);
        no_lower-steps = puts-no_lower (axis_of settlement bond.leg controls) bond calls first second q u g.calls s n m h.calls t;
      }

  -- Reordered: the very same grid.
  pub grid-puts-reordered : ((i : ℕ) → i < size first → T (lt plus_zero (strike_of first i))) → Reordered first second
      → event_grid settlement (bond_with_puts bond second) calls controls ≡ Ok g
  grid-puts-reordered strikes r =
      let (s, e) = steps_of-grid settlement (bond_with_puts bond first) calls controls g d in
      grid_of-steps settlement (bond_with_puts bond second) calls controls g.calls (puts-reordered (axis_of settlement bond.leg controls) bond calls first second q u g.calls s strikes r) ∙ ap Ok (sym e)
