-- The event grid from its parts: T, the steps, the calls and the cashflows that the code has worked out. Assumes nothing.
use Rattle.std.specs.Prelude.{Ok, Err, Some}
use Prim.Native.Nat.{ℕ, ◌≤◌}
use native.Mathlib.Nat.{le_trans, le-max_left, max-le, min-le_left}
use mathlib.Core.Path.{◌≡◌, refl, sym, ap, ◌∙◌}
use mathlib.Core.List.{List}
use lib.ListN.{replicate}
use lib.Ieee.{Float}
use Rattle.floats.specs.Refusals.{Refusal}
use Rattle.floats.specs.Answers.{plus_zero, Check, Outcome, follow, on_outcome}
use Rattle.terms.specs.declared.Settlement.{Settlement}
use Rattle.terms.specs.declared.Epoch.{Epoch}
use Rattle.terms.specs.Terms.{Bond, CallSchedule, TimeGrid}
use Rattle.terms.specs.Times.{epoch_of, time_from}
use Rattle.terms.specs.Checks.{on_check, last_day}
use Rattle.terms.specs.Entries.{grid_checks}
use Rattle.terms.specs.laws.TermChecks.{StepsInRange, settings-passed, LegCounted, leg-counted}
use Rattle.terms.specs.laws.CallChecks.{CallCounted, call-counted}
use Rattle.terms.specs.laws.GridChecks.{grid-terms, grid-calls}
use Rattle.bondevents.specs.declared.CallStep.{CallStep}
use Rattle.bondevents.specs.declared.BondEventGrid.{BondEventGrid}
use Rattle.bondevents.specs.Steps.{Axis, steps_of, paid_into, step_cashflows}
use Rattle.bondevents.specs.Calls.{call_steps}
use Rattle.bondevents.specs.Grid.{axis_of, event_grid, refused_grid, accepted_grid, grid_answer}
use Rattle.bondevents.specs.Parts.{axis_at, checked_grid, no_grid}

-- At least one step, and no more than the maximum.
pub steps-some : (T : Float) (g : TimeGrid) → 1 ≤ steps_of T g
unfolding steps_of
steps-some T g = le-max_left 1 _

pub steps-few : (T : Float) (g : TimeGrid) → 1 ≤ g.maximum → steps_of T g ≤ g.maximum
unfolding steps_of
steps-few T g h = max-le h (min-le_left g.maximum _)

pub bounded : {n : ℕ} (T : Float) (g : TimeGrid) → n ≡ steps_of T g → 1 ≤ g.maximum → g.maximum ≤ 512 → (1 ≤ n) × (n ≤ 512)
bounded T g e some few = rw e (steps-some T g, le_trans (steps-few T g some) few)

module _ (settlement : Settlement) (bond : Bond) (calls : CallSchedule) (controls : TimeGrid) (s : Epoch) (day : ℕ) (m : Float) (n : ℕ) (d : s ≡ epoch_of settlement) (l : day ≡ last_day bond.leg.days) (p : m ≡ time_from s day) (q : n ≡ steps_of m controls) where
  axis_is : axis_at s m n ≡ axis_of settlement bond.leg controls
  unfolding axis_of
  axis_is = rw (q, p, l, d) refl

  -- The grid from the calls of each step.
  grid_is : event_grid settlement bond calls controls ≡ follow (call_steps (axis_at s m n) bond calls) λ cs. Ok (record { maturity_time = m; steps = n; cashflows = step_cashflows (axis_at s m n) bond.leg; calls = cs })
  unfolding event_grid
  grid_is = ap (λ (a : Axis). follow (call_steps a bond calls) λ cs. Ok (record { maturity_time = a.maturity; steps = a.steps; cashflows = step_cashflows a bond.leg; calls = cs })) (sym axis_is)

  module _ {r : Outcome (List CallStep)} (e : r ≡ call_steps (axis_at s m n) bond calls) where
    on_steps : {o : Outcome (List CallStep)} → r ≡ o → event_grid settlement bond calls controls ≡ follow o λ cs. Ok (record { maturity_time = m; steps = n; cashflows = step_cashflows (axis_at s m n) bond.leg; calls = cs })
    on_steps f = grid_is ∙ ap (λ (z : Outcome (List CallStep)). follow z λ cs. Ok (record { maturity_time = m; steps = n; cashflows = step_cashflows (axis_at s m n) bond.leg; calls = cs })) (sym e ∙ f)

    pub grid-refused : {t : Refusal} {z : Outcome BondEventGrid} → r ≡ Err t → z ≡ Err t → z ≡ event_grid settlement bond calls controls
    unfolding on_outcome
    grid-refused c w = w ∙ sym (on_steps c)

    pub grid-given : {cs : List CallStep} {row : List Float} → r ≡ Ok cs → row ≡ paid_into (axis_at s m n) bond.leg.days bond.leg.amounts (replicate 513 plus_zero) → Ok (record { maturity_time = m; steps = n; cashflows = row; calls = cs }) ≡ event_grid settlement bond calls controls
    unfolding on_outcome
    grid-given {cs} {row} c w =
        ap (λ (y : List Float). Ok (record { maturity_time = m; steps = n; cashflows = y; calls = cs })) w
        ∙ sym (on_steps c)

-- ---- the grid entry

module _ (settlement : Settlement) (bond : Bond) (calls : CallSchedule) (controls : TimeGrid) where
  checks_then : (k : Check) (o : Outcome BondEventGrid) → grid_answer settlement bond calls controls ≡ on_check k refused_grid (on_outcome o refused_grid accepted_grid)
      → checked_grid settlement bond calls controls ≡ on_check k Err o
      → grid_answer settlement bond calls controls ≡ on_outcome (checked_grid settlement bond calls controls) refused_grid accepted_grid
  unfolding on_check on_outcome
  checks_then (Ok u) o e f = e ∙ ap (λ (z : Outcome BondEventGrid). on_outcome z refused_grid accepted_grid) (sym f)
  checks_then (Err q) o e f = e ∙ ap (λ (z : Outcome BondEventGrid). on_outcome z refused_grid accepted_grid) (sym f)

  -- The entry's answer is the grid behind the checks, or a refusal beside a grid that is all zero.
  by_checked : grid_answer settlement bond calls controls ≡ on_outcome (checked_grid settlement bond calls controls) refused_grid accepted_grid
  by_checked = checks_then (grid_checks settlement bond calls controls) (event_grid settlement bond calls controls) (unfold grid_answer in refl) (unfold checked_grid in refl)

  module _ {r : Outcome BondEventGrid} (e : r ≡ checked_grid settlement bond calls controls) where
    pub answer_of-grid : {g : BondEventGrid} → r ≡ Ok g → accepted_grid g ≡ grid_answer settlement bond calls controls
    unfolding on_outcome
    answer_of-grid p = sym (by_checked ∙ ap (λ (z : Outcome BondEventGrid). on_outcome z refused_grid accepted_grid) (sym e ∙ p))

    pub answer_of-refusal : {q : Refusal} {z : BondEventGrid} → r ≡ Err q → z ≡ no_grid → record { refusal = Some q; grid = z } ≡ grid_answer settlement bond calls controls
    unfolding on_outcome no_grid
    answer_of-refusal {q} p w =
        ap (λ (y : BondEventGrid). record { refusal = Some q; grid = y }) w
        ∙ sym (by_checked ∙ ap (λ (z : Outcome BondEventGrid). on_outcome z refused_grid accepted_grid) (sym e ∙ p))

module _ (settlement : Settlement) (bond : Bond) (calls : CallSchedule) (controls : TimeGrid) {k : Check} (e : k ≡ grid_checks settlement bond calls controls) where
  -- What the passed checks say of the settings and the lists.
  pub settled : k ≡ Ok tt → StepsInRange controls
  settled c = settings-passed controls (grid-terms settlement bond calls controls (sym e ∙ c)).steps

  pub leg-sized : k ≡ Ok tt → LegCounted bond.leg
  leg-sized c = leg-counted bond.leg (grid-terms settlement bond calls controls (sym e ∙ c)).leg.counted

  pub calls-sized : k ≡ Ok tt → CallCounted calls
  calls-sized c = call-counted calls (grid-calls settlement bond calls controls (sym e ∙ c)).counted

  pub puts-sized : k ≡ Ok tt → CallCounted bond.puts
  puts-sized c = call-counted bond.puts (grid-terms settlement bond calls controls (sym e ∙ c)).puts.counted
