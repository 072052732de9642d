-- The spread's root from its parts: the checks, the grid, the tree fitted once, and the slices left all zero. Assumes nothing.
use Rattle.std.specs.Prelude.{ℕ, ◌≡◌, Bool, length, replicate, ℤ, pos, Ok, Err}
use Rattle.std.proofs.Math.Path.{refl, sym, ap}
use Rattle.std.proofs.Common.{◌∙◌}
use Rattle.std.proofs.Math.Bool.{cond}
use mathlib.Core.List.{List, map}
use Rattle.std.specs.Float.Ieee.{Float, binary64, of_bits, sub, div, neg, lt}
use Rattle.floats.specs.Refusals.{Refusal}
use Rattle.floats.specs.Answers.{Answer, plus_zero, one, refusal, follow, tested, Check, Outcome, on_outcome, when_finite}
use Rattle.terms.specs.Numbers.{float}
use Rattle.terms.specs.Terms.{CallSchedule, Market}
use Rattle.terms.specs.Checks.{on_check, beyond}
use Rattle.terms.specs.Curve.{curve_over, pillar_times}
use Rattle.bondevents.specs.declared.CallStep.{CallStep}
use Rattle.bondevents.specs.declared.BondEventGrid.{BondEventGrid}
use Rattle.bondevents.specs.Grid.{event_grid}
use Rattle.bondevents.specs.Parts.{step_mark, step_prices}
use Rattle.lattice.specs.Layers.{At, Room}
use Rattle.backwardinduction.specs.laws.WalkMore.{calls_of}
use Rattle.treebasedbondpricer.specs.declared.fitted.FittedTree.{FittedTree}
use Rattle.treebasedbondpricer.specs.Tree.{Fitted, Lent, room_of, zeroed}
use Rattle.treebasedbondpricer.specs.laws.FittedIn.{FitsTree, fitted_over}
use Rattle.treebasedbondpricer.specs.laws.Valued.{Standing, not_standing, same_row, same_calls}
use Rattle.backwardinduction.specs.laws.WalkRoot.{root_of}
use Rattle.treebasedbondpricer.specs.laws.Entered.{tree_is}
use Rattle.brackets.specs.declared.Root.{Root}
use Rattle.rollback.specs.declared.walking.Lattice.{Lattice}
use Rattle.rollback.specs.declared.walking.Events.{Events}
use Rattle.rollback.specs.Walking.{steps_of}
use Rattle.sought.specs.declared.Priced.TheVariants.{Tree}
use Rattle.brackets.specs.Brackets.{Searched, no_root, bracketed_root}
use Rattle.sought.specs.Objectives.{first_lower, first_upper}
use Rattle.spreads.specs.Spreads.{Quoted, at_spread, quoted_checks, spread_from_price, lent_after, solve_spread, Solved}
use Rattle.sought.specs.laws.Sought.{spread_at, sought_at}
use Rattle.brackets.specs.laws.SoughtRoots.{sought_spread_lem}
use Rattle.spreads.specs.laws.SpreadTree.{walked_at, found_over, found_on, fitted-once}
use Rattle.floats.specs.declared.Reason.TheVariants as reason

-- The lowest spread, as the code writes it.
abbrev pub lowest_spread : Float
lowest_spread = of_bits binary64 0xbff0_0000_0000_0000

lowest_is : lowest_spread ≡ neg one
unfolding neg of_bits
lowest_is = refl

-- The grid, then the root.
unfoldable pub found_for : Quoted → CallSchedule → Room → Searched Root
unfolding found_on event_grid
found_for asked calls room = found_on (at_spread asked asked.target) room asked.target (event_grid asked.settlement asked.bond calls asked.controls)

module _ {o : Outcome Fitted} {long wide : ℕ} {counts : List ℕ} {spacings shifts : List Float} {nodes : List ℤ} {probabilities : List Float} where
  -- What is refused before the walk is met at the first try.
  pub root-refused : {r : Outcome FittedTree} {q : Refusal} (target : Float) (cashflows : List Float) (calls : List CallStep) → FitsTree o long wide counts spacings shifts nodes probabilities r → r ≡ Err q → {v : Searched Root} → v ≡ no_root q 1 → v ≡ found_over target cashflows calls o
  unfolding found_over on_outcome
  root-refused target cashflows calls p e f = f ∙ sym (ap (found_over target cashflows calls) (not_standing p e))

-- The solver works on the tree that stands in the slices.
module _
    {o : Outcome Fitted} {long wide : ℕ} (lattice : Lattice) (events : Events) (target : Float)
    (s : Standing o lattice.dt lattice.flat long wide lattice.counts.now lattice.spacings.now lattice.shifts.now lattice.nodes.now lattice.probabilities.now) where
  tried-alike : (x : Float) → spread_at lattice events target x ≡ walked_at target events.cashflows.now (steps_of events) s.content x
  unfolding spread_at walked_at
  tried-alike x =
      ap (λ (row : Outcome (List At)). cond (lt one x) (refusal reason.SpreadAbove 0) (cond (beyond (float 1) x) (refusal reason.Number 0) (follow (root_of row) λ y. tested (sub binary64 y target) 0)))
      (sym (same_row s x events.cashflows.now (steps_of events)))

  pub root_is : {v : Searched Root}
      → v ≡ bracketed_root (sought_at (Tree lattice events) target) first_lower first_upper lowest_spread
      → v ≡ found_over target events.cashflows.now (steps_of events) o
  unfolding found_over on_outcome
  root_is e =
      e
      ∙ ap (bracketed_root (sought_at (Tree lattice events) target) first_lower first_upper) lowest_is
      ∙ sought_spread_lem lattice events target first_lower first_upper (neg one)
      ∙ ap (λ (objective : Float → Answer). bracketed_root objective first_lower first_upper (neg one)) (λ i x. tried-alike x i)
      ∙ sym (ap (found_over target events.cashflows.now (steps_of events)) s.is)

pub root-with_calls : (o : Outcome Fitted) (target : Float) (cashflows : List Float) (calls : List CallStep) {marks : List ℕ} {prices : List Float} {v : Searched Root} → v ≡ found_over target cashflows (calls_of marks prices) o → marks ≡ map step_mark calls → prices ≡ step_prices calls → v ≡ found_over target cashflows calls o
root-with_calls o target cashflows calls e f g = e ∙ ap (λ (cs : List CallStep). found_over target cashflows cs o) (same_calls calls f g)

module _ (asked : Quoted) (calls : CallSchedule) (room : Room) {r : Outcome BondEventGrid} (e : r ≡ event_grid asked.settlement asked.bond calls asked.controls) where
  abbrev m : Market
  m = at_spread asked asked.target

  pub root_unchecked : {q : Refusal} {v : Searched Root} → r ≡ Err q → v ≡ no_root q 1 → v ≡ found_for asked calls room
  unfolding found_for found_on on_outcome
  root_unchecked p f = f ∙ sym (ap (found_on m room asked.target) (sym e ∙ p))

  pub root-checked : {times : List Float} {g : BondEventGrid} {v : Searched Root} → times ≡ pillar_times m.settlement m.pillars.days → r ≡ Ok g
      → v ≡ found_over asked.target g.cashflows g.calls (when_finite (div binary64 g.maturity_time (float g.steps)) 0 λ dt. fitted_over (curve_over times m.pillars.factors) m.model room g.steps dt)
      → v ≡ found_for asked calls room
  unfolding found_for found_on on_outcome
  root-checked {g = g} t p f =
      f
      ∙ ap (λ (times : List Float). found_over asked.target g.cashflows g.calls (when_finite (div binary64 g.maturity_time (float g.steps)) 0 λ dt. fitted_over (curve_over times m.pillars.factors) m.model room g.steps dt)) t
      ∙ ap (found_over asked.target g.cashflows g.calls) (sym (tree_is m room g.maturity_time g.steps))
      ∙ sym (ap (found_on m room asked.target) (sym e ∙ p))

module _ (asked : Quoted) (calls : CallSchedule) {k : Check} (e : k ≡ quoted_checks asked calls) (before : Lent) where
  pub solved-refused : {q : Refusal} {v : Searched Root} → k ≡ Err q → v ≡ no_root q 0 → Solved asked calls v before before
  unfolding spread_from_price lent_after on_check
  solved-refused p f =
      record {
        root = f ∙ ap (λ (c : Check). on_check c (λ r. no_root r 0) (solve_spread asked calls (room_of before))) (sym p ∙ e);
        slices = ap (λ (c : Check). on_check c (λ r. before) (zeroed before)) (sym p ∙ e);
      }

  pub solved-zeroed : {v : Searched Root} {nodes : List ℤ} {probabilities first second : List Float} {a b c d : ℕ} → k ≡ Ok tt → v ≡ found_for asked calls (room_of before)
      → nodes ≡ replicate a (pos 0) → probabilities ≡ replicate b plus_zero → first ≡ replicate c plus_zero → second ≡ replicate d plus_zero
      → a ≡ length before.nodes → b ≡ length before.probabilities → c ≡ length before.first → d ≡ length before.second
      → Solved asked calls v before (record { nodes = nodes; probabilities = probabilities; first = first; second = second })
  unfolding spread_from_price lent_after on_check found_for
  solved-zeroed p f n o q s g h i j =
      record {
        root = f ∙ sym (fitted-once asked calls (room_of before) (sym e ∙ p)) ∙ ap (λ (c : Check). on_check c (λ r. no_root r 0) (solve_spread asked calls (room_of before))) (sym p ∙ e);
        slices = rw (n, o, q, s, g, h, i, j) (ap (λ (c : Check). on_check c (λ r. before) (zeroed before)) (sym p ∙ e));
      }
