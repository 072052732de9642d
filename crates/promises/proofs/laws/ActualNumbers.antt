-- Under codes 0 and 1 no entry is refused with 34 or 35. Assumes nothing.
use Rattle.floats.specs.Reasons.{reason_number, refusal_number}
use Rattle.std.specs.Prelude.{ℕ, ◌≤◌, ◌≡◌, refl, Float, Ok, Err}
use Rattle.std.proofs.Common.{sym, ◌∙◌}
use Rattle.std.proofs.Math.Path.{subst}
use mathlib.Core.List.{List, [], ◌∷◌, ◌++◌}
use Rattle.floats.specs.Answers.{Answer, Check}
use Rattle.floats.specs.Answers as answers
use Rattle.terms.specs.declared.Settlement.{Settlement}
use Rattle.terms.specs.Terms.{Leg, CallSchedule, Pillars, Bond, TimeGrid, Market}
use Rattle.terms.specs.Checks.{first_of, on_check, pillar_days, sigma_order, last_day, any_paid, pillar_order, pillars_apart, maturity_apart, positive_factors}
use Rattle.terms.specs.Entries.{setting_checks, grid_counts, most_checks, grid_days, grid_numbers, call_orders, grid_checks, model_counts, tree_fields, list_numbers, model_numbers, market_checks, straight_counts, straight_days, straight_numbers, straight_checks, tree_checks, spread_checks}
use Rattle.terms.specs.declared.Epoch.{Epoch}
use Rattle.terms.specs.Numbers.{float, target_limit}
use Rattle.terms.specs.Times.{epoch_of}
use Rattle.terms.specs.Curve.{curve_over, pillar_times, curve_at}
use Rattle.terms.specs.laws.Sequence.{Passes, all, GroupsPass, groups_of_first, first_of-passes}
use Rattle.bondevents.specs.declared.GridAnswer.{GridAnswer}
use Rattle.bondevents.specs.Grid.{event_grid, refused_grid, accepted_grid, grid_answer}
use Rattle.bondpricer.specs.Straight.{with_flow, flows, discounted_value, straight_value}
use Rattle.lattice.specs.Layers.{Room}
use Rattle.treebasedbondpricer.specs.Tree.{tree_value}
use Rattle.spreads.specs.Spreads.{Quoted, at_spread, quoted_checks, spread_from_price}
use Rattle.floats.specs.laws.Cases.{Holds}
use Rattle.promises.specs.RefusalNumbers.{Among}
use Rattle.promises.specs.DayCounts.{Neither34Nor35, NeverAnswered}
use Rattle.promises.proofs.laws.Numbers.{one_of, one_more, wider, grid_refusals, walk_refusals, AnswerAmong, CheckAmong, wider-answer, on_outcome_lem, on_check_lem, numbers}
use Rattle.promises.proofs.laws.ActualDays.{pillars_apart_lem, matures_apart}
use Rattle.promises.proofs.laws.Converges.{Settles}
use Rattle.promises.proofs.laws.GridNumbers.{grid_number_lem}
use Rattle.promises.proofs.laws.WalkNumbers.{exp-number, curve-number}
use Rattle.promises.proofs.laws.TreeNumbers as tree_numbers_lem
use Rattle.promises.proofs.laws.SpreadNumbers as spread-numbers

-- All numbers of grid, tree value, straight value and spread from price, but for 34 and 35.
abbrev actual_refusals : List ℕ
actual_refusals = 1 ∷ 2 ∷ 3 ∷ 4 ∷ 5 ∷ 6 ∷ 7 ∷ 8 ∷ 20 ∷ 21 ∷ 22 ∷ 23 ∷ 25 ∷ 26 ∷ 27 ∷ 29 ∷ 33 ∷ 36 ∷ 37 ∷ 38 ∷ 44 ∷ []

-- ---- checks without those that pass

-- A check that passes where all before it pass may be left out.
first_without : (before : List Check) (c : Check) (after : List Check) → (Passes before → c ≡ Ok tt) → first_of (before ++ (c ∷ after)) ≡ first_of (before ++ after)
unfolding first_of on_check
first_without [] c after h = rw (h tt, on_check) refl
first_without ((Ok tt) ∷ before) c after h = first_without before c after (λ p. h (refl, p))
first_without (Err r ∷ before) c after h = refl

by_groups : (xss : List (List Check)) → Passes (all xss) → GroupsPass xss
by_groups xss p = groups_of_first xss (first_of-passes (all xss) p)

-- ---- the tree value's and spread from price's

module _ (limit : Float) (m : Market) (calls : CallSchedule) (c : m.settlement.code ≤ 1) where
  abbrev leg : Leg
  leg = m.bond.leg

  abbrev before : List (List Check)
  before =
      setting_checks m.controls m.settlement.code
      ∷ grid_counts leg calls m.bond.puts
      ∷ model_counts m.model.sigma m.pillars
      ∷ most_checks m.bond.puts
      ∷ grid_days m.settlement.day leg calls m.bond.puts
      ∷ (pillar_days m.pillars ∷ [])
      ∷ tree_fields limit m.bond.units m.model.alpha m.spread
      ∷ list_numbers leg calls m.bond.puts
      ∷ model_numbers m.model.sigma m.pillars
      ∷ call_orders calls m.bond.puts
      ∷ (sigma_order m.model.sigma ∷ any_paid m.settlement.day leg ∷ [])
      ∷ (pillar_order m.settlement.day (last_day leg.days) m.pillars ∷ [])
      ∷ []

  no_34 : Passes (all before) → pillars_apart m.settlement m.pillars ≡ Ok tt
  no_34 p =
      let g = (by_groups before p).1.1.1.1.1 in
      pillars_apart_lem m.settlement c m.pillars (last_day leg.days) g.0.0 g.1.1.1.1.1.1.0.0

  no_35 : Passes (all before) → maturity_apart m.settlement leg ≡ Ok tt
  no_35 p =
      let g = by_groups before p in
      let days = g.1.1.1.1.0 in
      let orders = g.1.1.1.1.1.1.1.1.1.1.0 in
      matures_apart m.settlement c leg g.1.0.0 days.1.0 orders.1.0

  tried : Holds (CheckAmong actual_refusals) (first_of (all before ++ (positive_factors m.pillars ∷ [])))
  unfolding first_of
  tried = search numbers depth 40 fits 8000

  market_actual : Holds (CheckAmong actual_refusals) (market_checks limit m calls)
  unfolding market_checks
  market_actual =
      let late = positive_factors m.pillars ∷ [] in
      let apart = maturity_apart m.settlement leg in
      subst (Holds (CheckAmong actual_refusals))
      (sym (first_without (all before) (pillars_apart m.settlement m.pillars) (apart ∷ late) no_34 ∙ first_without (all before) apart late no_35))
      tried

-- ---- the grid's

module _ (s : Settlement) (bond : Bond) (calls : CallSchedule) (controls : TimeGrid) (c : s.code ≤ 1) where
  abbrev grid-before : List (List Check)
  grid-before =
      setting_checks controls s.code
      ∷ grid_counts bond.leg calls bond.puts
      ∷ most_checks bond.puts
      ∷ grid_days s.day bond.leg calls bond.puts
      ∷ grid_numbers bond.units bond.leg calls bond.puts
      ∷ call_orders calls bond.puts
      ∷ (any_paid s.day bond.leg ∷ [])
      ∷ []

  grid_no_35 : Passes (all grid-before) → maturity_apart s bond.leg ≡ Ok tt
  grid_no_35 p =
      let g = by_groups grid-before p in
      matures_apart s c bond.leg g.1.0.0 g.1.1.1.0.1.0 g.1.1.1.1.1.1.0.0

  grid-tried : Holds (CheckAmong actual_refusals) (first_of (all grid-before ++ []))
  unfolding first_of
  grid-tried = search numbers depth 40 fits 8000

  grid_actual : Holds (CheckAmong actual_refusals) (grid_checks s bond calls controls)
  unfolding grid_checks
  grid_actual = subst (Holds (CheckAmong actual_refusals)) (sym (first_without (all grid-before) (maturity_apart s bond.leg) [] grid_no_35)) grid-tried

-- ---- the straight value's

module _ (s : Settlement) (l : Leg) (spread : Float) (p : Pillars) (c : s.code ≤ 1) where
  abbrev straight-before : List (List Check)
  straight-before =
      straight_counts s.code l p
      ∷ straight_days s.day l p
      ∷ straight_numbers spread l p
      ∷ (any_paid s.day l ∷ [])
      ∷ (pillar_order s.day (last_day l.days) p ∷ [])
      ∷ []

  straight_no_34 : Passes (all straight-before) → pillars_apart s p ≡ Ok tt
  straight_no_34 q =
      let g = by_groups straight-before q in
      pillars_apart_lem s c p (last_day l.days) g.1.0.1.1.0 g.1.1.1.1.0.0

  straight-tried : Holds (CheckAmong actual_refusals) (first_of (all straight-before ++ (positive_factors p ∷ [])))
  unfolding first_of
  straight-tried = search numbers depth 40 fits 8000

  straight_actual : Holds (CheckAmong actual_refusals) (straight_checks s l spread p)
  unfolding straight_checks
  straight_actual = subst (Holds (CheckAmong actual_refusals)) (sym (first_without (all straight-before) (pillars_apart s p) (positive_factors p ∷ []) straight_no_34)) straight-tried

flow_number : (times factors : List Float) (e : Epoch) (spread reference : Float) (day : ℕ) (amount value : Float) → Holds (AnswerAmong walk_refusals) (with_flow (curve_over times factors) e spread reference day amount value)
unfolding with_flow
flow_number times factors e spread reference day amount value = search (curve-number, exp-number, numbers) depth 24

flows-number : (days : List ℕ) (amounts : List Float) (times factors : List Float) (e : Epoch) (spread reference value : Float) → Holds (AnswerAmong walk_refusals) (flows (curve_over times factors) e spread reference days amounts value)
unfolding flows
flows-number (day ∷ days) (amount ∷ amounts) times factors e spread reference value =
    let later = flows-number days amounts times factors e spread reference in
    search (flow_number, numbers)
flows-number (day ∷ days) [] times factors e spread reference value = search numbers
flows-number [] amounts times factors e spread reference value = search numbers

discounted-number : (times factors : List Float) (e : Epoch) (l : Leg) (spread : Float) → Holds (AnswerAmong walk_refusals) (discounted_value (curve_over times factors) e l spread)
unfolding discounted_value
discounted-number times factors e l spread = search (curve-number, flows-number, numbers)

-- ---- what the entries answer

neither : (n : ℕ) → Among (0 ∷ actual_refusals) n → Neither34Nor35 n
neither n h = (λ e. (subst (Among (0 ∷ actual_refusals)) e h).is_one, λ e. (subst (Among (0 ∷ actual_refusals)) e h).is_one)

abbrev GridAmong : GridAnswer → Type 0
GridAmong g = Among (0 ∷ actual_refusals) (refusal_number g.refusal)

grid-answered : (s : Settlement) (bond : Bond) (calls : CallSchedule) (controls : TimeGrid) → s.code ≤ 1 → Holds GridAmong (grid_answer s bond calls controls)
unfolding grid_answer
grid-answered s bond calls controls c =
    on_check_lem (grid_checks s bond calls controls) refused_grid _ (grid_actual s bond calls controls c) (λ r h. record { it = one_more 0 (reason_number r.reason) h })
    (on_outcome_lem (event_grid s bond calls controls) refused_grid accepted_grid (grid_number_lem s bond calls controls)
    (λ r h. record { it = one_more 0 (reason_number r.reason) (wider grid_refusals actual_refusals (reason_number r.reason) refl h) }) (λ g. record { it = one_of 0 refl }))

straight-answered : (s : Settlement) (l : Leg) (spread : Float) (p : Pillars) → s.code ≤ 1 → Holds (AnswerAmong actual_refusals) (straight_value s l spread p)
unfolding straight_value
straight-answered s l spread p c =
    let value = discounted_value (curve_at s p) (epoch_of s) l spread in
    on_check_lem (straight_checks s l spread p) Err value (straight_actual s l spread p c) (λ r h. record { it = h })
    (wider-answer walk_refusals actual_refusals refl value (discounted-number (pillar_times s p.days) p.factors (epoch_of s) l spread))

tree-answered : (m : Market) (calls : CallSchedule) (room : Room) → m.settlement.code ≤ 1 → Holds (tree_numbers_lem.TreeAmong actual_refusals) (tree_value m calls room)
unfolding tree_checks
tree-answered m calls room c = tree_numbers_lem.tree_among actual_refusals refl m calls room (market_actual (float 1) m calls c)

spread-answered : (asked : Quoted) (calls : CallSchedule) (room : Room) → asked.settlement.code ≤ 1 → Holds (Settles (Among actual_refusals)) (spread_from_price asked calls room)
unfolding spread_from_price spread_checks
spread-answered asked calls room c =
    let solved = spread-numbers.solved_with asked calls room (Among actual_refusals) (one_of 27 refl) (one_of 29 refl) (one_of 36 refl)
    (λ s q e. subst (tree_numbers_lem.TreeAmong actual_refusals) e (tree-answered (at_spread asked s) calls room c).it) in
    on_check_lem (quoted_checks asked calls) _ _ (market_actual target_limit (at_spread asked asked.target) calls c) (λ r h. record { it = h }) (record { it = solved })

or_0 : (a : Answer) → AnswerAmong actual_refusals a → Among (0 ∷ actual_refusals) (answers.number_of a)
or_0 (Ok x) h = one_of 0 refl
or_0 (Err r) h = one_more 0 (reason_number r.reason) h

pub never-answered : NeverAnswered
never-answered =
    record {
      grid = λ s bond calls controls c. neither _ (grid-answered s bond calls controls c).it;
      tree = λ m calls room c. neither _ (tree_numbers_lem.or_0 (tree_value m calls room) (tree-answered m calls room c).it);
      straight = λ s l spread p c. neither _ (or_0 (straight_value s l spread p) (straight-answered s l spread p c).it);
      spread = λ asked calls room c. neither _ (spread-numbers.or_0 (spread_from_price asked calls room) (spread-answered asked calls room c).it);
    }
