-- An entry's checks are those of its groups, one after the other: in stages, as the code makes them. Assumes nothing.
use Rattle.std.specs.Prelude.{◌≡◌, refl, List, [], ◌∷◌, ◌++◌, ℕ, ◌≤◌, Float, Ok, Err}
use Rattle.std.proofs.Common.{sym, ap, ◌∙◌}
use Rattle.floats.specs.Refusals.{Refusal}
use Rattle.terms.specs.declared.Settlement.{Settlement}
use Rattle.floats.specs.Answers.{Check}
use Rattle.terms.specs.Terms.{Leg, CallSchedule, SigmaSchedule, Pillars, Bond, TimeGrid, Market}
use Rattle.terms.specs.Checks.{put_most, on_check, first_of, any_paid}
use Rattle.terms.specs.laws.Sequence.{passed_not_refused, all, passes_of_first, first_after, groups_of_first}
use Rattle.terms.specs.laws.TermChecks.{LegCounted, leg-counted, SigmaCounted, sigma-counted, PillarsCounted, pillars-counted}
use Rattle.terms.specs.laws.CallChecks.{CallCounted, call-counted, put_entries, put-few}
use Rattle.terms.specs.CallLists.{Entries, size}
use Rattle.terms.specs.Entries.{setting_checks, grid_counts, most_checks, grid_days, grid_numbers, grid_orders, grid_checks, model_counts, tree_counts, tree_days, tree_numbers, tree_orders, late_checks, market_checks, straight_counts, straight_days, straight_numbers, straight_orders, straight_checks, yield_counts, yield_days, yield_numbers, yield_checks}

-- ---- stages of any checks

-- The first refusal of two lists is that of the first, and of the second where the first is passed.
pub first_joined : (xs ys : List Check) → first_of (xs ++ ys) ≡ first_of (first_of xs ∷ ys)
unfolding first_of on_check
first_joined [] ys = refl
first_joined ((Ok tt) ∷ xs) ys = first_joined xs ys
first_joined (Err q ∷ xs) ys = refl

-- A refusal of the first is the answer.
pub first_stopped : (xs ys : List Check) (q : Refusal) → first_of xs ≡ Err q → first_of (xs ++ ys) ≡ Err q
unfolding first_of on_check
first_stopped xs ys q e = first_joined xs ys ∙ ap (λ (z : Check). on_check z Err (first_of ys)) e

abbrev each : List (List Check) → List Check
each [] = []
each (xs ∷ xss) = first_of xs ∷ each xss

pub in_stages : (xss : List (List Check)) → first_of (all xss) ≡ first_of (each xss)
unfolding first_of
in_stages [] = refl
in_stages (xs ∷ xss) = first_joined xs (all xss) ∙ ap (on_check (first_of xs) Err) (in_stages xss)

-- ---- the grid

pub grid_in_stages : (s : Settlement) (b : Bond) (k : CallSchedule) (g : TimeGrid)
    → grid_checks s b k g
    ≡ first_of (first_of (setting_checks g s.code ++ grid_counts b.leg k b.puts) ∷ first_of (most_checks b.puts) ∷ first_of (grid_days s.day b.leg k b.puts) ∷ first_of (grid_numbers b.units b.leg k b.puts) ∷ first_of (grid_orders s b.leg k b.puts) ∷ [])
unfolding grid_checks
grid_in_stages s b k g = in_stages ((setting_checks g s.code ++ grid_counts b.leg k b.puts) ∷ most_checks b.puts ∷ grid_days s.day b.leg k b.puts ∷ grid_numbers b.units b.leg k b.puts ∷ grid_orders s b.leg k b.puts ∷ [])

-- ---- the tree value, and spread from price

pub market_in_stages : (limit : Float) (m : Market) (k : CallSchedule)
    → market_checks limit m k
    ≡ first_of
    (first_of (setting_checks m.controls m.settlement.code ++ tree_counts m.bond.leg k m.bond.puts m.model.sigma m.pillars)
    ∷ first_of (most_checks m.bond.puts)
    ∷ first_of (tree_days m.settlement.day m.bond.leg k m.bond.puts m.pillars)
    ∷ first_of (tree_numbers limit m.bond.units m.model.alpha m.spread m.bond.leg k m.bond.puts m.model.sigma m.pillars)
    ∷ first_of (tree_orders m.settlement.day m.bond.leg k m.bond.puts m.model.sigma)
    ∷ first_of (late_checks m.settlement m.bond.leg m.pillars)
    ∷ [])
unfolding market_checks
market_in_stages limit m k =
    in_stages
    ((setting_checks m.controls m.settlement.code ++ tree_counts m.bond.leg k m.bond.puts m.model.sigma m.pillars)
    ∷ most_checks m.bond.puts
    ∷ tree_days m.settlement.day m.bond.leg k m.bond.puts m.pillars
    ∷ tree_numbers limit m.bond.units m.model.alpha m.spread m.bond.leg k m.bond.puts m.model.sigma m.pillars
    ∷ tree_orders m.settlement.day m.bond.leg k m.bond.puts m.model.sigma
    ∷ late_checks m.settlement m.bond.leg m.pillars
    ∷ [])

-- ---- straight value

pub straight_in_stages : (s : Settlement) (l : Leg) (spread : Float) (p : Pillars) → straight_checks s l spread p ≡ first_of (first_of (straight_counts s.code l p) ∷ first_of (straight_days s.day l p) ∷ first_of (straight_numbers spread l p) ∷ first_of (straight_orders s l p) ∷ [])
unfolding straight_checks
straight_in_stages s l spread p = in_stages (straight_counts s.code l p ∷ straight_days s.day l p ∷ straight_numbers spread l p ∷ straight_orders s l p ∷ [])

-- ---- yields

pub yield_in_stages : (limit : Float) (s : Settlement) (l : Leg) (x : Float) (rate : Check) → yield_checks limit s l x rate ≡ first_of (first_of (yield_counts s.code l) ∷ first_of (yield_days s.day l) ∷ first_of (yield_numbers limit x l) ∷ any_paid s.day l ∷ rate ∷ [])
unfolding yield_checks
yield_in_stages limit s l x rate =
    let counts = yield_counts s.code l in
    let days = yield_days s.day l in
    let rest = any_paid s.day l ∷ rate ∷ [] in
    first_joined counts (days ++ yield_numbers limit x l ++ rest)
    ∙ ap (on_check (first_of counts) Err)
    (first_joined days (yield_numbers limit x l ++ rest) ∙ ap (on_check (first_of days) Err) (first_joined (yield_numbers limit x l) rest))

-- ---- what a stage of counts tells where it is passed

pub record Tells (r whole : Check) (fact : Type 0) : Type 0 where
  pub same : r ≡ whole
  pub passed : r ≡ Ok tt → fact

pub grid_tells : {r : Check} (g : TimeGrid) (code : ℕ) (l : Leg) (k q : CallSchedule) → r ≡ first_of (setting_checks g code ++ grid_counts l k q) → Tells r (first_of (setting_checks g code ++ grid_counts l k q)) (LegCounted l × CallCounted k × Entries q)
grid_tells g code l k q e =
    record {
      same = e;
      passed = λ t. let counts = (groups_of_first (setting_checks g code ∷ grid_counts l k q ∷ []) (sym e ∙ t)).1.0 in (leg-counted l counts.0, call-counted k counts.1.0, put_entries q counts.1.1.0);
    }

pub most_tells : {r : Check} (q : CallSchedule) → r ≡ put_most q → Tells r (put_most q) (size q ≤ 64)
most_tells q e = record { same = e; passed = λ t. put-few q (sym e ∙ t) }

pub model_tells : {r : Check} (v : SigmaSchedule) (p : Pillars) → r ≡ first_of (model_counts v p) → Tells r (first_of (model_counts v p)) (SigmaCounted v × PillarsCounted p)
model_tells v p e =
    record {
      same = e;
      passed = λ t. let counts = passes_of_first (model_counts v p) (sym e ∙ t) in (sigma-counted v counts.0, pillars-counted p counts.1.0);
    }

-- The counts of the grid, then those of sigma and pillars.
module _ {a : Check} (g : TimeGrid) (code : ℕ) (l : Leg) (k q : CallSchedule) (v : SigmaSchedule) (p : Pillars) (grid : Tells a (first_of (setting_checks g code ++ grid_counts l k q)) (LegCounted l × CallCounted k × Entries q)) where
  pub tree_tells : {b : Check} → a ≡ Ok tt → Tells b (first_of (model_counts v p)) (SigmaCounted v × PillarsCounted p)
      → Tells b (first_of (setting_checks g code ++ tree_counts l k q v p)) ((LegCounted l × CallCounted k × Entries q) × (SigmaCounted v × PillarsCounted p))
  tree_tells e model =
      let before = setting_checks g code ++ grid_counts l k q in
      record {
        same = model.same ∙ sym (first_after before (model_counts v p) (passes_of_first before (sym grid.same ∙ e)));
        passed = λ t. (grid.passed e, model.passed t);
      }

  pub tree-refuses : {x : Refusal} → a ≡ Err x → Tells a (first_of (setting_checks g code ++ tree_counts l k q v p)) ((LegCounted l × CallCounted k × Entries q) × (SigmaCounted v × PillarsCounted p))
  tree-refuses {x} e =
      record {
        same = e ∙ sym (first_stopped (setting_checks g code ++ grid_counts l k q) (model_counts v p) x (sym grid.same ∙ e));
        passed = λ t. absurd (passed_not_refused a x t e);
      }

pub straight_tells : {r : Check} (code : ℕ) (l : Leg) (p : Pillars) → r ≡ first_of (straight_counts code l p) → Tells r (first_of (straight_counts code l p)) (LegCounted l × PillarsCounted p)
straight_tells code l p e =
    record {
      same = e;
      passed = λ t. let counts = passes_of_first (straight_counts code l p) (sym e ∙ t) in (leg-counted l counts.1.0, pillars-counted p counts.1.1.0);
    }

pub yield_tells : {r : Check} (code : ℕ) (l : Leg) → r ≡ first_of (yield_counts code l) → Tells r (first_of (yield_counts code l)) (LegCounted l)
yield_tells code l e = record { same = e; passed = λ t. leg-counted l (passes_of_first (yield_counts code l) (sym e ∙ t)).1.0 }
