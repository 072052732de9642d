-- Laws in the shape that `search` wants, and the set `checks` of them: what the code's tests say of a test that is made of others, and of checks that follow one another. Assumes nothing.
use Rattle.std.specs.Prelude.{Ok, Err}
use Prim.Native.Nat.{ℕ, zero, suc, ◌<◌}
use native.Mathlib.Omega.{arith}
use mathlib.Core.Path.{◌≡◌, refl, sym, ap, ◌∙◌}
use mathlib.Core.Bool.{Bool, true, false, not, ◌&&◌, ◌||◌}
use mathlib.Core.List.{List, [], ◌∷◌, ◌++◌}
use lib.ListN.{length, get_or}
use lib.Dec.{ltb, leb-suc-zero}
use borrow.Author.Rules.{rules}
use borrow.Author.Tests.{lt-ltb, le-ltb, le-leb, lt-leb, eq-eqb, ne_eqb}
use Rattle.floats.specs.declared.Reason.{Reason}
use Rattle.floats.specs.Refusals.{Refusal}
use Rattle.terms.specs.declared.Settlement.{Settlement}
use Rattle.floats.specs.Answers.{Check}
use Rattle.terms.specs.Checks.{on_check, first_of, single, outside, any_paid}
use lib.Ieee.{Float}
use Rattle.terms.specs.Terms.{Leg, CallSchedule, Pillars, Bond, TimeGrid, Market}
use Rattle.terms.specs.Entries.{setting_checks, grid_counts, most_checks, grid_days, grid_numbers, grid_orders, grid_checks, tree_counts, tree_days, tree_numbers, tree_orders, late_checks, market_checks, straight_counts, straight_days, straight_numbers, straight_orders, straight_checks, yield_counts, yield_days, yield_numbers, yield_checks}
use Rattle.terms.specs.laws.Sequence.{passes_of_first, first_after}
use Rattle.terms.specs.laws.Stages.{first_stopped, grid_in_stages, market_in_stages, straight_in_stages, yield_in_stages}
use Rattle.floats.proofs.Laws.{taken, left}

-- ---- a test made of two

pub or_yes : (a b : Bool) {r : Bool} → a ≡ true → r ≡ true → r ≡ (a || b)
or_yes a b t p = p ∙ sym (ap (λ (z : Bool). z || b) t)

pub or_no : (a b : Bool) {r : Bool} → a ≡ false → r ≡ b → r ≡ (a || b)
or_no a b t p = p ∙ sym (ap (λ (z : Bool). z || b) t)

pub and_yes : (a b : Bool) {r : Bool} → a ≡ true → r ≡ b → r ≡ (a && b)
and_yes a b t p = p ∙ sym (ap (λ (z : Bool). z && b) t)

pub and_no : (a b : Bool) {r : Bool} → a ≡ false → r ≡ false → r ≡ (a && b)
and_no a b t p = p ∙ sym (ap (λ (z : Bool). z && b) t)

pub not_yes : (a : Bool) {r : Bool} → a ≡ true → r ≡ false → r ≡ not a
not_yes a t p = p ∙ sym (ap not t)

pub not_no : (a : Bool) {r : Bool} → a ≡ false → r ≡ true → r ≡ not a
not_no a t p = p ∙ sym (ap not t)

pub both_yes : (a b : Bool) → a ≡ true → b ≡ true → (a && b) ≡ true
both_yes a b t u = ap (λ (z : Bool). z && b) t ∙ u

pub first_no : (a b : Bool) → a ≡ false → (a && b) ≡ false
first_no a b t = ap (λ (z : Bool). z && b) t

pub second_no : (a b : Bool) → a ≡ true → b ≡ false → (a && b) ≡ false
second_no a b t u = ap (λ (z : Bool). z && b) t ∙ u

-- No count is below 0.
pub from_zero : (high n : ℕ) (rest : Bool) {f : Bool} → f ≡ (outside 0 high n || rest) → f ≡ (ltb high n || rest)
from_zero high n rest e = e ∙ ap (λ (z : Bool). (z || ltb high n) || rest) (leb-suc-zero n)

-- ---- a test that a call made

pub called_yes : {f : Bool} (b : Bool) → f ≡ b → f ≡ true → b ≡ true
called_yes b e t = sym e ∙ t

pub called_no : {f : Bool} (b : Bool) → f ≡ b → f ≡ false → b ≡ false
called_no b e t = sym e ∙ t

-- ---- a cause that has one place

pub refused_one : (why : Reason) (place : ℕ) (b : Bool) {r : Check} → b ≡ true → r ≡ Err (record { reason = why; place = place }) → r ≡ single why place b
refused_one why place b t p = p ∙ sym (ap (single why place) t)

pub passed_one : (why : Reason) (place : ℕ) (b : Bool) {r : Check} → b ≡ false → r ≡ Ok tt → r ≡ single why place b
passed_one why place b t p = p ∙ sym (ap (single why place) t)

pub tested_one : (why : Reason) (place : ℕ) {f : Bool} (b : Bool) {s : Check} → s ≡ single why place f → f ≡ b → s ≡ single why place b
tested_one why place b e t = e ∙ ap (single why place) t

-- ---- checks one after the other

pub passed_first : {s r : Check} (a : Check) (cs : List Check) → s ≡ a → s ≡ Ok tt → r ≡ first_of cs → r ≡ first_of (a ∷ cs)
unfolding first_of on_check
passed_first a cs e t p = p ∙ ap (λ (z : Check). on_check z Err (first_of cs)) (sym t ∙ e)

pub refused_first : {s r : Check} (a : Check) (cs : List Check) {q : Refusal} → s ≡ a → s ≡ Err q → r ≡ s → r ≡ first_of (a ∷ cs)
unfolding first_of on_check
refused_first a cs e t p = p ∙ t ∙ ap (λ (z : Check). on_check z Err (first_of cs)) (sym t ∙ e)

pub only_one : {r : Check} (a : Check) → r ≡ a → r ≡ first_of (a ∷ [])
unfolding first_of on_check
only_one a e = e ∙ alone a
  where
    alone : (z : Check) → z ≡ first_of (z ∷ [])
    alone (Ok tt) = refl
    alone (Err q) = refl

-- A group of checks, then others.
pub passed_group : {s r : Check} (xs ys : List Check) → s ≡ first_of xs → s ≡ Ok tt → r ≡ first_of ys → r ≡ first_of (xs ++ ys)
passed_group xs ys e t p = p ∙ sym (first_after xs ys (passes_of_first xs (sym e ∙ t)))

pub refused_group : {s r : Check} (xs ys : List Check) {q : Refusal} → s ≡ first_of xs → s ≡ Err q → r ≡ s → r ≡ first_of (xs ++ ys)
refused_group xs ys {q} e t p = p ∙ t ∙ sym (first_stopped xs ys q (sym e ∙ t))

-- ---- an element of a list, whatever stands for one past its end

pub same_at : {A : Type 0} (xs : List A) (i : ℕ) (d e : A) → i < length xs → get_or xs i d ≡ get_or xs i e
same_at [] i d e h = absurd (omega arith)
same_at (x ∷ xs) zero d e h = refl
same_at (x ∷ xs) (suc i) d e h = same_at xs i d e (omega arith)

-- A test of the code: made of others, a comparison of two numbers, or the answer of a call.
pub ruleset tests = (or_yes, or_no, and_yes, and_no, not_yes, not_no, called_yes, called_no, both_yes, first_no, second_no, taken, left, lt-ltb, le-ltb, le-leb, lt-leb, eq-eqb, ne_eqb, refused_one, passed_one, tested_one, rules)

-- Checks that follow one another.
pub ruleset sequence = (passed_first, refused_first, only_one, rules)

-- ---- an entry's checks by their stages

pub as_grid_lem : {r : Check} (s : Settlement) (b : Bond) (k : CallSchedule) (g : TimeGrid) → r ≡ first_of (first_of (setting_checks g s.code ++ grid_counts b.leg k b.puts) ∷ first_of (most_checks b.puts) ∷ first_of (grid_days s.day b.leg k b.puts) ∷ first_of (grid_numbers b.units b.leg k b.puts) ∷ first_of (grid_orders s b.leg k b.puts) ∷ []) → r ≡ grid_checks s b k g
as_grid_lem s b k g p = p ∙ sym (grid_in_stages s b k g)

pub as_market : {r : Check} (limit : Float) (m : Market) (k : CallSchedule) → r ≡ first_of (first_of (setting_checks m.controls m.settlement.code ++ tree_counts m.bond.leg k m.bond.puts m.model.sigma m.pillars) ∷ first_of (most_checks m.bond.puts) ∷ first_of (tree_days m.settlement.day m.bond.leg k m.bond.puts m.pillars) ∷ first_of (tree_numbers limit m.bond.units m.model.alpha m.spread m.bond.leg k m.bond.puts m.model.sigma m.pillars) ∷ first_of (tree_orders m.settlement.day m.bond.leg k m.bond.puts m.model.sigma) ∷ first_of (late_checks m.settlement m.bond.leg m.pillars) ∷ []) → r ≡ market_checks limit m k
as_market limit m k p = p ∙ sym (market_in_stages limit m k)

pub as_straight : {r : Check} (s : Settlement) (l : Leg) (spread : Float) (q : Pillars) → r ≡ first_of (first_of (straight_counts s.code l q) ∷ first_of (straight_days s.day l q) ∷ first_of (straight_numbers spread l q) ∷ first_of (straight_orders s l q) ∷ []) → r ≡ straight_checks s l spread q
as_straight s l spread q p = p ∙ sym (straight_in_stages s l spread q)

pub as_yield : {r : Check} (limit : Float) (s : Settlement) (l : Leg) (x : Float) (rate : Check) → r ≡ first_of (first_of (yield_counts s.code l) ∷ first_of (yield_days s.day l) ∷ first_of (yield_numbers limit x l) ∷ any_paid s.day l ∷ rate ∷ []) → r ≡ yield_checks limit s l x rate
as_yield limit s l x rate p = p ∙ sym (yield_in_stages limit s l x rate)
