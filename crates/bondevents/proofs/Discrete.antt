-- The steps of one entry by what it is: a discrete call or put changes its own step where that is tried, a window has its principals in the table. Assumes nothing.
use Rattle.std.specs.Prelude.{Ok}
use Prim.Native.Nat.{ℕ, ◌≤◌, ◌<◌}
use native.Mathlib.Omega.{arith}
use borrow.Author.Rules.{rules}
use borrow.Author.Tests.{eq-eqb, ne_eqb, lt-ltb, le-ltb}
use mathlib.Core.Path.{◌≡◌, refl, sym, ap, ◌∙◌}
use mathlib.Core.Bool.{Bool, true, cond}
use mathlib.Core.List.{List}
use lib.ListN.{length, get_or, set}
use lib.Dec.{eqb, ltb}
use lib.Ieee.{Float, nan}
use Rattle.floats.specs.Answers.{Answer, plus_zero, Outcome, follow, on_outcome}
use Rattle.terms.specs.Terms.{Bond}
use Rattle.bondevents.specs.declared.Side.{Side}
use Rattle.bondevents.specs.declared.Exercise.{Exercise}
use Rattle.bondevents.specs.Steps.{Axis, time_of, call_step_of}
use Rattle.bondevents.specs.Calls.{none, keep, eligible, principal, call_price, redemptions, over_steps, with_entry}
use Rattle.bondevents.specs.Parts.{entry_of, priced, in_window, Principals, over_prices}
use Rattle.bondevents.proofs.Single.{by_prices, agree, nowhere, single}

module _ (side : Side) (a : Axis) (bond : Bond) (strike : Float) (some : 1 ≤ a.steps) (row : List Exercise) where
  -- ---- a discrete call
  module _ (date : ℕ) where
    itself : eqb date date ≡ true
    itself = eq-eqb date date refl

    -- The principal of a discrete call, at every step.
    abbrev after : Float
    after = redemptions (λ day. ltb date day) bond.leg.days bond.leg.kinds bond.leg.amounts plus_zero

    price_is : (s : ℕ) → call_price a bond (entry_of date date strike) s ≡ priced strike after bond.units
    unfolding call_price principal
    price_is s = rw itself refl

    -- The step k alone is eligible.
    only : (k : ℕ) → ((s : ℕ) → eligible a (entry_of date date strike) s ≡ eqb s k) → length row ≡ 513 → k < a.steps → a.steps ≤ 512 → over_steps side a bond (entry_of date date strike) a.steps 0 row ≡ follow (priced strike after bond.units) λ x. Ok (set row k (keep side (get_or row k none) x))
    only k e n h few =
        by_prices side a bond (entry_of date date strike) a.steps 0 row
        ∙ single side (eligible a (entry_of date date strike)) (call_price a bond (entry_of date date strike)) k a.steps 0 k row none (omega arith) h (omega arith) (e k ∙ eq-eqb k k refl) (λ s l b w. e s ∙ ne_eqb s k w)
        ∙ ap (λ (z : Answer). follow z λ x. Ok (set row k (keep side (get_or row k none) x))) (price_is k)

    at_settlement : date ≡ a.settlement → (s : ℕ) → eligible a (entry_of date date strike) s ≡ eqb s 0
    unfolding eligible
    at_settlement e s = rw (itself, eq-eqb date a.settlement e) refl

    at_day : (date ≡ a.settlement → ⊥) → (s : ℕ) → eligible a (entry_of date date strike) s ≡ eqb s (call_step_of a date)
    unfolding eligible
    at_day e s = rw (itself, ne_eqb date a.settlement e) refl

    pub on_settlement : {p : Float} {r : Outcome (List Exercise)} → date ≡ a.settlement → p ≡ after → length row ≡ 513 → a.steps ≤ 512 → r ≡ (follow (priced strike p bond.units) λ x. Ok (set row 0 (keep side (get_or row 0 none) x))) → r ≡ over_steps side a bond (entry_of date date strike) a.steps 0 row
    on_settlement {p} {r} e f n few g =
        g
        ∙ ap (λ (z : Float). follow (priced strike z bond.units) λ x. Ok (set row 0 (keep side (get_or row 0 none) x))) f
        ∙ sym (only 0 (at_settlement e) n some few)

    pub on_day_lem : {p : Float} {r : Outcome (List Exercise)} {k : ℕ} → (date ≡ a.settlement → ⊥) → k ≡ call_step_of a date → k < a.steps → p ≡ after → length row ≡ 513 → a.steps ≤ 512 → r ≡ (follow (priced strike p bond.units) λ x. Ok (set row k (keep side (get_or row k none) x))) → r ≡ over_steps side a bond (entry_of date date strike) a.steps 0 row
    on_day_lem {p} {r} {k} e q h f n few g =
        g
        ∙ ap (λ (z : Float). follow (priced strike z bond.units) λ x. Ok (set row k (keep side (get_or row k none) x))) f
        ∙ sym (only k (λ s. at_day e s ∙ ap (eqb s) (sym q)) n h few)

    -- Its step is not tried.
    pub never : {k : ℕ} → (date ≡ a.settlement → ⊥) → k ≡ call_step_of a date → a.steps ≤ k → Ok row ≡ over_steps side a bond (entry_of date date strike) a.steps 0 row
    unfolding on_outcome
    never {k} e q h =
        sym
        (by_prices side a bond (entry_of date date strike) a.steps 0 row
        ∙ nowhere side (eligible a (entry_of date date strike)) (call_price a bond (entry_of date date strike)) a.steps 0 row
        (λ s l b. at_day e s ∙ ne_eqb s (call_step_of a date) (λ w. omega (arith, q))))

  -- ---- any entry
  module _ (start end : ℕ) where
    pub skipped : end < a.settlement → Ok row ≡ with_entry side a bond (entry_of start end strike) row
    unfolding with_entry on_outcome
    skipped h = rw (lt-ltb end a.settlement h) refl

    pub discrete-call : {r : Outcome (List Exercise)} → a.settlement ≤ end → start ≡ end → r ≡ over_steps side a bond (entry_of start start strike) a.steps 0 row → r ≡ with_entry side a bond (entry_of start end strike) row
    unfolding with_entry
    discrete-call {r} h e g =
        g
        ∙ ap (λ (z : ℕ). over_steps side a bond (entry_of start z strike) a.steps 0 row) e
        ∙ sym (ap (λ (z : Bool). cond z (Ok row) (over_steps side a bond (entry_of start end strike) a.steps 0 row)) (le-ltb end a.settlement h))

    same_test : {from to : Float} → (start ≡ end → ⊥) → from ≡ time_of a start → to ≡ time_of a end → (s : ℕ) → eligible a (entry_of start end strike) s ≡ in_window a from to s
    unfolding eligible
    same_test e f g s = rw (ne_eqb start end e, f, g) refl

    same_price : (table : List Float) → (start ≡ end → ⊥) → Principals a bond.leg a.steps table → (s : ℕ) → s < a.steps → call_price a bond (entry_of start end strike) s ≡ priced strike (get_or table s nan) bond.units
    unfolding call_price principal
    same_price table e t s l = rw (ne_eqb start end e, t.at s l) refl

    pub window-call :
        {r : Outcome (List Exercise)} {from to : Float} (table : List Float)
        → a.settlement ≤ end
        → (start ≡ end → ⊥)
        → Principals a bond.leg a.steps table
        → from ≡ time_of a start
        → to ≡ time_of a end
        → r ≡ over_prices side (in_window a from to) (λ s. priced strike (get_or table s nan) bond.units) a.steps 0 row
        → r ≡ with_entry side a bond (entry_of start end strike) row
    unfolding with_entry
    window-call {r} {from} {to} table h e t f g p =
        p
        ∙ (agree side (in_window a from to) (eligible a (entry_of start end strike)) (λ s. priced strike (get_or table s nan) bond.units) (call_price a bond (entry_of start end strike)) a.steps 0 row
        (λ s l b. sym (same_test e f g s)) (λ s l b. sym (same_price table e t s (omega arith)))
        ∙ sym (by_prices side a bond (entry_of start end strike) a.steps 0 row))
        ∙ sym (ap (λ (z : Bool). cond z (Ok row) (over_steps side a bond (entry_of start end strike) a.steps 0 row)) (le-ltb end a.settlement h))

-- The laws of one entry.
pub ruleset entries = (on_settlement, on_day_lem, never, skipped, discrete-call, window-call, rules)
