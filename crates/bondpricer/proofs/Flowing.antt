-- One flow, told from the day's time, the loop over the cashflows, in which what is left to do from an index on is the whole answer, and settlement's factor. Assumes nothing.
use Rattle.std.specs.Prelude.{Ok, Err}
use Prim.Native.Nat.{ℕ, ◌+◌, ◌≤◌, ◌<◌}
use mathlib.Core.Path.{◌≡◌, refl, sym, ap, ◌∙◌}
use mathlib.Core.Bool.{cond}
use mathlib.Core.List.{List}
use native.Mathlib.Omega.{arith}
use native.Mathlib.Numerals.{add-one}
use borrow.Author.Tests.{lt-ltb, le-ltb}
use lib.Dec.{ltb}
use lib.ListN.{length, get_or, drop, drop_of_length-le}
use lib.Seq.{drop-cons}
use lib.Ieee.{Float, nan, binary64, add, mul, div, neg, le}
use Rattle.floats.specs.Refusals.{Refusal}
use Rattle.floats.specs.Answers.{Answer, plus_zero, on_outcome, follow, refusal, tested, when_finite}
use Rattle.elementary.specs.Exponential.{exp_at}
use Rattle.floats.proofs.Laws.{valued, refused}
use Rattle.terms.specs.declared.Epoch.{Epoch}
use Rattle.terms.specs.Terms.{Leg}
use Rattle.terms.specs.Times.{time_from}
use Rattle.bondpricer.specs.Straight.{with_flow, flows, discounted_value}
use Rattle.floats.specs.declared.Reason.TheVariants as reason

module _ (curve : Float → ℕ → Answer) (settlement : Epoch) (spread reference : Float) where
  -- What follows the day's factor.
  abbrev after : Float → Float → Float → Float → Answer
  after amount value factor time =
      when_finite (div binary64 factor reference) 0 λ discount.
      when_finite (mul binary64 spread (neg time)) 0 λ x.
      follow (exp_at x 0) λ spreadDiscount.
      when_finite (mul binary64 amount discount) 0 λ y.
      when_finite (mul binary64 y spreadDiscount) 0 λ z. tested (add binary64 value z) 0

  pub at_time : (day : ℕ) (amount value : Float) {s : Answer} {factor time : Float} {r : Answer}
      → time ≡ time_from settlement day
      → s ≡ curve time 0
      → s ≡ Ok factor
      → r ≡ after amount value factor time
      → r ≡ with_flow curve settlement spread reference day amount value
  unfolding with_flow
  at_time day amount value {factor = factor} t e v p = valued _ _ _ (e ∙ ap (λ (z : Float). curve z 0) t) v (p ∙ ap (after amount value factor) t)

  -- No factor at the day's time.
  pub no_factor : (day : ℕ) (amount value : Float) {s r : Answer} {time : Float} {q : Refusal}
      → time ≡ time_from settlement day
      → s ≡ curve time 0
      → s ≡ Err q
      → r ≡ Err q
      → r ≡ with_flow curve settlement spread reference day amount value
  unfolding with_flow
  no_factor day amount value t e v p = refused _ _ _ (e ∙ ap (λ (z : Float). curve z 0) t) v p

  module _ (days : List ℕ) (amounts : List Float) where
    pub record Going (i : ℕ) (value : Float) : Type 0 where
      pub within : i ≤ length days
      pub rest :
          flows curve settlement spread reference (drop i days) (drop i amounts) value
          ≡ flows curve settlement spread reference days amounts plus_zero

    pub start : Going 0 plus_zero
    start = record { within = omega arith; rest = refl }

    module _ (i : ℕ) (value : Float) (same : length amounts ≡ length days) (g : Going i value) where
      -- One flow, and the rest.
      turn : i < length days
          → flows curve settlement spread reference (drop i days) (drop i amounts) value
          ≡ follow
          (cond (ltb settlement.day (get_or days i 0)) (with_flow curve settlement spread reference (get_or days i 0) (get_or amounts i nan) value) (Ok value))
          (λ v. flows curve settlement spread reference (drop (i + 1) days) (drop (i + 1) amounts) v)
      unfolding flows
      turn h =
          let a : i < length amounts = omega arith in
          rw (add-one i, drop-cons days i 0 h, drop-cons amounts i nan a)

      -- The same where the flow's own outcome is known.
      follows : {s : Answer}
          → i < length days
          → settlement.day < get_or days i 0
          → s ≡ with_flow curve settlement spread reference (get_or days i 0) (get_or amounts i nan) value
          → follow s (λ v. flows curve settlement spread reference (drop (i + 1) days) (drop (i + 1) amounts) v)
          ≡ flows curve settlement spread reference days amounts plus_zero
      follows h u e = sym (rw (lt-ltb settlement.day (get_or days i 0) u, ← e) at (turn h)) ∙ g.rest

      pub paid : {s : Answer} (v : Float)
          → i < length days
          → settlement.day < get_or days i 0
          → s ≡ with_flow curve settlement spread reference (get_or days i 0) (get_or amounts i nan) value
          → s ≡ Ok v
          → Going (i + 1) v
      unfolding on_outcome
      paid v h u e w = record { within = omega arith; rest = rw w at (follows h u e) }

      pub unpaid : i < length days → get_or days i 0 ≤ settlement.day → Going (i + 1) value
      unfolding on_outcome
      unpaid h u = record { within = omega arith; rest = sym (rw (le-ltb settlement.day (get_or days i 0) u) at (turn h)) ∙ g.rest }

      pub stopped : {s r : Answer} {q : Refusal}
          → i < length days
          → settlement.day < get_or days i 0
          → s ≡ with_flow curve settlement spread reference (get_or days i 0) (get_or amounts i nan) value
          → s ≡ Err q
          → r ≡ Err q
          → r ≡ flows curve settlement spread reference days amounts plus_zero
      unfolding on_outcome
      stopped h u e w p = p ∙ (rw w at (follows h u e))

      pub done : length days ≤ i → Ok value ≡ flows curve settlement spread reference days amounts plus_zero
      unfolding flows
      done h = rw (drop_of_length-le days h) at g.rest

-- ---- settlement's factor, told from its time

module _ (curve : Float → ℕ → Answer) (settlement : Epoch) (leg : Leg) (spread : Float) {s : Answer} {time : Float} where
  pub at_settlement : {reference : Float} {r : Answer}
      → time ≡ time_from settlement settlement.day
      → s ≡ curve time 0
      → s ≡ Ok reference
      → r ≡ cond (le reference plus_zero) (refusal reason.Factor 0) (flows curve settlement spread reference leg.days leg.amounts plus_zero)
      → r ≡ discounted_value curve settlement leg spread
  unfolding discounted_value
  at_settlement t e v p = valued _ _ _ (e ∙ ap (λ (z : Float). curve z 0) t) v p

  pub no_reference : {r : Answer} {q : Refusal}
      → time ≡ time_from settlement settlement.day
      → s ≡ curve time 0
      → s ≡ Err q
      → r ≡ Err q
      → r ≡ discounted_value curve settlement leg spread
  unfolding discounted_value
  no_reference t e v p = refused _ _ _ (e ∙ ap (λ (z : Float). curve z 0) t) v p
