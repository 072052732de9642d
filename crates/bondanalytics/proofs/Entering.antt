-- The two yield entries in the shape that `search` wants: the checks, the rate definition, and what is then done with it. Assumes nothing.
use Rattle.std.specs.Prelude.{Ok, Err}
use Prim.Native.Nat.{ℕ}
use mathlib.Core.Path.{◌≡◌, sym, ap, ◌∙◌}
use lib.Ieee.{Float}
use lib.ListN.{length}
use Rattle.floats.specs.Refusals.{Refusal}
use Rattle.floats.specs.Answers.{plus_zero, Check, Outcome, on_outcome}
use Rattle.terms.specs.Numbers.{million, target_limit}
use Rattle.terms.specs.declared.Settlement.{Settlement}
use Rattle.terms.specs.declared.Epoch.{Epoch}
use Rattle.terms.specs.Terms.{Leg}
use Rattle.terms.specs.Times.{epoch_of}
use Rattle.terms.specs.Checks.{on_check}
use Rattle.terms.specs.Entries.{yield_checks, price_checks, target_checks}
use Rattle.terms.specs.laws.TermChecks.{leg-counted}
use Rattle.terms.specs.laws.YieldChecks.{yield-terms}
use Rattle.interestrate.specs.declared.RateDefinition.{RateDefinition}
use Rattle.interestrate.specs.declared.YieldPrice.{YieldPrice}
use Rattle.brackets.specs.declared.Root.{Root}
use Rattle.interestrate.specs.Rates.{rate_of, rate_check}
use Rattle.interestrate.specs.Prices.{flows, price_and_derivative}
use Rattle.bondanalytics.specs.Yields.{price_from_yield, solve_yield, yield_from_price}
use Rattle.brackets.specs.Brackets.{Searched, no_root}
use Rattle.interestrate.specs.laws.Found.{found_check, found_check_lem}

module _ (limit x : Float) (settlement : Settlement) (leg : Leg) (compounding code : ℕ) (f : Outcome RateDefinition) {w s : Check} (e : f ≡ rate_of compounding code) (k : w ≡ found_check f) (h : s ≡ yield_checks limit settlement leg x w) where
  checked : s ≡ yield_checks limit settlement leg x (rate_check compounding code)
  checked = h ∙ ap (yield_checks limit settlement leg x) (k ∙ found_check_lem compounding code f e)

  -- Checks that passed give as many amounts as days.
  pub same_count : s ≡ Ok tt → length leg.amounts ≡ length leg.days
  same_count p = (leg-counted leg (yield-terms limit settlement leg x w (sym h ∙ p)).0.counted).amounts_too

  module _ {A : Type 0} (refuse : Refusal → A) (go : RateDefinition → A) where
    abbrev entered : A
    entered = on_check (yield_checks limit settlement leg x (rate_check compounding code)) refuse (on_outcome (rate_of compounding code) refuse go)

    refused : {q : Refusal} → s ≡ Err q → refuse q ≡ entered
    unfolding on_check
    refused v = ap (λ (z : Check). on_check z refuse (on_outcome (rate_of compounding code) refuse go)) (sym v ∙ checked)

    passed : s ≡ Ok tt → on_outcome f refuse go ≡ entered
    unfolding on_check
    passed v =
        ap (λ (z : Outcome RateDefinition). on_outcome z refuse go) e
        ∙ ap (λ (z : Check). on_check z refuse (on_outcome (rate_of compounding code) refuse go)) (sym v ∙ checked)

    given : {d : RateDefinition} → s ≡ Ok tt → f ≡ Ok d → go d ≡ entered
    unfolding on_outcome
    given v g = rw g at (passed v)

    unknown : {q : Refusal} → s ≡ Ok tt → f ≡ Err q → refuse q ≡ entered
    unfolding on_outcome
    unknown v g = rw g at (passed v)

module _ (settlement : Settlement) (leg : Leg) (compounding code : ℕ) (x : Float) (f : Outcome RateDefinition) {w s : Check} (e : f ≡ rate_of compounding code) (k : w ≡ found_check f) where
  module _ (h : s ≡ price_checks settlement leg x w) where
    pub price-refused : {q : Refusal} {r : Outcome YieldPrice} → s ≡ Err q → r ≡ Err q → r ≡ price_from_yield settlement leg compounding code x
    unfolding price_from_yield
    price-refused v p = p ∙ refused million x settlement leg compounding code f e k h Err (λ rate. price_and_derivative (epoch_of settlement) leg rate x) v

    pub price-unknown : {q : Refusal} {r : Outcome YieldPrice} → s ≡ Ok tt → f ≡ Err q → r ≡ Err q → r ≡ price_from_yield settlement leg compounding code x
    unfolding price_from_yield
    price-unknown v g p = p ∙ unknown million x settlement leg compounding code f e k h Err (λ rate. price_and_derivative (epoch_of settlement) leg rate x) v g

    pub price-given : {d : RateDefinition} {r : Outcome YieldPrice} {t : Epoch} → t ≡ epoch_of settlement → s ≡ Ok tt → f ≡ Ok d → r ≡ flows x d.compounding t leg.days leg.amounts plus_zero plus_zero → r ≡ price_from_yield settlement leg compounding code x
    unfolding price_from_yield
    price-given {d = d} t v g p = p ∙ ap (λ (z : Epoch). flows x d.compounding z leg.days leg.amounts plus_zero plus_zero) t ∙ given million x settlement leg compounding code f e k h Err (λ rate. price_and_derivative (epoch_of settlement) leg rate x) v g

  module _ (h : s ≡ target_checks settlement leg x w) where
    pub yield-refused : {q : Refusal} {r : Searched Root} → s ≡ Err q → r ≡ no_root q 0 → r ≡ yield_from_price settlement leg compounding code x
    unfolding yield_from_price
    yield-refused v p = p ∙ refused target_limit x settlement leg compounding code f e k h (λ r. no_root r 0) (λ rate. solve_yield (epoch_of settlement) leg rate x) v

    pub yield-unknown : {q : Refusal} {r : Searched Root} → s ≡ Ok tt → f ≡ Err q → r ≡ no_root q 0 → r ≡ yield_from_price settlement leg compounding code x
    unfolding yield_from_price
    yield-unknown v g p = p ∙ unknown target_limit x settlement leg compounding code f e k h (λ r. no_root r 0) (λ rate. solve_yield (epoch_of settlement) leg rate x) v g

    pub yield-given : {d : RateDefinition} {r : Searched Root} {t : Epoch} → t ≡ epoch_of settlement → s ≡ Ok tt → f ≡ Ok d → r ≡ solve_yield t leg d x → r ≡ yield_from_price settlement leg compounding code x
    unfolding yield_from_price
    yield-given {d = d} t v g p = p ∙ ap (λ (z : Epoch). solve_yield z leg d x) t ∙ given target_limit x settlement leg compounding code f e k h (λ r. no_root r 0) (λ rate. solve_yield (epoch_of settlement) leg rate x) v g
