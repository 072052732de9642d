-- Definitions only. A yield's discount and derivative for one time, and the price and derivative of the paid cashflows. The place is 0.
use Rattle.std.specs.Prelude.{ℕ, cond, List, [], ◌∷◌, ltb, Float, Ok, Err}
use Rattle.std.specs.Float.{binary64}
use Rattle.std.specs.Float.Ieee.{add, mul, div, neg, le, lt}
use Rattle.floats.specs.Refusals.{Refusal}
use Rattle.floats.specs.declared.Reason.{Reason}
use Rattle.floats.specs.declared.Reason.TheVariants as reason
use Rattle.floats.specs.Answers.{Answer, Outcome, plus_zero, one, follow, refusal, when_finite}
use Rattle.elementary.specs.Exponential.{exp_at}
use Rattle.elementary.specs.Power.{powf_at}
use Rattle.rounded.specs.Fused.{mul_add_at, mul_add}
use Rattle.terms.specs.declared.Epoch.{Epoch}
use Rattle.terms.specs.Terms.{Leg}
use Rattle.terms.specs.Times.{time_from}
use Rattle.interestrate.specs.declared.Frequency.{Frequency}
use Rattle.interestrate.specs.declared.Compounding.{Compounding}
use Rattle.interestrate.specs.declared.Compounding.TheVariants.{Simple, Compounded, Continuous, SimpleThenCompounded, CompoundedThenSimple}
use Rattle.interestrate.specs.declared.RateDefinition.{RateDefinition}
use Rattle.interestrate.specs.declared.YieldPrice.{YieldPrice}
use Rattle.interestrate.specs.Rates.{frequency_float}

-- What is done with a refusal, and with a price and its derivative.
unfoldable pub on_price {ℓ} : {A : Type ℓ} → Outcome YieldPrice → (Refusal → A) → (Float → Float → A) → A
on_price (Ok v) f g = g v.price v.derivative
on_price (Err r) f g = f r

abbrev pub from_price : Outcome YieldPrice → (Float → Float → Outcome YieldPrice) → Outcome YieldPrice
from_price a k = on_price a Err k

abbrev pub from_answer : Answer → (Float → Outcome YieldPrice) → Outcome YieldPrice
from_answer a k = follow a k

abbrev pub no : Reason → Outcome YieldPrice
no why = refusal why 0

abbrev pub finitely : Float → (Float → Outcome YieldPrice) → Outcome YieldPrice
finitely x k = when_finite x 0 k

-- rate × time + 1 rounded once; 28 where it is ≤ 0; 1/it, and −time/(it × it).
unfoldable pub simply : Float → Float → Outcome YieldPrice
unfolding mul_add mul div neg le
simply rate time =
    from_answer (mul_add_at rate time one 0) λ compound.
    cond (le compound plus_zero) (no reason.YieldBase)
    (finitely (div binary64 one compound) λ discount.
    finitely (mul binary64 compound compound) λ square.
    finitely (div binary64 (neg time) square) λ derivative. Ok (record { price = discount; derivative = derivative }))

-- Base rate/frequency + 1; 28 where it is ≤ 0; base^(−frequency × time), and −time × it/base.
unfoldable pub compoundly : Float → Float → Float → Outcome YieldPrice
unfolding powf_at add mul div neg le
compoundly rate time frequency =
    finitely (div binary64 rate frequency) λ part.
    finitely (add binary64 part one) λ base.
    cond (le base plus_zero) (no reason.YieldBase)
    (finitely (mul binary64 (neg frequency) time) λ power.
    from_answer (powf_at base power 0) λ discount.
    finitely (mul binary64 (neg time) discount) λ x.
    finitely (div binary64 x base) λ derivative. Ok (record { price = discount; derivative = derivative }))

-- exp(−rate × time), and −time × it.
unfoldable pub continuously : Float → Float → Outcome YieldPrice
unfolding mul neg
continuously rate time =
    finitely (mul binary64 (neg rate) time) λ x.
    from_answer (exp_at x 0) λ discount.
    finitely (mul binary64 (neg time) discount) λ derivative. Ok (record { price = discount; derivative = derivative })

-- The time of one period, 1/frequency.
abbrev pub period : Frequency → Float
period f = div binary64 one (frequency_float f)

-- yield_discount_and_derivative
unfoldable pub discount_and_derivative : Float → Float → Compounding → Outcome YieldPrice
unfolding simply compoundly continuously div le lt
discount_and_derivative rate time Simple = simply rate time
discount_and_derivative rate time (Compounded f) = compoundly rate time (frequency_float f)
discount_and_derivative rate time Continuous = continuously rate time
discount_and_derivative rate time (SimpleThenCompounded f) =
    cond (le time (period f)) (simply rate time) (compoundly rate time (frequency_float f))
discount_and_derivative rate time (CompoundedThenSimple f) =
    cond (lt (period f) time) (simply rate time) (compoundly rate time (frequency_float f))

-- One flow: both are worked out, and each joins its sum by mul_add.
unfoldable pub with_flow : Float → Compounding → Epoch → ℕ → Float → Float → Float → Outcome YieldPrice
unfolding discount_and_derivative time_from mul_add
with_flow rate compounding settlement day amount price derivative =
    from_price (discount_and_derivative rate (time_from settlement day) compounding) λ discount slope.
    from_answer (mul_add_at amount discount price 0) λ price.
    from_answer (mul_add_at amount slope derivative 0) λ derivative. Ok (record { price = price; derivative = derivative })

-- Flow by flow, the paid ones in list order.
unfoldable pub flows : Float → Compounding → Epoch → List ℕ → List Float → Float → Float → Outcome YieldPrice
unfolding with_flow
flows rate compounding settlement (day ∷ days) (amount ∷ amounts) price derivative =
    from_price
    (cond (ltb settlement.day day) (with_flow rate compounding settlement day amount price derivative) (Ok (record { price = price; derivative = derivative })))
    λ price derivative. flows rate compounding settlement days amounts price derivative
flows rate compounding settlement (day ∷ days) [] price derivative = Ok (record { price = price; derivative = derivative })
flows rate compounding settlement [] amounts price derivative = Ok (record { price = price; derivative = derivative })

-- yield_price_and_derivative
abbrev pub price_and_derivative : Epoch → Leg → RateDefinition → Float → Outcome YieldPrice
price_and_derivative settlement leg rate y = flows y rate.compounding settlement leg.days leg.amounts plus_zero plus_zero
