-- Definitions only. Straight value: discounted_value with the spread. The place is 0.
use Rattle.std.specs.Prelude.{ℕ, cond, List, [], ◌∷◌, ltb, Float, Ok, Err}
use Rattle.std.specs.Float.{binary64}
use Rattle.std.specs.Float.Ieee.{add, mul, div, neg, le}
use Rattle.floats.specs.Answers.{Answer, plus_zero, follow, refusal, tested, when_finite}
use Rattle.elementary.specs.Exponential.{exp_at}
use Rattle.terms.specs.declared.Settlement.{Settlement}
use Rattle.terms.specs.declared.Epoch.{Epoch}
use Rattle.terms.specs.Terms.{Leg, Pillars}
use Rattle.terms.specs.Times.{epoch_of, time_from}
use Rattle.terms.specs.Curve.{factor_of, curve_at, curve_over}
use Rattle.terms.specs.Checks.{on_check}
use Rattle.terms.specs.Entries.{straight_checks}
use Rattle.floats.specs.declared.Reason.TheVariants as reason

-- amount × (the day's factor / settlement's) × exp(spread × −time), added to the value.
unfoldable pub with_flow : (Float → ℕ → Answer) → Epoch → Float → Float → ℕ → Float → Float → Answer
unfolding time_from add mul div neg
with_flow curve settlement spread reference day amount value =
    follow (factor_of curve settlement day 0) λ factor.
    when_finite (div binary64 factor reference) 0 λ discount.
    when_finite (mul binary64 spread (neg (time_from settlement day))) 0 λ x.
    follow (exp_at x 0) λ spreadDiscount.
    when_finite (mul binary64 amount discount) 0 λ y.
    when_finite (mul binary64 y spreadDiscount) 0 λ z. tested (add binary64 value z) 0

-- The paid cashflows in list order.
unfoldable pub flows : (Float → ℕ → Answer) → Epoch → Float → Float → List ℕ → List Float → Float → Answer
unfolding with_flow
flows curve settlement spread reference (day ∷ days) (amount ∷ amounts) value =
    follow (cond (ltb settlement.day day) (with_flow curve settlement spread reference day amount value) (Ok value)) λ value.
    flows curve settlement spread reference days amounts value
flows curve settlement spread reference (day ∷ days) [] value = Ok value
flows curve settlement spread reference [] amounts value = Ok value

-- 25 is tried on settlement's factor only.
unfoldable pub discounted_value : (Float → ℕ → Answer) → Epoch → Leg → Float → Answer
unfolding flows time_from le
discounted_value curve settlement leg spread =
    follow (factor_of curve settlement settlement.day 0) λ reference.
    cond (le reference plus_zero) (refusal reason.Factor 0) (flows curve settlement spread reference leg.days leg.amounts plus_zero)

-- The straight value entry.
unfoldable pub straight_value : Settlement → Leg → Float → Pillars → Answer
unfolding straight_checks discounted_value curve_over time_from
straight_value settlement leg spread pillars =
    on_check (straight_checks settlement leg spread pillars) Err (discounted_value (curve_at settlement pillars) (epoch_of settlement) leg spread)
