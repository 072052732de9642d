-- `prices::compounded` meets its contract. Assumes nothing.
use Rattle.std.specs.Prelude.{◌≡◌, cond, Float, Ok}
use Rattle.std.proofs.Common.{rules}
use Rattle.std.specs.Float.{binary64}
use Rattle.std.specs.Float.Ieee.{add, mul, div, neg, le}
use Rattle.floats.specs.Answers.{Outcome, one, plus_zero, on_outcome}
use Rattle.floats.specs.declared.Reason.TheVariants as reason
use Rattle.elementary.specs.Power.{powf_at}
use Rattle.interestrate.specs.declared.YieldPrice.{YieldPrice}
use Rattle.interestrate.specs.Prices.{no, finitely, from_answer, compoundly}
use Rattle.interestrate.proofs.prices.compounded.Goals as goal

is_compounded : (rate time frequency : Float) {a : Outcome YieldPrice}
    → a
    ≡ (finitely (div binary64 rate frequency) λ part.
    finitely (add binary64 part one) λ base.
    cond (le base plus_zero) (no reason.YieldBase)
    (finitely (mul binary64 (neg frequency) time) λ power.
    from_answer (powf_at base power 0) λ discount.
    finitely (mul binary64 (neg time) discount) λ x.
    finitely (div binary64 x base) λ derivative. Ok (record { price = discount; derivative = derivative })))
    → a ≡ compoundly rate time frequency
unfolding compoundly
is_compounded rate time frequency h = h

pub returns-in_err-part : goal.returns-in_err-part
unfolding on_outcome
returns-in_err-part c = is_compounded _ _ _ (search rules)

pub returns-in_err-base : goal.returns-in_err-base
unfolding on_outcome
returns-in_err-base c = is_compounded _ _ _ (search rules)

pub returns-then-base : goal.returns-then-base
unfolding on_outcome
returns-then-base c = is_compounded _ _ _ (search rules)

pub returns-in_err-power : goal.returns-in_err-power
unfolding on_outcome
returns-in_err-power c = is_compounded _ _ _ (search rules)

pub returns-in_err-discount : goal.returns-in_err-discount
unfolding on_outcome
returns-in_err-discount c = is_compounded _ _ _ (search rules)

pub returns-in_err-x : goal.returns-in_err-x
unfolding on_outcome
returns-in_err-x c = is_compounded _ _ _ (search rules)

pub returns-in_err-derivative : goal.returns-in_err-derivative
unfolding on_outcome
returns-in_err-derivative c = is_compounded _ _ _ (search rules)

pub returns : goal.returns
unfolding on_outcome
returns c = is_compounded _ _ _ (search rules)
