-- `prices::simple` meets its contract. Assumes nothing.
use Rattle.std.specs.Prelude.{◌≡◌, cond, Float, Ok}
use Rattle.std.proofs.Common.{rules, sym, ◌∙◌}
use Rattle.std.specs.Float.{binary64}
use Rattle.std.specs.Float.Ieee.{mul, div, neg, le}
use Rattle.floats.specs.Answers.{Outcome, one, plus_zero, on_outcome}
use Rattle.floats.specs.declared.Reason.TheVariants as reason
use Rattle.rounded.specs.Fused.{mul_add_at}
use Rattle.interestrate.specs.declared.YieldPrice.{YieldPrice}
use Rattle.interestrate.specs.Prices.{no, finitely, from_answer, simply}
use Rattle.floats.specs.laws.Propagation.{passed_on, stopped}
use Rattle.floats.proofs.Laws.{valued, left_atmost}
use Rattle.interestrate.proofs.prices.simple.Goals as goal

is_simple : (rate time : Float) {a : Outcome YieldPrice}
    → a
    ≡ (from_answer (mul_add_at rate time one 0) λ compound.
    cond (le compound plus_zero) (no reason.YieldBase)
    (finitely (div binary64 one compound) λ discount.
    finitely (mul binary64 compound compound) λ square.
    finitely (div binary64 (neg time) square) λ derivative. Ok (record { price = discount; derivative = derivative })))
    → a ≡ simply rate time
unfolding simply
is_simple rate time h = h

pub returns-in_err-compound : goal.returns-in_err-compound
unfolding on_outcome
returns-in_err-compound c = is_simple _ _ (search rules)

pub returns-then-compound : goal.returns-then-compound
unfolding on_outcome
returns-then-compound c = is_simple _ _ (search rules)

pub returns-in_err-discount : goal.returns-in_err-discount
unfolding on_outcome
returns-in_err-discount c = is_simple _ _ (search rules)

pub returns-in_err-square : goal.returns-in_err-square
unfolding on_outcome
returns-in_err-square c = is_simple _ _ (search rules)

-- The definition from the square on, and from the discount on.
abbrev of_square : Float → Float → Float → Outcome YieldPrice
of_square time discount square = finitely (div binary64 (neg time) square) λ derivative. Ok (record { price = discount; derivative = derivative })

abbrev of_discount : Float → Float → Float → Outcome YieldPrice
of_discount time compound discount = finitely (mul binary64 compound compound) λ square. of_square time discount square

pub returns-in_err-slope : goal.returns-in_err-slope
returns-in_err-slope c =
    is_simple _ _
    (valued _ _ _ c.mul_add_at.ensures c.in_ok-compound.was
    (left_atmost _ _ _ _ c.if-compound.false
    (passed_on (of_discount c.args.time c.in_ok-compound.compound) _ _ (sym c.tested.ensures ∙ c.in_ok-discount.was) λ f.
    passed_on (of_square c.args.time c.in_ok-discount.discount) _ _ (sym c.tested-2.ensures ∙ c.in_ok-square.was) λ g.
    stopped (λ d. Ok (record { price = c.in_ok-discount.discount; derivative = d })) _ _ (sym c.tested-3.ensures ∙ c.in_err-slope.was) (search rules))))

pub returns : goal.returns
unfolding on_outcome
returns c = is_simple _ _ (search rules)
