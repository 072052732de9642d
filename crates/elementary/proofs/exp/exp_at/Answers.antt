-- `exp::exp_at` meets its contract: one test of the end result stands for the tests of every operation. Assumes nothing.
use Rattle.std.specs.Prelude.{◌≡◌, cond, ℕ, Float, Ok, T}
use Rattle.std.specs.Float.Ieee.{neg, lt}
use Rattle.std.specs.Float.Ieee.Scale.{finite}
use Rattle.std.proofs.Common.{rules, sym, subst, ◌∙◌}
use Rattle.floats.specs.declared.Reason.TheVariants as reason
use Rattle.floats.specs.Answers.{Answer, refusal, plus_zero, tested, when_finite}
use Rattle.floats.specs.laws.Propagation.{passed_test, passed_on, stopped}
use Rattle.elementary.specs.Exponential.{seven_hundred, exp_reduced, exp_at}
use Rattle.elementary.specs.laws.Exponential.{exp_is}
use Rattle.elementary.specs.laws.Steps.{reducible}
use Rattle.floats.proofs.Laws.{left, taken}
use Rattle.elementary.proofs.exp.exp_at.Goals as goal

-- The answer for a finite number, and the definition.
abbrev of_finite : Float → ℕ → Answer
of_finite x place = cond (lt seven_hundred x) (refusal reason.Outside place) (cond (lt x (neg seven_hundred)) (Ok plus_zero) (exp_reduced x place))

is_when : (x : Float) (place : ℕ) {a : Answer} → a ≡ when_finite x place (λ x. of_finite x place) → a ≡ exp_at x place
unfolding exp_at
is_when x place h = h

of_passed : (x : Float) (place : ℕ) {z : Float} {a : Answer} → tested x place ≡ Ok z → (T (finite z) → a ≡ of_finite z place) → a ≡ exp_at x place
of_passed x place t h = is_when x place (passed_on (λ x. of_finite x place) x place t h)

pub returns-in_err-x : goal.returns-in_err-x
returns-in_err-x c = is_when c.args.x c.args.place (stopped (λ x. of_finite x c.args.place) c.args.x c.args.place (sym c.tested.ensures ∙ c.in_err-x.was) (search rules))

pub returns-then-x : goal.returns-then-x
returns-then-x c = of_passed c.args.x c.args.place (sym c.tested.ensures ∙ c.in_ok-x.was) (λ f. search (left, taken, rules))

pub returns-then-x-2 : goal.returns-then-x-2
returns-then-x-2 c = of_passed c.args.x c.args.place (sym c.tested.ensures ∙ c.in_ok-x.was) (λ f. search (left, taken, rules))

pub reduced-requires : goal.reduced-requires
reduced-requires c =
    let q = passed_test c.args.x c.args.place (sym c.tested.ensures ∙ c.in_ok-x.was) in
    reducible _ (subst (λ (v : Float). T (finite v)) (sym q.0) q.1) c.if-x.false c.if-x-2.false

pub returns : goal.returns
returns c = of_passed c.args.x c.args.place (sym c.tested.ensures ∙ c.in_ok-x.was) (λ f. search (left, taken, exp_is, rules))
