-- `ln::ln_at` meets its contract: one test of the end result stands for the tests of every operation. Assumes nothing.
use Rattle.std.specs.Prelude.{◌≡◌, cond, ℕ, Float, Ok, T}
use Rattle.std.specs.Float.Ieee.{lt}
use Rattle.std.specs.Float.Ieee.Scale.{finite}
use Rattle.std.proofs.Common.{rules, sym, subst, ◌∙◌}
use Rattle.floats.specs.declared.Reason.TheVariants as reason
use Rattle.floats.specs.Answers.{Answer, refusal, tested, when_finite}
use Rattle.floats.specs.laws.Propagation.{passed_test, passed_on, stopped}
use Rattle.elementary.specs.Logarithm.{smallest_normal, fraction, exponent, ln_of, ln_at}
use Rattle.elementary.specs.laws.Logarithm.{ln_is}
use Rattle.elementary.specs.laws.Normal.{loggable}
use Rattle.floats.proofs.Laws.{left, taken, answers}
use Rattle.elementary.proofs.ln.ln_at.Goals as goal

-- The answer for a finite number, and the definition.
abbrev of_finite : Float → ℕ → Answer
of_finite x place = cond (lt x smallest_normal) (refusal reason.Outside place) (ln_of (fraction x) (exponent x) place)

is_when : (x : Float) (place : ℕ) {a : Answer} → a ≡ when_finite x place (λ x. of_finite x place) → a ≡ ln_at x place
unfolding ln_at
is_when x place h = h

of_passed : (x : Float) (place : ℕ) {z : Float} {a : Answer} → tested x place ≡ Ok z → (T (finite z) → a ≡ of_finite z place) → a ≡ ln_at x place
of_passed x place t h = is_when x place (passed_on (λ x. of_finite x place) x place t h)

pub returns-in_err-x : goal.returns-in_err-x
returns-in_err-x c = is_when c.args.x c.args.place (stopped (λ x. of_finite x c.args.place) c.args.x c.args.place (sym c.tested.ensures ∙ c.in_err-x.was) (search rules))

pub returns-then-x : goal.returns-then-x
returns-then-x c = of_passed c.args.x c.args.place (sym c.tested.ensures ∙ c.in_ok-x.was) (λ f. search (left, taken, rules))

pub straight-requires : goal.straight-requires
straight-requires c =
    let q = passed_test c.args.x c.args.place (sym c.tested.ensures ∙ c.in_ok-x.was) in
    loggable _ (subst (λ (v : Float). T (finite v)) (sym q.0) q.1) c.if-x.false

pub returns : goal.returns
returns c = of_passed c.args.x c.args.place (sym c.tested.ensures ∙ c.in_ok-x.was) (λ f. search (left, taken, ln_is, loggable, answers) depth 20 fits 4000)
