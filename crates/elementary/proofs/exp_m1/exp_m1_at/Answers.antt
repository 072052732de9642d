-- `exp_m1::exp_m1_at` meets its contract, part by part. Assumes nothing.
use Rattle.std.specs.Prelude.{◌≡◌, cond, ◌&&◌, ℕ, Float, Ok, Err, T}
use Rattle.std.specs.Float.{binary64}
use Rattle.std.specs.Float.Ieee.{lt, neg, mul, sub}
use Rattle.std.specs.Float.Ieee.Scale.{finite}
use Rattle.std.proofs.Common.{refl, rules, sym, ◌∙◌}
use Rattle.floats.specs.Refusals.{Refusal}
use Rattle.floats.specs.Answers.{Answer, one, follow, tested, when_finite}
use Rattle.floats.specs.laws.Propagation.{passed_on, stopped}
use Rattle.elementary.specs.Exponential.{half, series, exp_at, exp_m1_at}
use Rattle.elementary.specs.laws.Exponential.{near_zero_is, less_one}
use Rattle.floats.proofs.Laws.{answers, flags, left_first, left_second, valued, refused}
use Rattle.elementary.proofs.exp_m1.exp_m1_at.Goals as goal
use Rattle.elementary.proofs.exp_m1.exp_m1_at.Goals.{Joined-else-x, else-x-via-then-x+else-x-2, else-x-via-else-x}

-- The answer for a finite number, and the definition.
abbrev of_finite : Float → ℕ → Answer
of_finite x place =
    cond (lt (neg half) x && lt x half) (follow (series 1 12 x one place) λ p. tested (mul binary64 x p) place) (less_one x place)

is_when : (x : Float) (place : ℕ) {a : Answer} → a ≡ when_finite x place (λ x. of_finite x place) → a ≡ exp_m1_at x place
unfolding exp_m1_at
is_when x place h = h

of_passed : (x : Float) (place : ℕ) {z : Float} {a : Answer} → tested x place ≡ Ok z → (T (finite z) → a ≡ of_finite z place) → a ≡ exp_m1_at x place
of_passed x place t h = is_when x place (passed_on (λ x. of_finite x place) x place t h)

pub returns-in_err-x : goal.returns-in_err-x
returns-in_err-x c = is_when c.args.x c.args.place (stopped (λ x. of_finite x c.args.place) c.args.x c.args.place (sym c.tested.ensures ∙ c.in_err-x.was) (search rules))

pub returns-then-x-2 : goal.returns-then-x-2
returns-then-x-2 c = of_passed c.args.x c.args.place (sym c.tested.ensures ∙ c.in_ok-x.was) (λ f. search (near_zero_is, answers, flags) depth 20 fits 4000)

not_near : (c : Joined-else-x) {a : Answer} → a ≡ less_one c.in_ok-x.x c.args.place → a ≡ of_finite c.in_ok-x.x c.args.place
not_near c e = elim c.else-x.branch [
  | else-x-via-then-x+else-x-2 w ↦ left_second _ _ _ _ w.if-x.true w.if-x-2.false e
  | else-x-via-else-x w ↦ left_first _ _ _ _ w.if-x.false e
]

exp_refused : (x : Float) (place : ℕ) {r : Refusal} {a : Answer} → exp_at x place ≡ Err r → a ≡ Err r → a ≡ less_one x place
exp_refused x place t h = refused (exp_at x place) _ _ refl t h

of_exp : (x : Float) (place : ℕ) {y : Float} {a : Answer} → exp_at x place ≡ Ok y → a ≡ tested (sub binary64 y one) place → a ≡ less_one x place
of_exp x place t h = valued (exp_at x place) _ _ refl t h

pub returns-in_err-exp_at : goal.returns-in_err-exp_at
returns-in_err-exp_at c =
    of_passed c.args.x c.args.place (sym c.tested.ensures ∙ c.in_ok-x.was)
    (λ f. not_near ((goal.at.returns-in_err-exp_at c).Joined-else-x) (exp_refused _ _ (sym c.exp_at.ensures ∙ c.in_err-exp_at.was) (search rules)))

pub returns-in_ok-exp_at : goal.returns-in_ok-exp_at
returns-in_ok-exp_at c =
    of_passed c.args.x c.args.place (sym c.tested.ensures ∙ c.in_ok-x.was)
    (λ f. not_near ((goal.at.returns-in_ok-exp_at c).Joined-else-x) (of_exp _ _ (sym c.exp_at.ensures ∙ c.in_ok-exp_at.was) (search rules)))
