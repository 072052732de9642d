-- What exp, exp_m1, ln and powf promise of a value that they answer: it is finite, and that of exp and powf is not below 0. Assumes nothing.
use Rattle.std.specs.Prelude.{ℕ, ◌≡◌, refl, Bool, true, false, cond, ◌&&◌, T, ℤ, pos, Float, Ok, Err}
use Rattle.std.proofs.Common.{sym, ◌∙◌, subst, true≢false, arith}
use Rattle.std.specs.Float.{nan, inf, fin, binary64}
use Rattle.std.specs.Float.Ieee.{of_bits, of_int, to_signed, sub, mul, div, neg, lt, le}
use Rattle.std.specs.Float.Ieee.Scale.{finite}
use Rattle.floats.specs.declared.Reason.{Reason}
use Rattle.floats.specs.Answers.{Answer, refusal, on_outcome, follow, not_finite, tested, plus_zero, one}
use Rattle.elementary.specs.Exponential.{half, seven_hundred, series, power_of_two, exp_reduced, exp_at, exp_m1_at}
use Rattle.elementary.specs.Logarithm.{smallest_normal, fraction, exponent, ratio, log_series, log_sum, ln_of, ln_at}
use Rattle.elementary.specs.Power.{powf_at}
use Rattle.floats.specs.laws.Fractions.{le_of_leq}
use Rattle.floats.specs.laws.Signs.{mul-above}
use Rattle.floats.specs.laws.Propagation.{finite-back, finite-clash, mul_left}
use Rattle.elementary.specs.laws.Exponential.{plain_series, plain_remainder, plain_exp, steps, argument_spoils, exp-straight}
use Rattle.elementary.specs.laws.Intervals.{minus_two, series-above}
use Rattle.elementary.specs.laws.Steps.{reducible}
use Rattle.elementary.specs.laws.Logarithm.{plain_log_sum, log_sum-tested}
use Rattle.elementary.specs.laws.Reduction.{remainder-low}
use Rattle.floats.specs.declared.Reason.TheVariants as reason

-- ---- a value that came through

no_refusal : (why : Reason) (p : ℕ) (y : Float) → refusal why p ≡ Ok y → ⊥
no_refusal why p y e = let z : ◌≡◌ {A = ℕ} 0 1 = cc in omega arith

-- a test that would have refused failed
pub passed : (b : Bool) (why : Reason) (p : ℕ) (a : Answer) (y : Float) → cond b (refusal why p) a ≡ Ok y → (b ≡ false) × (a ≡ Ok y)
passed true why p a y e = absurd (no_refusal why p y e)
passed false why p a y e = (refl, e)

pub finite-passed : (x : Float) → not_finite x ≡ false → T (finite x)
finite-passed nan e = absurd (true≢false e)
finite-passed (inf s) e = absurd (true≢false e)
finite-passed (fin s m x) e = tt

pub value_of_lem : (z : Float) (place : ℕ) (y : Float) → tested z place ≡ Ok y → T (finite z) × (z ≡ y)
value_of_lem z place y e = let k = passed (not_finite z) reason.NotFinite place (Ok z) y e in (finite-passed z k.0, cc)

tested-finite : (z : Float) (place : ℕ) (y : Float) → tested z place ≡ Ok y → T (finite y)
tested-finite z place y e = let v = value_of_lem z place y e in subst (λ (w : Float). T (finite w)) v.1 v.0

-- what came through a test or another answer is what came after it
after_test : (x : Float) (place : ℕ) (a : Answer) (y : Float) (P : Type 0) → (a ≡ Ok y → P) → cond (not_finite x) (refusal reason.NotFinite place) a ≡ Ok y → P
after_test x place a y P h e = h (passed (not_finite x) reason.NotFinite place a y e).1

after-answer : (a : Answer) (k : Float → Answer) (y : Float) (P : Type 0) → ((x : Float) → a ≡ Ok x → k x ≡ Ok y → P) → follow a k ≡ Ok y → P
unfolding on_outcome
after-answer (Ok x) k y P h e = h x refl e
after-answer (Err r) k y P h e = absurd (no_refusal r.reason r.place y e)

-- ---- exp

power-above : (z : ℤ) → T (le plus_zero (fin false 1 z))
unfolding of_bits
power-above z = le_of_leq plus_zero (fin false 1 z) tt tt (record { holds = omega arith })

above_of_plain : (x : Float) (r k : Float) → T (le minus_two r) → T (finite (mul binary64 (plain_series 0 13 r one) (power_of_two k))) → T (le plus_zero (mul binary64 (plain_series 0 13 r one) (power_of_two k)))
above_of_plain x r k h f =
    let p = plain_series 0 13 r one in
    let fp = finite-back p (λ b. finite-clash (mul binary64 p (power_of_two k)) f (mul_left binary64 p (power_of_two k) b)) in
    let fr = finite-back r (λ b. finite-clash p fp (argument_spoils 0 12 r one b)) in
    mul-above binary64 p (power_of_two k) fp tt (series-above r fr h fp) (power-above (to_signed 31 k))

-- a finite number, not below 0
pub record Above (y : Float) : Type 0 where
  pub is_finite : T (finite y)
  pub above : T (le plus_zero y)

reduced-value : (x : Float) (place : ℕ) (y : Float) → T (finite x) → lt seven_hundred x ≡ false → lt x (neg seven_hundred) ≡ false → exp_reduced x place ≡ Ok y → Above y
reduced-value x place y f a b e =
    let v = value_of_lem (plain_exp x (steps x)) place y (sym (exp-straight x place) ∙ e) in
    subst Above v.1
    (record {
      is_finite = v.0;
      above = above_of_plain x (plain_remainder x (steps x)) (steps x) (remainder-low x (reducible x f a b)) v.0;
    })

zero-above : Above plus_zero
unfolding of_bits le
zero-above = record { is_finite = tt; above = tt }

pub exp-value : (x : Float) (place : ℕ) (y : Float) → exp_at x place ≡ Ok y → Above y
unfolding exp_at
exp-value x place y e =
    let rest = cond (lt x (neg seven_hundred)) (Ok plus_zero) (exp_reduced x place) in
    let p = passed (not_finite x) reason.NotFinite place (cond (lt seven_hundred x) (refusal reason.Outside place) rest) y e in
    let q = passed (lt seven_hundred x) reason.Outside place rest y p.1 in
    go (lt x (neg seven_hundred)) refl (finite-passed x p.0) q.0 q.1
  where
    go : (b : Bool) → lt x (neg seven_hundred) ≡ b → T (finite x) → lt seven_hundred x ≡ false → cond b (Ok plus_zero) (exp_reduced x place) ≡ Ok y → Above y
    go true l f h e = let z : plus_zero ≡ y = cc in subst Above z zero-above
    go false l f h e = reduced-value x place y f h l e

pub exp_m1_value : (x : Float) (place : ℕ) (y : Float) → exp_m1_at x place ≡ Ok y → T (finite y)
unfolding exp_m1_at
exp_m1_value x place y e = after_test x place _ y (T (finite y)) (go (lt (neg half) x && lt x half)) e
  where
    go : (b : Bool) → cond b (follow (series 1 12 x one place) (λ p. tested (mul binary64 x p) place)) (follow (exp_at x place) (λ e. tested (sub binary64 e one) place)) ≡ Ok y → T (finite y)
    go true e = after-answer (series 1 12 x one place) (λ p. tested (mul binary64 x p) place) y (T (finite y)) (λ p a h. tested-finite (mul binary64 x p) place y h) e
    go false e = after-answer (exp_at x place) (λ e. tested (sub binary64 e one) place) y (T (finite y)) (λ p a h. tested-finite (sub binary64 p one) place y h) e

-- ---- ln and powf

sum-finite : (k s q : Float) (place : ℕ) (y : Float) → log_sum k s q place ≡ Ok y → T (finite y)
sum-finite k s q place y e = tested-finite (plain_log_sum k s q) place y (sym (log_sum-tested k s q place) ∙ e)

pub ln-value : (x : Float) (place : ℕ) (y : Float) → ln_at x place ≡ Ok y → T (finite y)
unfolding ln_at ln_of
ln-value x place y e =
    let rest = ln_of (fraction x) (exponent x) place in
    let p = passed (not_finite x) reason.NotFinite place (cond (lt x smallest_normal) (refusal reason.Outside place) rest) y e in
    let q = passed (lt x smallest_normal) reason.Outside place rest y p.1 in
    let m = fraction x in
    let k = exponent x in
    after-answer (ratio m place) _ y (T (finite y))
    (λ s a.
    after_test (mul binary64 s s) place _ y (T (finite y))
    (after_test (div binary64 one (of_int binary64 (pos 21))) place _ y (T (finite y))
    (after-answer (log_series 10 (mul binary64 s s) (div binary64 one (of_int binary64 (pos 21))) place) _ y (T (finite y)) (λ q b. sum-finite k s q place y))))
    q.1

pub powf-value : (b y : Float) (place : ℕ) (z : Float) → powf_at b y place ≡ Ok z → Above z
unfolding powf_at
powf-value b y place z e =
    after-answer (ln_at b place) _ z (Above z) (λ l a. after_test (mul binary64 y l) place _ z (Above z) (exp-value (mul binary64 y l) place z)) e
