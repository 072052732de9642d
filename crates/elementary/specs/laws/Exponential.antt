-- exp without a test of each operation: a straight series, and one test at the end gives the answer of the definition. Assumes nothing.
use Rattle.std.specs.Prelude.{ℕ, zero, suc, ◌+◌, ◌≡◌, T, pos, Float, Ok}
use Rattle.std.proofs.Common.{sym, ap, ◌∙◌}
use Rattle.std.specs.Float.{nan, inf, fin, binary64}
use Rattle.std.specs.Float.Ieee.{of_bits, of_int, add, sub, mul, div}
use Rattle.std.specs.Float.Ieee.Scale.{finite}
use Rattle.floats.specs.Answers.{Answer, follow, not_finite, when_finite, tested, one}
use Rattle.floats.specs.Whole.{rounded}
use Rattle.elementary.specs.Exponential.{inverse_ln2, ln2_high, ln2_low, term, series, remainder, power_of_two, exp_reduced, exp_at}
use Rattle.floats.specs.laws.Propagation.{Spoils, passes, test_later, then_chain, then_later, add_right, sub-left, sub_right, mul_left, mul_right, div_left}

-- ---- the series

-- p becomes 1 + (r × p)/n.
abbrev pub plain_term : ℕ → Float → Float → Float
plain_term n r p = add binary64 one (div binary64 (mul binary64 r p) (of_int binary64 (pos n)))

-- p after the terms n = low + count down to low + 1.
unfoldable pub plain_series : ℕ → ℕ → Float → Float → Float
plain_series low zero r p = p
plain_series low (suc count) r p = plain_series low count r (plain_term (low + suc count) r p)

term-tested : (n : ℕ) (r p : Float) (place : ℕ) → term n r p place ≡ tested (plain_term n r p) place
term-tested n r p place =
    (λ i. when_finite (mul binary64 r p) place (λ t. test_later (add binary64 one) (div binary64 t (of_int binary64 (pos n))) place (λ x h. add_right binary64 one x h) i))
    ∙ test_later (λ t. add binary64 one (div binary64 t (of_int binary64 (pos n)))) (mul binary64 r p) place
    (λ x h. add_right binary64 one (div binary64 x (of_int binary64 (pos n))) (div_left binary64 x (of_int binary64 (pos n)) h))

pub of_term : (n : ℕ) (r p : Float) → T (not_finite (mul binary64 r p)) → T (not_finite (plain_term n r p))
of_term n r p h = add_right binary64 one (div binary64 (mul binary64 r p) (of_int binary64 (pos n))) (div_left binary64 (mul binary64 r p) (of_int binary64 (pos n)) h)

pub series_spoils : (low count : ℕ) (r p : Float) → T (not_finite p) → T (not_finite (plain_series low count r p))
unfolding plain_series
series_spoils low zero r p h = h
series_spoils low (suc count) r p h = series_spoils low count r (plain_term (low + suc count) r p) (of_term (low + suc count) r p (mul_right binary64 r p h))

pub argument_spoils : (low count : ℕ) (r p : Float) → T (not_finite r) → T (not_finite (plain_series low (suc count) r p))
unfolding plain_series
argument_spoils low count r p h = series_spoils low count r (plain_term (low + suc count) r p) (of_term (low + suc count) r p (mul_left binary64 r p h))

pub series-tested : (low count : ℕ) (r p : Float) (place : ℕ) → T (finite p) → series low count r p place ≡ tested (plain_series low count r p) place
unfolding series plain_series
series-tested low zero r p place h = sym (passes p place Ok h)
series-tested low (suc count) r p place h =
    ap (λ (a : Answer). follow a (λ q. series low count r q place)) (term-tested (low + suc count) r p place)
    ∙ then_chain (λ q. series low count r q place) (plain_series low count r) (plain_term (low + suc count) r p) place (λ y f. series-tested low count r y place f) (λ y b. series_spoils low count r y b)

-- ---- the reduced argument and the whole

-- r = (x − k × hi) − k × lo.
abbrev pub plain_remainder : Float → Float → Float
plain_remainder x k = sub binary64 (sub binary64 x (mul binary64 k ln2_high)) (mul binary64 k ln2_low)

remainder-tested : (x k : Float) (place : ℕ) → remainder x k place ≡ tested (plain_remainder x k) place
remainder-tested x k place =
    let l = mul binary64 k ln2_low in
    (λ i. when_finite (mul binary64 k ln2_high) place (λ h. when_finite (sub binary64 x h) place (λ d. test_later (sub binary64 d) l place (λ y b. sub_right binary64 d y b) i)))
    ∙ (λ i. when_finite (mul binary64 k ln2_high) place (λ h. test_later (λ d. sub binary64 d l) (sub binary64 x h) place (λ y b. sub-left binary64 y l b) i))
    ∙ test_later (λ h. sub binary64 (sub binary64 x h) l) (mul binary64 k ln2_high) place (λ y b. sub-left binary64 (sub binary64 x y) l (sub_right binary64 x y b))

remainder_spoils : (x k : Float) → T (not_finite k) → T (not_finite (plain_remainder x k))
remainder_spoils x k h = sub_right binary64 (sub binary64 x (mul binary64 k ln2_high)) (mul binary64 k ln2_low) (mul_left binary64 k ln2_low h)

rounded_spoils : Spoils rounded
unfolding rounded
rounded_spoils nan h = tt
rounded_spoils (inf s) h = tt
rounded_spoils (fin s m e) h = absurd h

-- p × 2^k, with p from the reduced argument r.
abbrev pub plain_exp : Float → Float → Float
plain_exp x k = mul binary64 (plain_series 0 13 (plain_remainder x k) one) (power_of_two k)

-- k = round(x × 1/ln 2).
abbrev pub steps : Float → Float
steps x = rounded (mul binary64 x inverse_ln2)

scaled_spoils : (k : Float) → Spoils (λ r. mul binary64 (plain_series 0 13 r one) (power_of_two k))
scaled_spoils k r h = mul_left binary64 (plain_series 0 13 r one) (power_of_two k) (argument_spoils 0 12 r one h)

exp_spoils : (x : Float) → Spoils (plain_exp x)
exp_spoils x k h = scaled_spoils k (plain_remainder x k) (remainder_spoils x k h)

one_finite : T (finite one)
one_finite = unfold of_bits in tt

pub exp-straight : (x : Float) (place : ℕ) → exp_reduced x place ≡ tested (plain_exp x (steps x)) place
unfolding exp_reduced
exp-straight x place =
    (λ i. when_finite (mul binary64 x inverse_ln2) place (λ y. follow (test_later rounded y place rounded_spoils i) (λ k. follow (remainder-tested x k place i) (λ r. follow (series-tested 0 13 r one place one_finite i) (λ p. tested (mul binary64 p (power_of_two k)) place)))))
    ∙ (λ i. when_finite (mul binary64 x inverse_ln2) place (λ y. follow (tested (rounded y) place) (λ k. follow (tested (plain_remainder x k) place) (λ r. then_later (λ p. mul binary64 p (power_of_two k)) (plain_series 0 13 r one) place (λ p h. mul_left binary64 p (power_of_two k) h) i))))
    ∙ (λ i. when_finite (mul binary64 x inverse_ln2) place (λ y. follow (tested (rounded y) place) (λ k. then_later (λ r. mul binary64 (plain_series 0 13 r one) (power_of_two k)) (plain_remainder x k) place (scaled_spoils k) i)))
    ∙ (λ i. when_finite (mul binary64 x inverse_ln2) place (λ y. then_later (plain_exp x) (rounded y) place (exp_spoils x) i))
    ∙ test_later (λ y. plain_exp x (rounded y)) (mul binary64 x inverse_ln2) place (λ y h. exp_spoils x (rounded y) (rounded_spoils y h))

-- the same, for an answer a in hand
pub exp_is : {a : Answer} (x : Float) (place : ℕ) → a ≡ tested (plain_exp x (steps x)) place → a ≡ exp_reduced x place
exp_is x place h = h ∙ sym (exp-straight x place)

-- ---- exp_m1: near 0 a series of its own, elsewhere exp less 1

abbrev pub near_zero : Float → ℕ → Answer
near_zero x place = tested (mul binary64 x (plain_series 1 12 x one)) place

abbrev pub less_one : Float → ℕ → Answer
less_one x place = follow (exp_at x place) λ e. tested (sub binary64 e one) place

pub near_zero_is : {a : Answer} (x : Float) (place : ℕ) → a ≡ near_zero x place → a ≡ follow (series 1 12 x one place) (λ p. tested (mul binary64 x p) place)
near_zero_is x place h =
    h
    ∙ sym ((λ i. follow (series-tested 1 12 x one place one_finite i) (λ p. tested (mul binary64 x p) place))
    ∙ then_later (mul binary64 x) (plain_series 1 12 x one) place (λ p b. mul_right binary64 x p b))
