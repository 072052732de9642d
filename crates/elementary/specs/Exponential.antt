-- Definitions only. exp and exp_m1, operation by operation, each result tested.
use Rattle.std.specs.Prelude.{ℕ, zero, suc, ◌+◌, ◌<◌, ◌≡◌, Bool, cond, true, false, ◌&&◌, List, length, get_or, pos, Float, Ok}
use Rattle.std.specs.Float.{nan, fin, binary64}
use Rattle.std.specs.Float.Ieee.{of_bits, of_int, to_signed, add, sub, mul, div, neg, lt}
use Rattle.floats.specs.Answers.{Answer, refusal, follow, one, plus_zero, tested, when_finite, when_given}
use Rattle.floats.specs.Whole.{round_at}
use Rattle.floats.specs.declared.Reason.TheVariants as reason

-- 1/ln 2, and ln 2 in two parts, hi and lo.
abbrev pub inverse_ln2 : Float
inverse_ln2 = of_bits binary64 0x3ff7_1547_652b_82fe

abbrev pub ln2_high : Float
ln2_high = of_bits binary64 0x3fe6_2e42_fee0_0000

abbrev pub ln2_low : Float
ln2_low = of_bits binary64 0x3dea_39ef_3579_3c76

abbrev pub seven_hundred : Float
seven_hundred = of_bits binary64 0x4085_e000_0000_0000

abbrev pub half : Float
half = of_bits binary64 0x3fe0_0000_0000_0000

-- p becomes 1 + (r × p)/n.
abbrev pub term : ℕ → Float → Float → ℕ → Answer
term n r p place =
    when_finite (mul binary64 r p) place λ t.
    when_finite (div binary64 t (of_int binary64 (pos n))) place λ q. tested (add binary64 one q) place

-- p after the terms n = low + count down to low + 1.
unfoldable pub series : ℕ → ℕ → Float → Float → ℕ → Answer
series low zero r p place = Ok p
series low (suc count) r p place = follow (term (low + suc count) r p place) λ p. series low count r p place

-- r = (x − k × hi) − k × lo.
abbrev pub remainder : Float → Float → ℕ → Answer
remainder x k place =
    when_finite (mul binary64 k ln2_high) place λ h.
    when_finite (sub binary64 x h) place λ d.
    when_finite (mul binary64 k ln2_low) place λ l. tested (sub binary64 d l) place

-- 2^k for a whole number k.
abbrev pub power_of_two : Float → Float
power_of_two k = fin false 1 (to_signed 31 k)

-- k = round(x × 1/ln 2), r, p from 1 with n from 13 down to 1; the answer is p × 2^k.
unfoldable pub exp_reduced : Float → ℕ → Answer
unfolding series
exp_reduced x place =
    when_finite (mul binary64 x inverse_ln2) place λ y.
    follow (round_at y place) λ k.
    follow (remainder x k place) λ r.
    follow (series 0 13 r one place) λ p. tested (mul binary64 p (power_of_two k)) place

-- exp(x): above 700 refused with 26; below −700 gives +0.
unfoldable pub exp_at : Float → ℕ → Answer
unfolding exp_reduced
exp_at x place =
    when_finite x place λ x.
    cond (lt seven_hundred x) (refusal reason.Outside place) (cond (lt x (neg seven_hundred)) (Ok plus_zero) (exp_reduced x place))

-- exp_m1(x): for |x| < 0.5, x × p with n from 13 down to 2 and r = x; else exp(x) − 1.
unfoldable pub exp_m1_at : Float → ℕ → Answer
unfolding series exp_at
exp_m1_at x place =
    when_finite x place λ x.
    cond
    (lt (neg half) x && lt x half)
    (follow (series 1 12 x one place) λ p. tested (mul binary64 x p) place)
    (follow (exp_at x place) λ e. tested (sub binary64 e one) place)

abbrev pub exp_alone : Float → Answer
exp_alone x = when_given x (exp_at x 0)

abbrev pub exp_m1_alone : Float → Answer
exp_m1_alone x = when_given x (exp_m1_at x 0)

-- exp of each number of a row, at any place, where the answer is yes; else nothing.
pub record ExpRow (good : Bool) (xs ys : List Float) : Type 0 where
  pub values : good ≡ true → (i place : ℕ) → i < length xs → exp_at (get_or xs i nan) place ≡ Ok (get_or ys i nan)
