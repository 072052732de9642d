-- Definitions only. ln, operation by operation, each result tested.
use Rattle.std.specs.Prelude.{ℕ, zero, suc, ◌+◌, ◌-◌, ◌*◌, ◌^◌, cond, false, leb, pos, ◌+ℤ◌, Float, Ok}
use Rattle.std.specs.Float.{nan, inf, fin, binary64}
use Rattle.std.specs.Float.Ieee.{of_bits, of_int, size, minus, add, sub, mul, div, lt}
use Rattle.floats.specs.Answers.{Answer, refusal, follow, one, two, tested, when_finite, when_given}
use Rattle.elementary.specs.Exponential.{ln2_high, ln2_low}
use Rattle.floats.specs.declared.Reason.TheVariants as reason

-- 2^−1022
abbrev pub smallest_normal : Float
smallest_normal = of_bits binary64 0x0010_0000_0000_0000

-- The d with 0.75 ≤ n / 2^d < 1.5: as many as n has binary digits, or one less where n is below 1.5 × 2^(digits − 1).
unfoldable pub scale : ℕ → ℕ
unfolding size
scale n = cond (leb (3 * 2 ^ (size n - 1)) (2 * n)) (size n) (size n - 1)

-- x = m × 2^k, 0.75 ≤ m < 1.5: of x = n × 2^e, m is n / 2^d and k is e + d.
unfoldable pub fraction : Float → Float
unfolding scale
fraction nan = nan
fraction (inf s) = nan
fraction (fin s n e) = fin false n (minus 0 (scale n))

unfoldable pub exponent : Float → Float
unfolding scale of_int
exponent nan = nan
exponent (inf s) = nan
exponent (fin s n e) = of_int binary64 (e +ℤ pos (scale n))

-- q becomes q × z + 1/(2j+1).
abbrev pub log_term : ℕ → Float → Float → ℕ → Answer
log_term j z q place =
    when_finite (mul binary64 q z) place λ t.
    when_finite (div binary64 one (of_int binary64 (pos (2 * j + 1)))) place λ c. tested (add binary64 t c) place

-- q after the terms j = count − 1 down to 0.
unfoldable pub log_series : ℕ → Float → Float → ℕ → Answer
log_series zero z q place = Ok q
log_series (suc j) z q place = follow (log_term j z q place) λ q. log_series j z q place

-- s = (m − 1)/(m + 1).
abbrev pub ratio : Float → ℕ → Answer
ratio m place =
    when_finite (sub binary64 m one) place λ a.
    when_finite (add binary64 m one) place λ b. tested (div binary64 a b) place

-- k × hi + (2 × s × q + k × lo).
abbrev pub log_sum : Float → Float → Float → ℕ → Answer
log_sum k s q place =
    when_finite (mul binary64 k ln2_high) place λ h.
    when_finite (mul binary64 two s) place λ t.
    when_finite (mul binary64 t q) place λ u.
    when_finite (mul binary64 k ln2_low) place λ l.
    when_finite (add binary64 u l) place λ v. tested (add binary64 h v) place

-- z = s × s; q starts at 1/21 and goes by j from 9 down to 0.
unfoldable pub ln_of : Float → Float → ℕ → Answer
unfolding log_series
ln_of m k place =
    follow (ratio m place) λ s.
    when_finite (mul binary64 s s) place λ z.
    when_finite (div binary64 one (of_int binary64 (pos 21))) place λ q.
    follow (log_series 10 z q place) λ q. log_sum k s q place

-- ln(x), finite x ≥ 2^−1022, else refused with 26.
unfoldable pub ln_at : Float → ℕ → Answer
unfolding ln_of fraction exponent
ln_at x place = when_finite x place λ x. cond (lt x smallest_normal) (refusal reason.Outside place) (ln_of (fraction x) (exponent x) place)

abbrev pub ln_alone : Float → Answer
ln_alone x = when_given x (ln_at x 0)
