-- ln without a test of each operation: a straight series and sum, and one test at the end gives the answer of the definition. Assumes nothing.
use Rattle.std.specs.Prelude.{ℕ, zero, suc, ◌+◌, ◌*◌, ◌≡◌, T, pos, Float, Ok}
use Rattle.std.proofs.Common.{sym, ap, ◌∙◌, subst}
use Rattle.std.specs.Float.{binary64}
use Rattle.std.specs.Float.Ieee.{of_bits, to_bits, fits, of_int, add, sub, mul, div}
use Rattle.std.specs.Float.Ieee.Bits.{of_bits-to_bits}
use Rattle.std.specs.Float.Ieee.Scale.{finite}
use Rattle.floats.specs.Answers.{Answer, follow, not_finite, when_finite, tested, one, two}
use Rattle.elementary.specs.Exponential.{ln2_high, ln2_low}
use Rattle.elementary.specs.Logarithm.{log_term, log_series, ratio, log_sum, fraction, exponent, ln_of}
use Rattle.elementary.specs.laws.Normal.{Loggable, loggable-normal}
use Rattle.elementary.specs.laws.Scales.{fraction-ratio}
use Rattle.floats.specs.laws.Propagation.{passes, test_later, then_chain, then_later, add_left, add_right, mul_left, mul_right, div_left}

-- ---- the series

-- q becomes q × z + 1/(2j+1).
abbrev pub plain_log_term : ℕ → Float → Float → Float
plain_log_term j z q = add binary64 (mul binary64 q z) (div binary64 one (of_int binary64 (pos (2 * j + 1))))

-- q after the terms j = count − 1 down to 0.
unfoldable pub plain_log_series : ℕ → Float → Float → Float
plain_log_series zero z q = q
plain_log_series (suc j) z q = plain_log_series j z (plain_log_term j z q)

log_term-tested : (j : ℕ) (z q : Float) (place : ℕ) → log_term j z q place ≡ tested (plain_log_term j z q) place
log_term-tested j z q place =
    let c = div binary64 one (of_int binary64 (pos (2 * j + 1))) in
    (λ i. when_finite (mul binary64 q z) place (λ t. test_later (add binary64 t) c place (λ y h. add_right binary64 t y h) i))
    ∙ test_later (λ t. add binary64 t c) (mul binary64 q z) place (λ y h. add_left binary64 y c h)

of_log_term : (j : ℕ) (z q : Float) → T (not_finite (mul binary64 q z)) → T (not_finite (plain_log_term j z q))
of_log_term j z q h = add_left binary64 (mul binary64 q z) (div binary64 one (of_int binary64 (pos (2 * j + 1)))) h

log_series_spoils : (j : ℕ) (z q : Float) → T (not_finite q) → T (not_finite (plain_log_series j z q))
unfolding plain_log_series
log_series_spoils zero z q h = h
log_series_spoils (suc j) z q h = log_series_spoils j z (plain_log_term j z q) (of_log_term j z q (mul_left binary64 q z h))

log_argument_spoils : (j : ℕ) (z q : Float) → T (not_finite z) → T (not_finite (plain_log_series (suc j) z q))
unfolding plain_log_series
log_argument_spoils j z q h = log_series_spoils j z (plain_log_term j z q) (of_log_term j z q (mul_right binary64 q z h))

pub log_series-tested : (j : ℕ) (z q : Float) (place : ℕ) → T (finite q) → log_series j z q place ≡ tested (plain_log_series j z q) place
unfolding log_series plain_log_series
log_series-tested zero z q place h = sym (passes q place Ok h)
log_series-tested (suc j) z q place h =
    ap (λ (a : Answer). follow a (λ y. log_series j z y place)) (log_term-tested j z q place)
    ∙ then_chain (λ y. log_series j z y place) (plain_log_series j z) (plain_log_term j z q) place (λ y f. log_series-tested j z y place f) (λ y b. log_series_spoils j z y b)

-- ---- the ratio, the sum and the whole

-- s = (m − 1)/(m + 1).
abbrev pub plain_ratio : Float → Float
plain_ratio m = div binary64 (sub binary64 m one) (add binary64 m one)

-- An infinite divisor would give 0, so m + 1 must be known to be finite.
ratio-tested : (m : Float) (place : ℕ) → T (finite (add binary64 m one)) → ratio m place ≡ tested (plain_ratio m) place
ratio-tested m place h =
    let b = add binary64 m one in
    (λ i. when_finite (sub binary64 m one) place (λ a. passes b place (λ d. tested (div binary64 a d) place) h i))
    ∙ test_later (λ a. div binary64 a b) (sub binary64 m one) place (λ y l. div_left binary64 y b l)

-- k × hi + (2 × s × q + k × lo).
abbrev pub plain_log_sum : Float → Float → Float → Float
plain_log_sum k s q =
    add binary64 (mul binary64 k ln2_high) (add binary64 (mul binary64 (mul binary64 two s) q) (mul binary64 k ln2_low))

pub log_sum-tested : (k s q : Float) (place : ℕ) → log_sum k s q place ≡ tested (plain_log_sum k s q) place
log_sum-tested k s q place =
    let h = mul binary64 k ln2_high in
    let t = mul binary64 two s in
    let l = mul binary64 k ln2_low in
    (λ i. when_finite h place (λ h. when_finite t place (λ t. when_finite (mul binary64 t q) place (λ u. when_finite l place (λ l. test_later (add binary64 h) (add binary64 u l) place (λ y b. add_right binary64 h y b) i)))))
    ∙ (λ i. when_finite h place (λ h. when_finite t place (λ t. when_finite (mul binary64 t q) place (λ u. test_later (λ l. add binary64 h (add binary64 u l)) l place (λ y b. add_right binary64 h (add binary64 u y) (add_right binary64 u y b)) i))))
    ∙ (λ i. when_finite h place (λ h. when_finite t place (λ t. test_later (λ u. add binary64 h (add binary64 u l)) (mul binary64 t q) place (λ y b. add_right binary64 h (add binary64 y l) (add_left binary64 y l b)) i)))
    ∙ (λ i. when_finite h place (λ h. test_later (λ t. add binary64 h (add binary64 (mul binary64 t q) l)) t place (λ y b. add_right binary64 h (add binary64 (mul binary64 y q) l) (add_left binary64 (mul binary64 y q) l (mul_left binary64 y q b))) i))
    ∙ test_later (λ h. add binary64 h (add binary64 (mul binary64 t q) l)) h place (λ y b. add_left binary64 y (add binary64 (mul binary64 t q) l) b)

sum_spoils : (k s q : Float) → T (not_finite (mul binary64 (mul binary64 two s) q)) → T (not_finite (plain_log_sum k s q))
sum_spoils k s q h =
    let u = mul binary64 (mul binary64 two s) q in
    let l = mul binary64 k ln2_low in
    add_right binary64 (mul binary64 k ln2_high) (add binary64 u l) (add_left binary64 u l h)

-- 1/21, where the series starts.
abbrev pub log_start : Float
log_start = div binary64 one (of_int binary64 (pos 21))

start-finite : T (finite log_start)
start-finite = unfold div of_int of_bits in tt

-- ln from s, with z = s × s.
abbrev pub plain_log : Float → Float → Float
plain_log k s = plain_log_sum k s (plain_log_series 10 (mul binary64 s s) log_start)

pub ln-straight : (m k : Float) (place : ℕ) → T (finite (add binary64 m one)) → ln_of m k place ≡ tested (plain_log k (plain_ratio m)) place
unfolding ln_of
ln-straight m k place h =
    (λ i. follow (ratio-tested m place h i) (λ s. when_finite (mul binary64 s s) place (λ z. passes log_start place (λ q. follow (log_series 10 z q place) (λ q. log_sum k s q place)) start-finite i)))
    ∙ (λ i. follow (tested (plain_ratio m) place) (λ s. when_finite (mul binary64 s s) place (λ z. follow (log_series-tested 10 z log_start place start-finite i) (λ q. log_sum-tested k s q place i))))
    ∙ (λ i. follow (tested (plain_ratio m) place) (λ s. when_finite (mul binary64 s s) place (λ z. then_later (plain_log_sum k s) (plain_log_series 10 z log_start) place (λ y b. sum_spoils k s y (mul_right binary64 (mul binary64 two s) y b)) i)))
    ∙ (λ i. follow (tested (plain_ratio m) place) (λ s. test_later (λ z. plain_log_sum k s (plain_log_series 10 z log_start)) (mul binary64 s s) place (λ y b. sum_spoils k s (plain_log_series 10 y log_start) (mul_right binary64 (mul binary64 two s) (plain_log_series 10 y log_start) (log_argument_spoils 9 y log_start b))) i))
    ∙ then_later (plain_log k) (plain_ratio m) place (λ s b. let q = plain_log_series 10 (mul binary64 s s) log_start in sum_spoils k s q (mul_left binary64 (mul binary64 two s) q (mul_right binary64 two s b)))

-- ln of x = m × 2^k.
abbrev pub plain_ln : Float → Float
plain_ln x = plain_log (exponent x) (plain_ratio (fraction x))

-- for an answer a in hand
pub ln_is : {a : Answer} (x : Float) (place : ℕ) → T (fits binary64 x) → Loggable x → a ≡ tested (plain_ln x) place → a ≡ ln_of (fraction x) (exponent x) place
ln_is x place f h e =
    let r = subst (λ (y : Float). T (finite (add binary64 (fraction y) one))) (of_bits-to_bits binary64 x f) (fraction-ratio (to_bits binary64 x) (loggable-normal x f h)) in
    e ∙ sym (ln-straight (fraction x) (exponent x) place r)
