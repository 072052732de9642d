-- Definitions only. sqrt: IEEE 754's, the double nearest to the exact root.
use Rattle.std.specs.Prelude.{ℕ, zero, suc, ◌+◌, ◌*◌, ◌/◌, ◌^◌, cond, false, leb, eqb, Float}
use Rattle.std.specs.Float.{binary64}
use Rattle.std.specs.Float.Ieee.{lt, round}
use Rattle.std.specs.Float.Ieee.Positive.{num, den}
use Rattle.floats.specs.Answers.{Answer, refusal, plus_zero, tested, when_finite, when_given}
use Rattle.floats.specs.declared.Reason.TheVariants as reason

-- The root of n is r, or r + 1 where that one's square isn't above n.
unfoldable pub with_digit : ℕ → ℕ → ℕ
with_digit r n = cond (leb ((r + 1) * (r + 1)) n) (r + 1) r

-- The whole part of the root of an n below 4^k, binary digit by digit: a root's leading digits are the root of the number without its last two.
unfoldable pub integer_root : ℕ → ℕ → ℕ
unfolding with_digit
integer_root zero n = 0
integer_root (suc k) n = with_digit (2 * integer_root k (n / 4)) n

-- 2 × r, and 1 more where r isn't the exact root of the fraction a / b.
unfoldable pub doubled : ℕ → ℕ → ℕ → ℕ
doubled r a b = cond (eqb (r * r * b) a) (2 * r) (2 * r + 1)

-- The root of a / b × 2^2148, doubled, with a half unit for what is cut off. A finite double is below 2^1024, so 1586 digits hold the root.
unfoldable pub doubled_root : ℕ → ℕ → ℕ
unfolding integer_root doubled
doubled_root a b = doubled (integer_root 1586 (a * 2 ^ 2148 / b)) (a * 2 ^ 2148) b

-- Of a finite number that isn't below 0. A zero is its own root, with its sign.
unfoldable pub root_of : Float → Float
unfolding doubled_root round
root_of x = cond (eqb (num x) 0) x (round binary64 false (doubled_root (num x) (den x)) (2 ^ 1075))

-- sqrt(x): below 0 refused with 26. −0 isn't below 0, and its root is −0.
unfoldable pub sqrt_at : Float → ℕ → Answer
unfolding root_of lt
sqrt_at x place = when_finite x place λ x. cond (lt x plus_zero) (refusal reason.Outside place) (tested (root_of x) place)

abbrev pub sqrt_alone : Float → Answer
sqrt_alone x = when_given x (sqrt_at x 0)
