-- Definitions only. mul_add: the exact a × b + c rounded once, ties to even, an exact zero being +0.
use Rattle.std.specs.Prelude.{ℕ, ◌+◌, ◌*◌, Bool, cond, false, eqb, Float}
use Rattle.std.specs.Float.{nan, inf, fin, binary64}
use Rattle.std.specs.Float.Ieee.{unlike, sum}
use Rattle.std.specs.Float.Ieee.Positive.{num, den}
use Rattle.floats.specs.Answers.{Answer, plus_zero, tested, when_finite, when_given}

abbrev pub is_negative : Float → Bool
is_negative nan = false
is_negative (inf s) = s
is_negative (fin s m e) = s

-- The exact product is ±p / d and the exact addend ±q / d. Where both are 0 the sum is +0; `sum` rounds every other exact sum once, and gives +0 for one that cancels.
unfoldable pub rounded_sum : Bool → ℕ → Bool → ℕ → ℕ → Float
unfolding sum
rounded_sum s p t q d = cond (eqb (p + q) 0) plus_zero (sum binary64 s p t q d)

-- Of finite numbers; anything else has no value here.
unfoldable pub mul_add : Float → Float → Float → Float
unfolding rounded_sum
mul_add x y z =
    rounded_sum
    (unlike (is_negative x) (is_negative y))
    (num x * num y * den z)
    (is_negative z)
    (num z * (den x * den y))
    (den x * den y * den z)

abbrev pub mul_add_at : Float → Float → Float → ℕ → Answer
mul_add_at x y z place =
    when_finite x place λ x. when_finite y place λ y. when_finite z place λ z. tested (mul_add x y z) place

abbrev pub mul_add_alone : Float → Float → Float → Answer
mul_add_alone x y z = when_given x (when_given y (when_given z (mul_add_at x y z 0)))
