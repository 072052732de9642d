-- Definitions only. round: half away from zero. ceil: upwards. A zero from round or ceil is +0.
use Rattle.std.specs.Prelude.{ℕ, ◌+◌, ◌-◌, ◌*◌, ◌/◌, Bool, cond, eqb, Float}
use Rattle.std.specs.Float.{nan, inf, fin, binary64}
use Rattle.std.specs.Float.Ieee.{up, down}
use Rattle.std.specs.Float.Ieee as ieee
use Rattle.floats.specs.Answers.{Answer, plus_zero, tested, when_finite, when_given}

-- The whole number n with the sign s, and +0 for 0.
unfoldable pub whole_of : Bool → ℕ → Float
unfolding ieee.round
whole_of s n = cond (eqb n 0) plus_zero (ieee.round binary64 s n 1)

-- round: the whole number nearest to the exact value, a half going away from zero.
unfoldable pub rounded : Float → Float
unfolding whole_of
rounded nan = nan
rounded (inf s) = inf s
rounded (fin s m e) = whole_of s ((2 * (m * up e) + down e) / (2 * down e))

-- ceil: the lowest whole number that is not below the exact value.
unfoldable pub ceiled : Float → Float
unfolding whole_of
ceiled nan = nan
ceiled (inf s) = inf s
ceiled (fin s m e) = whole_of s (cond s (m * up e / down e) ((m * up e + (down e - 1)) / down e))

abbrev pub round_at : Float → ℕ → Answer
round_at x place = when_finite x place λ x. tested (rounded x) place

abbrev pub ceil_at : Float → ℕ → Answer
ceil_at x place = when_finite x place λ x. tested (ceiled x) place

abbrev pub round_alone : Float → Answer
round_alone x = when_given x (round_at x 0)

abbrev pub ceil_alone : Float → Answer
ceil_alone x = when_given x (ceil_at x 0)
