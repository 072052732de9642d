-- Definitions only. powf(b, y): exp(y × ln(b)).
use Rattle.std.specs.Prelude.{ℕ, Float}
use Rattle.std.specs.Float.{binary64}
use Rattle.std.specs.Float.Ieee.{mul}
use Rattle.floats.specs.Answers.{Answer, follow, when_finite, when_given}
use Rattle.elementary.specs.Exponential.{exp_at}
use Rattle.elementary.specs.Logarithm.{ln_at}

unfoldable pub powf_at : Float → Float → ℕ → Answer
unfolding exp_at ln_at
powf_at b y place = follow (ln_at b place) λ l. when_finite (mul binary64 y l) place λ t. exp_at t place

abbrev pub powf_alone : Float → Float → Answer
powf_alone b y = when_given b (when_given y (powf_at b y 0))
