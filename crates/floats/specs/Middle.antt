-- Definitions only. midpoint: (a + b)/2.
use Rattle.std.specs.Prelude.{ℕ, Float}
use Rattle.std.specs.Float.{binary64}
use Rattle.std.specs.Float.Ieee.{add, div}
use Rattle.floats.specs.Answers.{Answer, two, tested, when_finite, when_given}

abbrev pub midpoint_at : Float → Float → ℕ → Answer
midpoint_at a b place = when_finite (add binary64 a b) place λ s. tested (div binary64 s two) place

abbrev pub midpoint_alone : Float → Float → Answer
midpoint_alone a b = when_given a (when_given b (midpoint_at a b 0))
