-- Definitions only. max and min: the greater and the lesser of two floats, the first where they are equal.
use Rattle.std.specs.Prelude.{ℕ, cond, Float, Ok}
use Rattle.std.specs.Float.Ieee.{lt}
use Rattle.floats.specs.Answers.{Answer, when_finite, when_given}

-- b where it is below a, and a otherwise
unfoldable pub min_of : Float → Float → Float
min_of a b = cond (lt b a) b a

-- b where it is above a, and a otherwise
unfoldable pub max_of : Float → Float → Float
max_of a b = cond (lt a b) b a

abbrev pub max_at : Float → Float → ℕ → Answer
max_at a b place = when_finite a place λ a. when_finite b place λ b. Ok (max_of a b)

abbrev pub min_at : Float → Float → ℕ → Answer
min_at a b place = when_finite a place λ a. when_finite b place λ b. Ok (min_of a b)

abbrev pub max_alone : Float → Float → Answer
max_alone a b = when_given a (when_given b (max_at a b 0))

abbrev pub min_alone : Float → Float → Answer
min_alone a b = when_given a (when_given b (min_at a b 0))
