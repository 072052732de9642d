-- Definitions only. A transition's results up to its clamping, each rounded once, in the order in which `step_of` and `transitionOf` work them out.
use Rattle.std.specs.Prelude.{ℕ, T, ℤ, Float}
use Rattle.std.specs.Float.{binary64}
use Rattle.std.specs.Float.Ieee.{of_bits, add, sub, mul, div}
use Rattle.std.specs.Float.Ieee.Scale.{finite}
use Rattle.floats.specs.Answers.{two}
use Rattle.floats.specs.Whole.{rounded}
use Rattle.rounded.specs.Root.{root_of}
use Rattle.terms.specs.Numbers.{float}
use Rattle.lattice.specs.Transitions.{Step, sixth, two_thirds}
use Rattle.lattice.specs.laws.Making.{state_of, expectation_of, quotient_of}

-- The least that a probability can be before clamping, in hundredths, and as the double nearest to that.
abbrev pub least_hundredths : ℕ
least_hundredths = 4

abbrev pub least_probability : Float
least_probability = of_bits binary64 0x3fa4_7ae1_47ae_147b

-- The step of a variance: the new spacing, which is the root of three times the variance, and the two divisors.
abbrev pub step_over : Float → Float → Float → ℕ → Step
step_over spacing decay variance place =
    record {
      spacing = spacing;
      decay = decay;
      new_spacing = root_of (mul binary64 variance (float 3));
      denominator = mul binary64 variance (float 6);
      scale = mul binary64 (root_of (mul binary64 variance (float 3))) two;
      place = place;
    }

-- Of a node: state, expectation and its quotient, then these.
module _ (s : Step) (n : ℤ) where
  abbrev pub middle_of : Float
  middle_of = rounded (quotient_of s n)

  abbrev pub centre_of : Float
  centre_of = mul binary64 s.new_spacing middle_of

  abbrev pub error_of : Float
  error_of = sub binary64 (expectation_of s n) centre_of

  abbrev pub square_of : Float
  square_of = mul binary64 error_of error_of

  abbrev pub term_of : Float
  term_of = div binary64 square_of s.denominator

  abbrev pub raised_of : Float
  raised_of = add binary64 sixth term_of

  abbrev pub skew_of : Float
  skew_of = div binary64 error_of s.scale

  abbrev pub twice_of : Float
  twice_of = mul binary64 term_of two

  -- The three probabilities before clamping.
  abbrev pub down_of : Float
  down_of = sub binary64 raised_of skew_of

  abbrev pub mid_of : Float
  mid_of = sub binary64 two_thirds twice_of

  abbrev pub up_of : Float
  up_of = add binary64 raised_of skew_of

-- Every result is finite: of the step, and of the node.
pub record EveryResultFinite (variance : Float) (s : Step) (n : ℤ) : Type 0 where
  pub tripled : T (finite (mul binary64 variance (float 3)))
  pub denominator : T (finite s.denominator)
  pub scale : T (finite s.scale)
  pub state : T (finite (state_of s n))
  pub expectation : T (finite (expectation_of s n))
  pub quotient : T (finite (quotient_of s n))
  pub centre : T (finite (centre_of s n))
  pub error : T (finite (error_of s n))
  pub square : T (finite (square_of s n))
  pub term : T (finite (term_of s n))
  pub raised : T (finite (raised_of s n))
  pub skew : T (finite (skew_of s n))
  pub down : T (finite (down_of s n))
  pub twice : T (finite (twice_of s n))
  pub mid : T (finite (mid_of s n))
  pub up : T (finite (up_of s n))
