-- Each probability before clamping is at least 0.04, and these three are the ones that are clamped: for every variance above 2^−52, a middle within one million and finite results. Assumes nothing.
use Rattle.std.specs.Prelude.{ℕ, ◌≡◌, refl, Bool, true, false, not, T, ℤ, Float, Ok}
use Rattle.std.proofs.Math.Dec.{not_T}
use Rattle.std.specs.Float.Ieee.{binary64, mul, neg, le, lt, to_signed}
use Rattle.std.specs.Float.Ieee.Bits.{is_false}
use Rattle.std.specs.Float.Ieee.Fits.{mul-fits, div-fits}
use Rattle.std.specs.Float.Ieee.Scale.{finite}
use Rattle.floats.specs.Answers.{plus_zero, on_outcome, not_finite}
use Rattle.floats.specs.laws.Order.{not_le_of_lt}
use Rattle.floats.specs.laws.Whole.{round-answers}
use Rattle.rounded.specs.laws.RootBounds.{sqrt_at_is}
use Rattle.terms.specs.Numbers.{float, epsilon, million}
use Rattle.lattice.specs.Transitions.{Step, too_far, clamped, probabilities, transition_of}
use Rattle.lattice.specs.Lattice.{step_of}
use Rattle.lattice.specs.laws.Making.{state_of, expectation_of, quotient_of}
use Rattle.chances.specs.Unclamped.{step_over, middle_of, centre_of, error_of, square_of, term_of, raised_of, skew_of, twice_of, down_of, mid_of, up_of, EveryResultFinite}
use Rattle.chances.specs.laws.Near.{counted}
use Rattle.chances.specs.laws.Spaced.{x_above, spaced}
use Rattle.chances.specs.laws.ErrorSize.{small-error}
use Rattle.chances.specs.laws.ChanceFloor.{Floored}
use Rattle.chances.proofs.laws.ChanceFloor.{floored}
use Rattle.chances.specs.laws.NeverTooLow.{none-low}

not_lt : (x y : Float) → T (le y x) → lt x y ≡ false
not_lt x y h = is_false (lt x y) (not_T (lt x y) (λ l. not_le_of_lt x y l h))

is_finite : (x : Float) → T (finite x) → not_finite x ≡ false
is_finite x h = go (finite x) h
  where
    go : (b : Bool) → T b → not b ≡ false
    go true h = refl
    go false h = absurd h

module _ (spacing decay variance : Float) (k : ℕ) (n : ℤ) (above : T (lt epsilon variance)) where
  abbrev s : Step
  s = step_over spacing decay variance k

  module _ (f : EveryResultFinite variance (step_over spacing decay variance k) n) where
    -- 22 isn't met, and no result of the step is refused
    pub step-made : step_of spacing decay variance k ≡ Ok (step_over spacing decay variance k)
    unfolding step_of on_outcome
    step-made =
        rw (
          is_false (le variance epsilon) (not_T (le variance epsilon) (λ l. not_le_of_lt epsilon variance above l)),
          is_finite (mul binary64 variance (float 3)) f.tripled,
          sqrt_at_is (mul binary64 variance (float 3)) k f.tripled (not_lt (mul binary64 variance (float 3)) plus_zero (x_above variance above f.tripled f.denominator)),
          is_finite s.denominator f.denominator,
          is_finite s.scale f.scale,
        )

    module _ (low : T (le (neg million) (middle_of (step_over spacing decay variance k) n))) (high : T (le (middle_of (step_over spacing decay variance k) n) million)) where
      within : too_far (middle_of s n) ≡ false
      within = rw (not_lt (middle_of s n) (neg million) low, not_lt million (middle_of s n) high)

      pub at_least_four_hundredths : Floored (down_of (step_over spacing decay variance k) n) (mid_of (step_over spacing decay variance k) n) (up_of (step_over spacing decay variance k) n)
      at_least_four_hundredths =
          let sp = spaced variance above f.tripled f.denominator f.scale in
          let c = counted (expectation_of s n) (mul-fits binary64 (state_of s n) decay) f.expectation in
          floored s.new_spacing s.denominator s.scale (error_of s n) sp
          (small-error s.new_spacing (expectation_of s n) sp.H c.0 sp.spacing sp.wide sp.spacing-above c.1 f.quotient within f.centre f.error)
          f.square
          f.term
          f.raised
          f.skew
          f.twice

      -- neither 23 nor 24 is met, and no result of the node is refused
      pub transition_clamps : transition_of (step_over spacing decay variance k) n ≡ clamped (to_signed 31 (middle_of (step_over spacing decay variance k) n)) (down_of (step_over spacing decay variance k) n) (mid_of (step_over spacing decay variance k) n) (up_of (step_over spacing decay variance k) n) k
      unfolding transition_of probabilities on_outcome
      transition_clamps =
          rw (
            is_finite (state_of s n) f.state,
            is_finite (expectation_of s n) f.expectation,
            round-answers (quotient_of s n) k (div-fits binary64 (expectation_of s n) s.new_spacing) f.quotient,
            is_finite (quotient_of s n) f.quotient,
            within,
            is_finite (centre_of s n) f.centre,
            is_finite (error_of s n) f.error,
            is_finite (square_of s n) f.square,
            is_finite (term_of s n) f.term,
            is_finite (raised_of s n) f.raised,
            is_finite (skew_of s n) f.skew,
            is_finite (down_of s n) f.down,
            is_finite (twice_of s n) f.twice,
            is_finite (mid_of s n) f.mid,
            is_finite (up_of s n) f.up,
            none-low (down_of s n) (mid_of s n) (up_of s n) at_least_four_hundredths,
          )
