-- How a step is made, in the parts in which the code makes it: 22, the new spacing, then the two divisors. Assumes nothing.
use Rattle.std.specs.Prelude.{ℕ, ◌≡◌, refl, cond, Float, Ok}
use Rattle.std.specs.Float.{binary64}
use Rattle.std.specs.Float.Ieee.{mul, le, of_bits, of_int}
use Rattle.floats.specs.Answers.{Answer, two, when_finite, Outcome, follow, refusal}
use Rattle.rounded.specs.Root.{sqrt_at}
use Rattle.terms.specs.Numbers.{float, epsilon}
use Rattle.lattice.specs.Transitions.{Step}
use Rattle.lattice.specs.Lattice.{spacing_of, step_of}
use Rattle.lattice.specs.laws.Making.{three, six, step_from}
use Rattle.floats.specs.declared.Reason.TheVariants as reason

three_is : float 3 ≡ three
unfolding of_int of_bits
three_is = refl

six_is : float 6 ≡ six
unfolding of_int of_bits
six_is = refl

-- The spacing, with 3 as the code writes it.
pub spacing_is : (variance : Float) (place : ℕ) → when_finite (mul binary64 variance three) place (λ x. sqrt_at x place) ≡ spacing_of variance place
spacing_is variance place = rw (← three_is)

pub spacing_by : (variance : Float) (place : ℕ) {a : Answer} → a ≡ when_finite (mul binary64 variance three) place (λ x. sqrt_at x place) → a ≡ spacing_of variance place
spacing_by variance place h = rw (← spacing_is variance place) h

-- From the new spacing on.
unfoldable pub step_with : Float → Float → Float → Float → ℕ → Outcome Step
step_with spacing decay variance new place =
    when_finite (mul binary64 variance six) place λ denominator.
    when_finite (mul binary64 new two) place λ scale. Ok (step_from spacing decay new denominator scale place)

-- 22, then the spacing.
pub step_is : (spacing decay variance : Float) (place : ℕ) → cond (le variance epsilon) (refusal reason.NoVariance place) (follow (spacing_of variance place) λ new. step_with spacing decay variance new place) ≡ step_of spacing decay variance place
unfolding step_of step_with
step_is spacing decay variance place = rw (← six_is)
