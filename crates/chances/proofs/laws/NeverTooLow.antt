-- 24 is never given: every step that is made has probabilities of at least 0.04 before clamping. Assumes nothing.
use Rattle.std.specs.Prelude.{ℤ, Float}
use Rattle.std.specs.Float.Ieee.{binary64, add, sub, mul, div, to_signed}
use Rattle.std.specs.Float.Ieee.Fits.{mul-fits, div-fits}
use Rattle.floats.specs.Answers.{two, on_outcome}
use Rattle.floats.specs.Whole.{rounded}
use Rattle.floats.specs.laws.Whole.{round-answers}
use Rattle.terms.specs.laws.Outcomes.{given_of}
use Rattle.lattice.specs.declared.Middle.{Middle}
use Rattle.lattice.specs.Transitions.{Step, sixth, two_thirds, too_far, probabilities, middle_of, from_middle, transition_of}
use Rattle.lattice.specs.laws.Making.{state_of, expectation_of, quotient_of}
use Rattle.lattice.specs.laws.Middles.{MiddleFrom, middle_from}
use Rattle.chances.specs.laws.Near.{counted}
use Rattle.chances.specs.laws.Spaced.{Spaced}
use Rattle.chances.specs.laws.ErrorSize.{SmallError, small-error}
use Rattle.chances.proofs.laws.ChanceFloor.{floored}
use Rattle.chances.specs.laws.NeverTooLow.{Only23Or27, clamped-only, none-low, only-finite, only-follow, only-near, was_given}

module _ (s : Step) (sp : Spaced s.new_spacing s.denominator s.scale) where
  probabilities-only : (n : ℤ) (error : Float) → SmallError error sp.H → Only23Or27 (probabilities s n error)
  unfolding probabilities
  probabilities-only n error er =
      let term = div binary64 (mul binary64 error error) s.denominator in
      let a = add binary64 sixth term in
      let skew = div binary64 error s.scale in
      let down = sub binary64 a skew in
      let mid = sub binary64 two_thirds (mul binary64 term two) in
      let up = add binary64 a skew in
      only-finite (mul binary64 error error) s.place _ λ fq.
      only-finite term s.place _ λ ft.
      only-finite a s.place _ λ fa.
      only-finite skew s.place _ λ fk.
      only-finite down s.place _ λ _.
      only-finite (mul binary64 term two) s.place _ λ fw.
      only-finite mid s.place _ λ _.
      only-finite up s.place _ λ _.
      rw (none-low down mid up (floored s.new_spacing s.denominator s.scale error sp er fq ft fa fk fw))
      (clamped-only n down mid up s.place)

  middle-only : (n : ℤ) → Only23Or27 (middle_of s.spacing s.decay s.new_spacing s.place n)
  unfolding middle_of on_outcome
  middle-only n =
      only-finite (state_of s n) s.place _ λ _.
      only-finite (expectation_of s n) s.place _ λ _.
      only-finite (quotient_of s n) s.place _ λ fq.
      rw (round-answers (quotient_of s n) s.place (div-fits binary64 (expectation_of s n) s.new_spacing) fq)
      (only-near (too_far (rounded (quotient_of s n))) s.place _ λ _. was_given)

  from_middle-only : (n : ℤ) (m : Middle) → MiddleFrom s n m → Only23Or27 (from_middle s m)
  unfolding from_middle
  from_middle-only n m f =
      let expectation = expectation_of s n in
      let centre = mul binary64 s.new_spacing (rounded (quotient_of s n)) in
      let error = sub binary64 expectation centre in
      let c = counted expectation (mul-fits binary64 (state_of s n) s.decay) f.expectation-finite in
      rw f.is
      (only-finite centre s.place _ λ fc.
      only-finite error s.place _ λ fr.
      probabilities-only (to_signed 31 (rounded (quotient_of s n))) error
      (small-error s.new_spacing expectation sp.H c.0 sp.spacing sp.wide sp.spacing-above c.1 f.quotient-finite f.not_far fc fr))

  pub transition-only : (n : ℤ) → Only23Or27 (transition_of s n)
  unfolding transition_of
  transition-only n = only-follow (middle_of s.spacing s.decay s.new_spacing s.place n) _ (middle-only n) λ m e. from_middle-only n m (given_of (middle_from s n) e)
