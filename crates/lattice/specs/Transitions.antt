-- Definitions only. A node's transition: state, expectation and its quotient, 23, error and probabilities, 24.
use Rattle.std.specs.Prelude.{ℕ, Bool, cond, ◌||◌, ℤ, Float, Ok}
use Rattle.std.proofs.Math.IntN.{pred_ℤ, suc_ℤ}
use Rattle.std.specs.Float.{binary64}
use Rattle.std.specs.Float.Ieee.{add, sub, mul, div, neg, lt, to_signed}
use Rattle.floats.specs.Answers.{plus_zero, one, two, Outcome, follow, when_finite, refusal}
use Rattle.floats.specs.Extremes.{max_of}
use Rattle.floats.specs.Whole.{round_at, rounded}
use Rattle.terms.specs.Numbers.{float, million, tolerance}
use Rattle.lattice.specs.declared.Middle.{Middle}
use Rattle.lattice.specs.declared.Step.{Step as SharedStep}
use Rattle.lattice.specs.declared.Transition.{Transition}
use Rattle.lattice.specs.Layers.{node_float}
use Rattle.floats.specs.declared.Reason.TheVariants as reason

-- What the nodes of a step share: spacing, decay, the new spacing, the two divisors, and the place of a refusal.
abbrev pub Step : Type 0
Step = SharedStep

abbrev pub sixth : Float
sixth = div binary64 one (float 6)

abbrev pub two_thirds : Float
two_thirds = div binary64 two (float 3)

-- 24: a probability below −1e-12.
abbrev pub too_low : Float → Bool
too_low p = lt p (neg tolerance)

-- Clamping at 0 and dividing by the total.
unfoldable pub clamped : ℤ → Float → Float → Float → ℕ → Outcome Transition
unfolding max_of add div
clamped middle down mid up place =
    let d = max_of down plus_zero in
    let m = max_of mid plus_zero in
    let u = max_of up plus_zero in
    when_finite (add binary64 d m) place λ part.
    when_finite (add binary64 part u) place λ total.
    when_finite (div binary64 d total) place λ pd.
    when_finite (div binary64 m total) place λ pm.
    when_finite (div binary64 u total) place λ pu.
    Ok
    (record {
      down = pred_ℤ middle;
      middle = middle;
      up = suc_ℤ middle;
      probability_down = pd;
      probability_middle = pm;
      probability_up = pu;
    })

-- Probabilities with the error from the rounded middle.
unfoldable pub probabilities : Step → ℤ → Float → Outcome Transition
unfolding clamped add sub mul div neg lt
probabilities s middle error =
    let place = s.place in
    when_finite (mul binary64 error error) place λ square.
    when_finite (div binary64 square s.denominator) place λ term.
    when_finite (add binary64 sixth term) place λ a.
    when_finite (div binary64 error s.scale) place λ skew.
    when_finite (sub binary64 a skew) place λ down.
    when_finite (mul binary64 term two) place λ twice.
    when_finite (sub binary64 two_thirds twice) place λ mid.
    when_finite (add binary64 a skew) place λ up.
    cond (too_low down || (too_low mid || too_low up)) (refusal reason.Probability place) (clamped middle down mid up place)

-- 23: a middle node beyond ±1,000,000.
abbrev pub too_far : Float → Bool
too_far m = lt m (neg million) || lt million m

-- State, expectation and its quotient, 23.
unfoldable pub middle_of : Float → Float → Float → ℕ → ℤ → Outcome Middle
middle_of spacing decay new place node =
    when_finite (mul binary64 spacing (node_float node)) place λ state.
    when_finite (mul binary64 state decay) place λ expectation.
    when_finite (div binary64 expectation new) place λ quotient.
    follow (round_at quotient place) λ middle.
    cond (too_far middle) (refusal reason.NodeTooFar place)
    (Ok (record { expectation = expectation; middle = middle; node = to_signed 31 middle }))

-- Error and probabilities.
unfoldable pub from_middle : Step → Middle → Outcome Transition
unfolding probabilities sub mul
from_middle s m =
    when_finite (mul binary64 s.new_spacing m.middle) s.place λ centre.
    when_finite (sub binary64 m.expectation centre) s.place λ error. probabilities s m.node error

-- The middle, then error and probabilities.
unfoldable pub transition_of : Step → ℤ → Outcome Transition
unfolding middle_of from_middle rounded mul div to_signed
transition_of s node = follow (middle_of s.spacing s.decay s.new_spacing s.place node) λ m. from_middle s m
