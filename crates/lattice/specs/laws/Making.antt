-- How a transition is made, in the parts in which the code makes it. Assumes nothing.
use Rattle.std.specs.Prelude.{ℕ, refl, Bool, cond, ◌||◌, ℤ, Float, Ok}
use Rattle.std.proofs.Math.Path.{◌≡◌}
use Rattle.std.proofs.Math.Bool.{true, false, not}
use Rattle.std.proofs.Common.{arith}
use Rattle.std.proofs.Math.Dec.{T}
use Rattle.std.proofs.Math.IntN.{pred_ℤ, suc_ℤ}
use Rattle.std.specs.Float.{binary64}
use Rattle.std.specs.Float.Ieee.{add, sub, mul, div, to_signed, of_bits, of_int, fits}
use Rattle.std.specs.Float.Ieee.Scale.{finite}
use Rattle.floats.specs.Answers.{one, two, not_finite, on_outcome, Outcome, when_finite, refusal}
use Rattle.floats.specs.Whole.{rounded}
use Rattle.floats.specs.laws.Whole.{round-answers}
use Rattle.terms.specs.Numbers.{float}
use Rattle.lattice.specs.declared.Middle.{Middle}
use Rattle.lattice.specs.declared.Transition.{Transition}
use Rattle.lattice.specs.Layers.{node_float}
use Rattle.lattice.specs.Transitions.{Step, too_far, too_low, clamped, probabilities, middle_of, from_middle}
use Rattle.floats.specs.declared.Reason.TheVariants as reason

abbrev pub step_from : Float → Float → Float → Float → Float → ℕ → Step
step_from spacing decay new denominator scale place =
    record { spacing = spacing; decay = decay; new_spacing = new; denominator = denominator; scale = scale; place = place }

-- Three numbers that are not below 0, divided by their total.
unfoldable pub shares : ℤ → Float → Float → Float → ℕ → Outcome Transition
shares middle d m u place =
    when_finite (add binary64 d m) place λ part.
    when_finite (add binary64 part u) place λ total.
    when_finite (div binary64 d total) place λ pd.
    when_finite (div binary64 m total) place λ pm.
    when_finite (div binary64 u total) place λ pu.
    Ok
    (record {
      down = pred_ℤ middle;
      middle = middle;
      up = suc_ℤ middle;
      probability_down = pd;
      probability_middle = pm;
      probability_up = pu;
    })

-- 6 and 3 as the code writes them.
abbrev pub six : Float
six = of_bits binary64 0x4018_0000_0000_0000

abbrev pub three : Float
three = of_bits binary64 0x4008_0000_0000_0000

six_is : float 6 ≡ six
unfolding of_int of_bits
six_is = refl

three_is : float 3 ≡ three
unfolding of_int of_bits
three_is = refl

-- Probabilities from the error and the two divisors, 24.
unfoldable pub chances : ℤ → Float → Float → Float → ℕ → Outcome Transition
chances middle error denominator scale place =
    when_finite (mul binary64 error error) place λ square.
    when_finite (div binary64 square denominator) place λ term.
    when_finite (add binary64 (div binary64 one six) term) place λ a.
    when_finite (div binary64 error scale) place λ skew.
    when_finite (sub binary64 a skew) place λ down.
    when_finite (mul binary64 term two) place λ twice.
    when_finite (sub binary64 (div binary64 two three) twice) place λ mid.
    when_finite (add binary64 a skew) place λ up.
    cond (too_low down || (too_low mid || too_low up)) (refusal reason.Probability place) (clamped middle down mid up place)

pub chances-probabilities : (s : Step) (middle : ℤ) (error : Float) → chances middle error s.denominator s.scale s.place ≡ probabilities s middle error
unfolding chances probabilities
chances-probabilities s middle error = rw (← six_is, ← three_is)

-- From the middle on: error and probabilities.
unfoldable pub centred : Middle → Float → Float → Float → ℕ → Outcome Transition
centred m new denominator scale place =
    when_finite (mul binary64 new m.middle) place λ centre.
    when_finite (sub binary64 m.expectation centre) place λ error. chances m.node error denominator scale place

pub centred_from : (s : Step) (m : Middle) → centred m s.new_spacing s.denominator s.scale s.place ≡ from_middle s m
unfolding centred from_middle
centred_from s m = simp (chances-probabilities s)

-- 23, else the middle, as a node number too.
unfoldable pub held : Float → Float → ℕ → Outcome Middle
held expectation middle place =
    cond (too_far middle) (refusal reason.NodeTooFar place)
    (Ok (record { expectation = expectation; middle = middle; node = to_signed 31 middle }))

-- Where state, expectation and quotient are finite.
module _ (s : Step) (node : ℤ) where
  abbrev pub state_of : Float
  state_of = mul binary64 s.spacing (node_float node)

  abbrev pub expectation_of : Float
  expectation_of = mul binary64 state_of s.decay

  abbrev pub quotient_of : Float
  quotient_of = div binary64 expectation_of s.new_spacing

  pub from_rounded : T (fits binary64 quotient_of) → not_finite state_of ≡ false → not_finite expectation_of ≡ false → not_finite quotient_of ≡ false
      → middle_of s.spacing s.decay s.new_spacing s.place node ≡ held expectation_of (rounded quotient_of) s.place
  unfolding middle_of held on_outcome
  from_rounded f a b c = rw (a, b, round-answers quotient_of s.place f (finite_of (finite quotient_of) c), c)
    where
      finite_of : (b : Bool) → not b ≡ false → T b
      finite_of true e = tt
      finite_of false e = let z : ◌≡◌ {A = ℕ} 0 1 = cc in absurd (omega arith)
