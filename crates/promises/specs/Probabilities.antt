-- Definitions only. Document 02, Ask 9: what is promised of the probabilities of a transition, and of 24. Each is proved in laws/ProbabilityPromise.antt.
use Rattle.std.specs.Prelude.{ℕ, ◌*◌, ◌≤◌, ◌≡◌, List, T, ℤ, Float, Ok}
use Rattle.std.specs.Float.{binary64}
use Rattle.std.specs.Float.Ieee.{of_bits, neg, le, lt, to_signed}
use Rattle.std.specs.Float.Ieee.Positive.{num, den}
use Rattle.floats.specs.Answers.{plus_zero, one}
use Rattle.terms.specs.Numbers.{epsilon, million}
use Rattle.terms.specs.Terms.{CallSchedule, Market}
use Rattle.lattice.specs.declared.Transition.{Transition}
use Rattle.lattice.specs.Layers.{Room}
use Rattle.lattice.specs.Transitions.{Step, clamped, transition_of}
use Rattle.lattice.specs.Lattice.{Layer, Lattice, step_of, lattice}
use Rattle.lattice.specs.laws.Proper.{Each}
use Rattle.chances.specs.Unclamped.{least_probability, step_over, middle_of, down_of, mid_of, up_of, EveryResultFinite}
use Rattle.treebasedbondpricer.specs.Tree.{tree_value, number_of}
use Rattle.brackets.specs.Brackets.{root_number}
use Rattle.spreads.specs.Spreads.{Quoted, spread_from_price}

-- 0.04 is given as the double nearest to it, which as a fraction is not below 4/100.
pub record FourHundredths : Type 0 where
  pub bits : least_probability ≡ of_bits binary64 0x3fa4_7ae1_47ae_147b
  pub not_below_lem : 4 * den least_probability ≤ 100 * num least_probability

-- Each probability before clamping is at least 0.04; these three are what `transitionOf` clamps, in the step that `step_of` makes.
pub record BeforeClamping (spacing decay variance : Float) (k : ℕ) (s : Step) (n : ℤ) : Type 0 where
  pub step : step_of spacing decay variance k ≡ Ok s
  pub transition : transition_of s n ≡ clamped (to_signed 31 (middle_of s n)) (down_of s n) (mid_of s n) (up_of s n) k
  pub down : T (le least_probability (down_of s n))
  pub middle : T (le least_probability (mid_of s n))
  pub up : T (le least_probability (up_of s n))

-- Once a middle node is within one million and every result is finite, each probability before clamping is at least 0.04, rounding included: for every variance above 2^−52.
abbrev pub AtLeastFourHundredths : Type 0
AtLeastFourHundredths =
    (spacing decay variance : Float) (k : ℕ) (n : ℤ)
    → T (lt epsilon variance)
    → EveryResultFinite variance (step_over spacing decay variance k) n
    → T (le (neg million) (middle_of (step_over spacing decay variance k) n))
    → T (le (middle_of (step_over spacing decay variance k) n) million)
    → BeforeClamping spacing decay variance k (step_over spacing decay variance k) n

-- Each one handed on is between 0 and 1: every probability of every transition of every tree.
pub record Between (p : Float) : Type 0 where
  pub at_least : T (le plus_zero p)
  pub at_most : T (le p one)

pub record HandedOn (t : Transition) : Type 0 where
  pub down : Between t.probability_down
  pub middle : Between t.probability_middle
  pub up : Between t.probability_up

abbrev pub BetweenZeroAndOne : Type 0
BetweenZeroAndOne =
    (room : Room) (alpha dt : Float) (variances : List Float) (t : Lattice)
    → lattice room alpha dt variances ≡ Ok t
    → Each (λ (l : Layer). Each HandedOn l.transitions) t.layers

-- 24 is never given, whatever the input.
pub record NeverGiven24 : Type 0 where
  pub tree_value_lem : (m : Market) (calls : CallSchedule) (room : Room) → number_of (tree_value m calls room) ≡ 24 → ⊥
  pub spread_from_price_lem : (asked : Quoted) (calls : CallSchedule) (room : Room) → root_number (spread_from_price asked calls room) ≡ 24 → ⊥
