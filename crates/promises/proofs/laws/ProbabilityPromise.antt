-- The promises of Probabilities.antt: a probability is at least 0.04 before clamping and between 0 and 1 behind it, and 24 is never given. Assumes nothing.
use Rattle.std.specs.Prelude.{refl, List}
use Rattle.std.proofs.Common.{lit≤}
use Rattle.std.specs.Float.Ieee.{of_bits}
use Rattle.lattice.specs.declared.Transition.{Transition}
use Rattle.lattice.specs.laws.Proper.{Weighted, Each, none, more}
use Rattle.lattice.proofs.theorems.Proper.{proper_of_lattice}
use Rattle.chances.proofs.laws.Chances.{step-made, transition_clamps, at_least_four_hundredths}
use Rattle.promises.specs.Probabilities.{FourHundredths, AtLeastFourHundredths, HandedOn, BetweenZeroAndOne, NeverGiven24}
use Rattle.promises.proofs.laws.TreeNumbers.{tree_never_24}
use Rattle.promises.proofs.laws.SpreadNumbers.{spread_never_24}

pub four_hundredths : FourHundredths
unfolding of_bits
four_hundredths = record { bits = refl; not_below_lem = lit≤ tt }

pub before_clamping : AtLeastFourHundredths
before_clamping spacing decay variance k n v f low high =
    let p = at_least_four_hundredths spacing decay variance k n v f low high in
    record {
      step = step-made spacing decay variance k n v f;
      transition = transition_clamps spacing decay variance k n v f low high;
      down = p.down_least;
      middle = p.middle-least;
      up = p.up_least;
    }

every : {A : Type 0} {P Q : A → Type 0} → ((x : A) → P x → Q x) → {xs : List A} → Each P xs → Each Q xs
every h none = none
every h (more {x = x} p ps) = more (h x p) (every h ps)

handed_on : (t : Transition) → Weighted t → HandedOn t
handed_on t w =
    record {
      down = record { at_least = w.down.above; at_most = w.down_most };
      middle = record { at_least = w.middle.above; at_most = w.middle-most };
      up = record { at_least = w.up.above; at_most = w.up_most };
    }

pub between_zero_and_one : BetweenZeroAndOne
between_zero_and_one room alpha dt variances t e = every (λ l ws. every handed_on ws) (proper_of_lattice room alpha dt variances t e)

pub never_given_24 : NeverGiven24
never_given_24 = record { tree_value_lem = tree_never_24; spread_from_price_lem = spread_never_24 }
