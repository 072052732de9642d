-- `whose_field` meets its contract. Assumes nothing.
use mathlib.Core.Path.{◌≡◌, refl}
use lib.Ieee.{binary64, of_int, of_bits}
use Rattle.terms.specs.Numbers.{float}
use Rattle.terms.proofs.Laws.{tests}
use Rattle.places.specs.Places.{whose_field}
use Rattle.places.proofs.numbers.whose_field.Goals as goal

-- the limits of alpha and of the spread
ten : float 10 ≡ of_bits binary64 0x4024_0000_0000_0000
unfolding of_int of_bits
ten = refl

one_is : float 1 ≡ of_bits binary64 0x3ff0_0000_0000_0000
unfolding of_int of_bits
one_is = refl

pub returns-then-not_above : goal.returns-then-not_above
unfolding whose_field
returns-then-not_above c = search tests depth 12

pub returns-then-not_within : goal.returns-then-not_within
unfolding whose_field
returns-then-not_within c = simp (ten, one_is) (search tests depth 12)

pub returns-then-not_within-2 : goal.returns-then-not_within-2
unfolding whose_field
returns-then-not_within-2 c = simp (ten, one_is) (search tests depth 12)

pub returns : goal.returns
unfolding whose_field
returns c = simp (ten, one_is) (search tests depth 12)
