-- The limits of the input checks are finite numbers, and so is 0. Assumes nothing.
use Rattle.std.specs.Prelude.{T}
use Rattle.std.specs.Float.Ieee.{of_bits, of_int}
use Rattle.std.specs.Float.Ieee.Scale.{finite}
use Rattle.floats.specs.Answers.{plus_zero}
use Rattle.terms.specs.Numbers.{float, amount_limit, million, target_limit}

pub zero-finite : T (finite plus_zero)
unfolding of_bits
zero-finite = tt

pub amount_limit-finite : T (finite amount_limit)
unfolding of_bits
amount_limit-finite = tt

pub million-finite : T (finite million)
unfolding of_bits
million-finite = tt

pub target_limit-finite : T (finite target_limit)
unfolding of_bits
target_limit-finite = tt

pub one_finite : T (finite (float 1))
unfolding of_int
one_finite = tt

pub ten-finite : T (finite (float 10))
unfolding of_int
ten-finite = tt

pub six_hundred_finite : T (finite (float 600))
unfolding of_int
six_hundred_finite = tt

pub thousand_finite : T (finite (float 1000))
unfolding of_int
thousand_finite = tt
