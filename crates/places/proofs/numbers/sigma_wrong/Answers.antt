-- `sigma_wrong` meets its contract. Assumes nothing.
use lib.Ieee.{of_int, of_bits}
use Rattle.terms.proofs.Laws.{tests}
use Rattle.places.specs.Places.{sigma_wrong}
use Rattle.places.proofs.numbers.sigma_wrong.Goals as goal

pub returns-then-up_to_wrong : goal.returns-then-up_to_wrong
unfolding sigma_wrong of_int of_bits
returns-then-up_to_wrong c = search tests

pub returns : goal.returns
unfolding sigma_wrong of_int of_bits
returns c = search tests
