-- `sigma_wrong` meets its contract: the limits in the code are the definition's. Assumes nothing.
use lib.Ieee.{of_int, of_bits}
use Rattle.terms.proofs.Laws.{tests}
use Rattle.terms.proofs.sigma.sigma_wrong.Goals as goal

pub returns-then-not_up_to : goal.returns-then-not_up_to
unfolding of_int of_bits
returns-then-not_up_to c = search tests

pub returns-else-not_up_to : goal.returns-else-not_up_to
unfolding of_int of_bits
returns-else-not_up_to c = search tests
