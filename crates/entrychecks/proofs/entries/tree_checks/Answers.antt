-- `tree_checks` meets its contract: the limit in the code is the definition's. Assumes nothing.
use lib.Ieee.{of_int, of_bits}
use Rattle.terms.specs.Entries.{tree_checks}
use Rattle.entrychecks.proofs.entries.tree_checks.Goals as goal

pub returns : goal.returns
unfolding tree_checks of_int of_bits
returns c = c.market_checks.ensures
