-- `spread_range` meets its contract: the limit in the code is the definition's. Assumes nothing.
use lib.Ieee.{of_int, of_bits}
use Rattle.terms.proofs.fields.spread_range.Goals as goal

pub returns : goal.returns
unfolding of_int of_bits
returns c = c.within.ensures
