-- `nothing_below` meets its contract: two below the first middle nothing is reached. Assumes nothing.
use Rattle.lattice.proofs.Signed.{two_less_fits, two_less_is}
use Rattle.lattice.proofs.reach.nothing_below.Goals as goal

pub overflow_sub-result : goal.overflow_sub-result
overflow_sub-result c = two_less_fits c.args.middle c.requires

pub returns : goal.returns
returns c = rw (two_less_is c.args.middle c.requires)
