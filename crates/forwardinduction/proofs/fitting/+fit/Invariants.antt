-- The measure of `fitting::fit` is the number of layers that are left.
use lib.ListN.{length}
use Rattle.forwardinduction.proofs.fitting.+fit.Given as goal

abbrev pub decreases-fit : goal.decreases-fit
decreases-fit l = length l.spacings.now
