-- The measure is how many variances are left. Assumes nothing.
use lib.ListN.{length}
use Rattle.latticetransitions.proofs.curved.+layers.Given as goal

abbrev pub decreases-layers : goal.decreases-layers
decreases-layers l = length l.variances.now
