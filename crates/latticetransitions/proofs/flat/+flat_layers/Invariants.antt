-- The measure is how many spacings are left. Assumes nothing.
use lib.ListN.{length}
use Rattle.latticetransitions.proofs.flat.+flat_layers.Given as goal

abbrev pub decreases-flat_layers : goal.decreases-flat_layers
decreases-flat_layers l = length l.spacings.now
