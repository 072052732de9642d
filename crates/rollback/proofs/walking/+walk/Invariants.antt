-- The measure of `walking::walk` is how many layers are behind.
use lib.ListN.{length}
use Rattle.rollback.proofs.walking.+walk.Given as goal

abbrev pub decreases-walk : goal.decreases-walk
decreases-walk l = length l.lattice.spacings.now
