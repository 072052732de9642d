-- `centred` meets its contract: an error that isn't finite is refused by its square. Assumes nothing.
use Rattle.lattice.specs.laws.Bounds.{within-numbered}
use Rattle.lattice.proofs.Signed.{back-numbered}
use Rattle.lattice.proofs.Fused.{centred-fused}
use Rattle.lattice.proofs.node.centred.Goals as goal

pub returns : goal.returns
returns c = rw centred-fused (rw (back-numbered (within-numbered c.requires)) at c.probabilities.ensures)
