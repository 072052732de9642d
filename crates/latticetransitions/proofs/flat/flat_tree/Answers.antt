-- `flat::flat_tree` meets its contract. Assumes nothing.
use lib.ListN.{length}
use Rattle.lattice.specs.laws.Growing.{room_left}
use Rattle.lattice.specs.laws.FlatLeft.{flat_left_lem}
use Rattle.latticetransitions.proofs.flat.flat_tree.Goals as goal

pub returns : goal.returns
returns c = rw (flat_left_lem (room_left c.args.nodes.now c.args.probabilities.now c.args.rows.first c.args.rows.second) (length c.args.spacings.now)) at c.flat_layers.ensures
