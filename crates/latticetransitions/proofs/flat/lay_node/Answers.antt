-- `flat::lay_node` meets its contract. Assumes nothing.
use Rattle.lattice.specs.laws.Fronts.{set_one, set_two}
use Rattle.latticetransitions.proofs.flat.lay_node.Goals as goal

pub returns : goal.returns
returns c = (set_one c.args.counts.now _ c.requires.0, set_two c.args.nodes.now _ _ c.requires.1)
