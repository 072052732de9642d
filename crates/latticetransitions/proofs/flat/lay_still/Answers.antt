-- `flat::lay_still` meets its contract. Assumes nothing.
use Rattle.lattice.specs.laws.Fronts.{set_one, set_three}
use Rattle.latticetransitions.proofs.flat.lay_still.Goals as goal

pub returns : goal.returns
returns c = (set_one c.args.spacings.now _ c.requires.0, set_three c.args.probabilities.now _ _ _ c.requires.1)
