-- `spacing_of` meets its contract: by the test. Assumes nothing.
use Rattle.std.proofs.Common.{rules}
use Rattle.lattice.specs.laws.MadeSteps.{spacing_by}
use Rattle.layers.proofs.grow.spacing_of.Goals as goal

pub returns-in_err-tested : goal.returns-in_err-tested
returns-in_err-tested c = spacing_by c.args.variance c.args.place (search rules)

pub returns : goal.returns
returns c = spacing_by c.args.variance c.args.place (search rules)
