-- `divisors` meets its contract: by the tests. Assumes nothing.
use Rattle.std.proofs.Common.{rules}
use Rattle.lattice.specs.laws.MadeSteps.{step_with}
use Rattle.layers.proofs.grow.divisors.Goals as goal

pub returns-in_err-denominator : goal.returns-in_err-denominator
unfolding step_with
returns-in_err-denominator c = search rules

pub returns-in_err-scale : goal.returns-in_err-scale
unfolding step_with
returns-in_err-scale c = search rules

pub returns : goal.returns
unfolding step_with
returns c = search rules
