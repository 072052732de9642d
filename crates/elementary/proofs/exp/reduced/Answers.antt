-- `exp::reduced` meets its contract: k is a whole number from -1010 to 1010. Assumes nothing.
use Rattle.elementary.specs.laws.Steps.{quotient-finite, steps-step}
use Rattle.elementary.proofs.exp.reduced.Goals as goal

pub near-k-requires : goal.near-k-requires
near-k-requires c = quotient-finite _ c.requires

pub power_of_two-requires : goal.power_of_two-requires
power_of_two-requires c = rw c.near-k.ensures (steps-step _ c.requires)
