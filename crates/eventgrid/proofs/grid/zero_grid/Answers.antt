-- `bondevents::grid::zero_grid` meets its contract: 513 zeros and 513 steps without a call price. Assumes nothing.
use mathlib.Core.Path.{ap}
use lib.ListN.{replicate}
use Rattle.floats.specs.Answers.{plus_zero}
use Rattle.bondevents.specs.declared.CallStep.{CallStep}
use Rattle.bondevents.specs.Parts.{no_grid}
use Rattle.eventgrid.proofs.grid.zero_grid.Goals as goal

pub returns : goal.returns
unfolding no_grid
returns c = ap (λ (n : CallStep). record { maturity_time = plus_zero; steps = 0; cashflows = replicate 513 plus_zero; calls = replicate 513 n }) c.new-none.ensures
