-- `objectives::objective` meets its contract. Assumes nothing.
use Rattle.sought.specs.laws.Seeking.{at_yield-sought, ready-yield, at_spread-sought, ready-spread}
use Rattle.sought.proofs.objectives.objective.Goals as goal

pub at_yield-requires : goal.at_yield-requires
at_yield-requires c = ready-yield _ c.in-Cashflows.is _ _ c.requires

pub at_spread-requires : goal.at_spread-requires
at_spread-requires c = ready-spread _ c.in-Tree.is _ _ c.requires

pub returns-in-Cashflows : goal.returns-in-Cashflows
returns-in-Cashflows c = at_yield-sought _ c.in-Cashflows.is _ _ c.at_yield.ensures

pub returns-in-Tree : goal.returns-in-Tree
returns-in-Tree c = at_spread-sought _ c.in-Tree.is _ _ c.at_spread.ensures
