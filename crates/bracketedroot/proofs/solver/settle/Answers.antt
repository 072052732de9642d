-- `solver::settle` meets its contract. Assumes nothing.
use Rattle.brackets.specs.Brackets.{settled}
use Rattle.brackets.proofs.Laws.{left_not, taken_not}
use Rattle.interestrate.proofs.Laws.{prices}
use Rattle.bracketedroot.proofs.solver.settle.Goals as goal

pub returns-then-is_small : goal.returns-then-is_small
unfolding settled
returns-then-is_small c = search prices

pub returns-then-is_small-2 : goal.returns-then-is_small-2
unfolding settled
returns-then-is_small-2 c = search prices

pub returns-then-falls : goal.returns-then-falls
unfolding settled
returns-then-falls c = search (prices, left_not)

pub returns : goal.returns
unfolding settled
returns c = search (prices, taken_not)
