-- `lattice_value` meets its contract: the grid's calls as marks and prices, then the value (`Valued`). Assumes nothing.
use Rattle.treebasedbondpricer.specs.laws.Valued.{value_with-calls}
use Rattle.latticevalue.proofs.value.lattice_value.Goals as goal

pub returns : goal.returns
returns c = value_with-calls _ _ _ _ c.value_over.ensures c.step_marks-marks.ensures c.step_prices-prices.ensures
