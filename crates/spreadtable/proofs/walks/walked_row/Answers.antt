-- `walks::walked_row` meets its contract. Assumes nothing.
use Rattle.floats.proofs.Laws.{answers}
use Rattle.spreadtable.specs.laws.Filling.{fill-turn, fill_done}
use Rattle.spreadtable.proofs.Lanes.{rows-turn}
use Rattle.spreadtable.proofs.walks.walked_row.Goals as goal

pub loop-spread-preserved : goal.loop-spread-preserved
loop-spread-preserved c = search (fill-turn, rows-turn, answers)

pub returns : goal.returns
returns c = search (fill_done, answers)
