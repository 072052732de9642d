-- `rows::stopped_cell` meets its contract. Assumes nothing.
use lib.Ieee.{of_int, of_bits}
use Rattle.floats.proofs.Laws.{answers}
use Rattle.spreadtable.proofs.rows.stopped_cell.Goals as goal

pub returns-then-not_within : goal.returns-then-not_within
unfolding of_int of_bits
returns-then-not_within c = search answers

pub returns : goal.returns
unfolding of_int of_bits
returns c = search answers
