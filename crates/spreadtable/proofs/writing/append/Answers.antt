-- `writing::append` meets its contract. Assumes nothing.
use Rattle.floats.proofs.Laws.{answers}
use Rattle.spreadtable.proofs.Appending.{append-turn, append-done}
use Rattle.spreadtable.proofs.writing.append.Goals as goal

pub loop-byte-preserved : goal.loop-byte-preserved
loop-byte-preserved c = search (append-turn, answers)

pub returns : goal.returns
returns c = search (append-done, answers)
