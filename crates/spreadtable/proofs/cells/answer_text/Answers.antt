-- `cells::answer_text` meets its contract. Assumes nothing.
use Rattle.floats.proofs.Laws.{answers}
use Rattle.spreadtable.proofs.Texts.{of_value_lem, of_refusal}
use Rattle.spreadtable.proofs.cells.answer_text.Goals as goal

pub returns-in-Ok : goal.returns-in-Ok
returns-in-Ok c = search (of_value_lem, answers)

pub returns-in-Err : goal.returns-in-Err
returns-in-Err c = search (of_refusal, answers)
