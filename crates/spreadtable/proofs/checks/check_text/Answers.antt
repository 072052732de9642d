-- `checks::check_text` meets its contract. Assumes nothing.
use Rattle.floats.proofs.Laws.{answers}
use Rattle.spreadtable.proofs.Texts.{of_passed, of_refused}
use Rattle.spreadtable.proofs.checks.check_text.Goals as goal

pub returns-in-Ok : goal.returns-in-Ok
returns-in-Ok c = search (of_passed, answers)

pub returns-in-Err : goal.returns-in-Err
returns-in-Err c = search (of_refused, answers)
