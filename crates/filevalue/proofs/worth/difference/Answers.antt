-- `worth::difference` meets its contract. Assumes nothing.
use lib.Ieee.{sub}
use Rattle.floats.specs.Answers.{on_outcome}
use Rattle.floats.proofs.Laws.{answers}
use Rattle.filevalue.proofs.worth.difference.Goals as goal

pub returns-in_err-found : goal.returns-in_err-found
unfolding sub on_outcome
returns-in_err-found c = search answers

pub returns : goal.returns
unfolding sub on_outcome
returns c = search answers
