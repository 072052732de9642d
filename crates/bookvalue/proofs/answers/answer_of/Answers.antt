-- `answer_of` meets its contract: by the case of what was valued. Assumes nothing.
use mathlib.Core.Path.{◌∙◌}
use Rattle.bookvalue.proofs.laws.Answers.{answer-refused, answer-summed}
use Rattle.bookvalue.proofs.answers.answer_of.Goals as goal

pub returns-in-Err : goal.returns-in-Err
returns-in-Err c = c.refused_book.ensures ∙ answer-refused _ _ c.in-Err.is

pub returns-in-Ok : goal.returns-in-Ok
returns-in-Ok c = c.summed.ensures ∙ answer-summed _ _ c.in-Ok.is
