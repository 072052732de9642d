-- `summed` meets its contract: by the case of the sum. Assumes nothing.
use mathlib.Core.Path.{◌∙◌}
use Rattle.bookvalue.proofs.laws.Answers.{summed-sum, summed-refused}
use Rattle.bookvalue.proofs.answers.summed.Goals as goal

pub returns-in-Ok : goal.returns-in-Ok
returns-in-Ok c = summed-sum _ _ _ _ c.sum_of.ensures c.in-Ok.is c.desk_counts.ensures

pub returns-in-Err : goal.returns-in-Err
returns-in-Err c = c.refused_book.ensures ∙ summed-refused _ _ _ _ c.sum_of.ensures c.in-Err.is
