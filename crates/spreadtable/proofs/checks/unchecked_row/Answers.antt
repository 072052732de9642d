-- `checks::unchecked_row` meets its contract. Assumes nothing.
use borrow.Author.Rules.{rules}
use Rattle.floats.proofs.Laws.{answers}
use Rattle.spreadtable.proofs.Texts.{checked_as}
use Rattle.spreadtable.specs.laws.Filling.{fill-turn, fill_done}
use Rattle.spreadtable.proofs.checks.unchecked_row.Goals as goal

pub loop-spread-preserved : goal.loop-spread-preserved
loop-spread-preserved c = search (fill-turn, checked_as, rules)

pub returns : goal.returns
returns c = search (fill_done, answers)
