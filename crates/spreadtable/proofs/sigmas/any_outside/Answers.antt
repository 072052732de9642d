-- `sigmas::any_outside` meets its contract. Assumes nothing.
use borrow.Author.Rules.{rules}
use Rattle.floats.proofs.Laws.{answers}
use Rattle.spreadtable.proofs.Shifted.{look-found, look_on, look-done}
use Rattle.spreadtable.proofs.sigmas.any_outside.Goals as goal

pub returns-then-not_up_to : goal.returns-then-not_up_to
returns-then-not_up_to c = search (look-found, rules)

pub loop-sigma-preserved : goal.loop-sigma-preserved
loop-sigma-preserved c = search (look_on, rules)

pub returns : goal.returns
returns c = search (look-done, answers)
