-- `same_number` meets its contract: two equal floats above 0 have the same bits. Assumes nothing.
use borrow.Author.Rules.{rules}
use Rattle.layers.specs.laws.Known.{same_above, not_same}
use Rattle.layers.proofs.grow.same_number.Goals as goal

pub returns-then-b : goal.returns-then-b
returns-then-b c = search (same_above, rules)

pub returns-else-b : goal.returns-else-b
returns-else-b c = not_same _ _

pub returns-else-a : goal.returns-else-a
returns-else-a c = not_same _ _
