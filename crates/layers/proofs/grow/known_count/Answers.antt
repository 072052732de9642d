-- `known_count` meets its contract: by its two tests. Assumes nothing.
use Rattle.layers.specs.laws.Known.{none-known, all_known}
use Rattle.layers.proofs.grow.known_count.Goals as goal

pub returns-then-same_number-2 : goal.returns-then-same_number-2
returns-then-same_number-2 c = all_known (c.same_number.ensures.same c.if-same_number.true) (c.same_number-then-same_number.ensures.same c.if-same_number-2.true)

pub returns-else-same_number-2 : goal.returns-else-same_number-2
returns-else-same_number-2 c = none-known

pub returns-else-same_number : goal.returns-else-same_number
returns-else-same_number c = none-known
