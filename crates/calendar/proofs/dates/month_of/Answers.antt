-- `dates::month_of` meets its contract. Assumes nothing.
use Rattle.std.proofs.Common.{rules}
use Rattle.calendar.specs.laws.Search.{start_month, next_month}
use Rattle.calendar.proofs.dates.month_of.Goals as goal

pub loop-rest-init : goal.loop-rest-init
loop-rest-init c = start_month _ _

pub loop-rest-preserved : goal.loop-rest-preserved
loop-rest-preserved c = search (next_month, rules)
