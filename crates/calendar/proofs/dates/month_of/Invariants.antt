-- `dates::month_of` meets its contract. Assumes nothing.
use Rattle.calendar.specs.laws.Search.{FromMonth}
use Rattle.calendar.proofs.dates.month_of.Given as goal

abbrev pub invariant-loop-rest : goal.invariant-loop-rest
invariant-loop-rest l = FromMonth l.year l.day l.month l.rest

abbrev pub decreases-loop-rest : goal.decreases-loop-rest
decreases-loop-rest l = l.rest
