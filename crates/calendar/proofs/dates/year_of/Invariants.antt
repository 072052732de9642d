-- `dates::year_of` meets its contract. Assumes nothing.
use Rattle.calendar.specs.laws.Search.{FromYear}
use Rattle.calendar.proofs.dates.year_of.Given as goal

abbrev pub invariant-loop-rest : goal.invariant-loop-rest
invariant-loop-rest l = FromYear l.day l.year l.rest

abbrev pub decreases-loop-rest : goal.decreases-loop-rest
decreases-loop-rest l = l.rest
