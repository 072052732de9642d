-- `dates::date_within` meets its contract. Assumes nothing.
use Rattle.std.proofs.Common.{rules}
use Rattle.calendar.specs.laws.Search.{found}
use Rattle.calendar.proofs.dates.date_within.Goals as goal

pub returns : goal.returns
returns c = search (found, rules)
