-- `reading::read` meets its contract. Assumes nothing.
use Rattle.std.proofs.Common.{rules}
use Rattle.decimal.specs.laws.Reading.{signed}
use Rattle.decimal.proofs.reading.read.Goals as goal

pub returns-in-45 : goal.returns-in-45
returns-in-45 c = search (signed, rules)
