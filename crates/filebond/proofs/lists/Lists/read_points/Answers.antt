-- `lists::Lists::read_points` meets its contract. Assumes nothing.
use mathlib.Core.Path.{ap}
use Rattle.std.proofs.Common.{rules}
use Rattle.filebond.specs.Lists.{market_held, with_points}
use Rattle.filebond.proofs.Stored.{pillars-held}
use Rattle.filebond.proofs.lists.Lists.read_points.Goals as goal

pub returns-clause-market : goal.returns-clause-market
returns-clause-market c = ap (with_points (market_held c.args.self.now)) (pillars-held (search rules) (search rules) c.pillars_of-self.ensures)
