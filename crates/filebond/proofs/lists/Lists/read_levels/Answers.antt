-- `lists::Lists::read_levels` meets its contract. Assumes nothing.
use mathlib.Core.Path.{ap}
use Rattle.std.proofs.Common.{rules}
use Rattle.filebond.specs.Lists.{market_held, with_levels}
use Rattle.filebond.proofs.Stored.{sigma-held}
use Rattle.filebond.proofs.lists.Lists.read_levels.Goals as goal

pub returns-clause-market : goal.returns-clause-market
returns-clause-market c = ap (with_levels (market_held c.args.self.now)) (sigma-held (search rules) (search rules) c.sigmas_of-self.ensures)
