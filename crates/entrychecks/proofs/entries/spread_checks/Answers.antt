-- `spread_checks` meets its contract: the limit in the code is the definition's. Assumes nothing.
use Rattle.terms.specs.Entries.{spread_checks}
use Rattle.entrychecks.proofs.entries.spread_checks.Goals as goal

pub returns : goal.returns
unfolding spread_checks
returns c = c.market_checks.ensures
