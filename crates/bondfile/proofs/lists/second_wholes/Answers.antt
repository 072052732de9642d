-- `second_wholes` meets its contract. Assumes nothing.
use Rattle.std.proofs.Common.{rules}
use Rattle.bondfile.specs.Entries.{second_whole}
use Rattle.bondfile.proofs.lists.second_wholes.Goals as goal

pub returns : goal.returns
returns c = c.store_said.ensures (λ e. second_whole e.entry) (λ x r q. search rules)
