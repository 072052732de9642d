-- `first_wholes` meets its contract. Assumes nothing.
use Rattle.std.proofs.Common.{rules}
use Rattle.bondfile.specs.Entries.{first_whole}
use Rattle.bondfile.proofs.lists.first_wholes.Goals as goal

pub returns : goal.returns
returns c = c.store_said.ensures (λ e. first_whole e.entry) (λ x r q. search rules)
