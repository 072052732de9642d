-- `first_numbers` meets its contract. Assumes nothing.
use Rattle.std.proofs.Common.{rules}
use Rattle.bondfile.specs.Entries.{first_number}
use Rattle.bondfile.proofs.lists.first_numbers.Goals as goal

pub returns : goal.returns
returns c = c.store_said.ensures (λ e. first_number e.entry) (λ x r q. search rules)
