-- `flow_kinds` meets its contract. Assumes nothing.
use Rattle.std.proofs.Common.{rules}
use Rattle.bondfile.specs.Entries.{flow_kind}
use Rattle.bondfile.proofs.lists.flow_kinds.Goals as goal

pub returns : goal.returns
returns c = c.store_said.ensures (λ e. flow_kind e.entry) (λ x r q. search rules)
