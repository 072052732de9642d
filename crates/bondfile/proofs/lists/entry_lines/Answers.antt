-- `entry_lines` meets its contract. Assumes nothing.
use Rattle.std.proofs.Common.{rules}
use Rattle.bondfile.proofs.lists.entry_lines.Goals as goal

pub returns : goal.returns
returns c = c.store_said.ensures (λ e. e.line) (λ x r q. search (rules, q))
