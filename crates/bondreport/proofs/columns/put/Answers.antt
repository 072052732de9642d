-- `columns::put` meets its contract. Assumes nothing.
use Rattle.std.proofs.Common.{arith, rules}
use Rattle.bondreport.proofs.Putting.{copied}
use Rattle.bondreport.proofs.columns.put.Goals as goal

pub returns : goal.returns
returns c = copied _ _ _ (search rules) c.min-start.ensures c.min-n.ensures (omega arith) c.copy_from_slice.ensures.after
