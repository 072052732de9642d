-- `shares` meets its contract: the total's test stands for its first part's, and the two neighbours of the middle fit. Assumes nothing.
use Rattle.std.proofs.Common.{rules}
use Rattle.lattice.specs.laws.Bounds.{within-numbered}
use Rattle.lattice.proofs.Signed.{less_is, more_is, back-numbered}
use Rattle.lattice.proofs.Fused.{shares_by}
use Rattle.lattice.proofs.node.shares.Goals as goal

pub returns-in_err-total : goal.returns-in_err-total
returns-in_err-total c = let a = c.args in shares_by a.middle a.d a.m a.u a.place (search rules)

pub returns-in_err-tested : goal.returns-in_err-tested
returns-in_err-tested c = let a = c.args in shares_by a.middle a.d a.m a.u a.place (search rules)

pub returns-in_err-tested-2 : goal.returns-in_err-tested-2
returns-in_err-tested-2 c = let a = c.args in shares_by a.middle a.d a.m a.u a.place (search rules)

pub returns-in_err-tested-3 : goal.returns-in_err-tested-3
returns-in_err-tested-3 c = let a = c.args in shares_by a.middle a.d a.m a.u a.place (search rules)

pub returns : goal.returns
returns c =
    let a = c.args in
    rw (less_is a.middle c.requires, more_is a.middle c.requires, back-numbered (within-numbered c.requires)) (shares_by a.middle a.d a.m a.u a.place (search rules))
