-- `reached_one` meets its contract: by the test on the highest node reached. Assumes nothing.
use mathlib.Core.Path.{sym}
use mir.Facts.{to_z-of_z}
use Rattle.lattice.specs.laws.Reaching.{one_more, no_more}
use Rattle.lattice.proofs.Signed.{below_by}
use Rattle.lattice.proofs.reach.reached_one.Goals as goal

pub returns-then-top-node : goal.returns-then-top-node
returns-then-top-node c =
    let s = c in
    let e = to_z-of_z s.ranges.node in
    rw e
    (sym (one_more s.args.r s.args.node (below_by s.args.r.top s.args.node (record { sfits = c.struct_told-1.given.0.1 }) s.ranges.node c.if-top-node.true)))

pub returns : goal.returns
returns c =
    let s = c in
    sym (no_more s.args.r s.args.node (below_by s.args.r.top s.args.node (record { sfits = c.struct_told-1.given.0.1 }) s.ranges.node c.if-top-node.false))
