-- `held` meets its contract: the middle is tested, so that its cast is exact. Assumes nothing.
use Rattle.lattice.specs.laws.Bounds.{within-numbered}
use Rattle.lattice.specs.laws.CastOrder.{middle_in, middle-within}
use Rattle.lattice.specs.laws.Making.{held}
use Rattle.lattice.proofs.Signed.{back-numbered}
use Rattle.lattice.proofs.Laws.{transitions}
use Rattle.lattice.proofs.node.held.Goals.{then-middle-via-then-middle, then-middle-via-else-middle+then-middle-2}
use Rattle.lattice.proofs.node.held.Goals as goal

pub returns-then-middle : goal.returns-then-middle
unfolding held
returns-then-middle c =
    elim c.then-middle.branch [
      | then-middle-via-then-middle w ↦ search transitions
      | then-middle-via-else-middle+then-middle-2 w ↦ search transitions
    ]

pub float_to_int-result : goal.float_to_int-result
float_to_int-result c = middle_in c.args.middle c.requires c.if-middle.false c.if-middle-2.false

pub returns : goal.returns
unfolding held
returns c =
    let w = middle-within c.args.middle c.requires c.if-middle.false c.if-middle-2.false in
    rw (c.if-middle.false, c.if-middle-2.false, back-numbered (within-numbered w))
