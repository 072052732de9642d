-- `clamped` meets its contract: the three numbers are clamped, then divided by their total. Assumes nothing.
use Rattle.lattice.specs.laws.Bounds.{within-numbered}
use Rattle.lattice.proofs.Signed.{back-numbered}
use Rattle.lattice.proofs.Fused.{clamped-shares}
use Rattle.lattice.proofs.node.clamped.Goals as goal

pub returns : goal.returns
returns c =
    rw (
      ← clamped-shares c.args.middle c.args.down c.args.mid c.args.up c.args.place,
      ← c.greater-d.ensures,
      ← c.greater-m.ensures,
      ← c.greater-u.ensures,
    )
    (rw (back-numbered (within-numbered c.requires)) at c.shares.ensures)
