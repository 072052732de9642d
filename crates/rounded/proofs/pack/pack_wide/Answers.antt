-- `pack_wide` meets its contract: `round` can't tell a number from its 64 leading digits, rounded to odd.
use mathlib.Core.Path.{◌∙◌}
use Prim.Native.Nat.{◌-◌}
use native.Mathlib.Omega.{arith}
use lib.Count.{count_leading_zeros}
use Rattle.rounded.proofs.pack.Numbers.{few-digits, leading, top-rounded}
use Rattle.rounded.proofs.pack.Places.{shortened}
use Rattle.rounded.proofs.pack.pack_wide.Goals as goal

pub overflow_cast-w : goal.overflow_cast-w
overflow_cast-w c = record { fits = few-digits c.args.w c.ranges.w.fits c.if-zeros-ge64.true }

pub pack_normal-requires : goal.pack_normal-requires
pack_normal-requires c =
    let o = top-rounded c.args.w c.ranges.w.fits c.if-zeros-ge64.false c.sticky-digits.result c.sticky-digits.ensures
    in ((leading c.args.w c.sticky-digits.result c.ranges.w.fits c.if-zeros-ge64.false o).0, omega arith)

pub returns : goal.returns
returns c =
    let o = top-rounded c.args.w c.ranges.w.fits c.if-zeros-ge64.false c.sticky-digits.result c.sticky-digits.ensures
    in c.pack_normal.ensures
    ∙ shortened c.args.neg c.args.w c.sticky-digits.result (64 - count_leading_zeros 128 c.args.w) c.args.e o
    (leading c.args.w c.sticky-digits.result c.ranges.w.fits c.if-zeros-ge64.false o).0
