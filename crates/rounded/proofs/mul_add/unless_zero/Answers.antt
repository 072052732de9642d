-- `unless_zero` meets its contract: what is not 0 is rounded as it is.
use mathlib.Core.Path.{◌∙◌}
use Prim.Native.Nat.{◌*◌, ◌^◌}
use Rattle.rounded.specs.laws.Packing.{scale}
use Rattle.rounded.specs.laws.Sums.{alone}
use Rattle.rounded.proofs.mul_add.Aligning.{some, none}
use Rattle.rounded.proofs.mul_add.unless_zero.Goals as goal

pub returns-then-digits-eq0 : goal.returns-then-digits-eq0
returns-then-digits-eq0 c = none c.args.neg c.args.digits c.args.place c.if-digits-eq0.true

pub returns-else-digits-eq0 : goal.returns-else-digits-eq0
returns-else-digits-eq0 c =
    let x = c.args in
    c.pack_wide.ensures ∙ alone x.neg (x.digits * 2 ^ x.place) (2 ^ scale) (some x.digits x.place c.if-digits-eq0.false)
