-- `combine` meets its contract: the sum, or the difference in the order that the test found.
use mathlib.Core.Path.{refl}
use Rattle.rounded.proofs.mul_add.Aligning.{added, first_more, second_more, same_signs, other-signs}
use Rattle.rounded.proofs.mul_add.combine.Goals as goal

pub returns-then-x-y : goal.returns-then-x-y
returns-then-x-y c =
    let x = c.args.x in
    let y = c.args.y in
    rw (← c.requires.same) (added x.neg y.neg x.digits y.digits _ x.place (same_signs x.neg y.neg c.if-x-y.true) refl c.unless_zero.ensures)

pub returns-then-x-y-2 : goal.returns-then-x-y-2
returns-then-x-y-2 c =
    let x = c.args.x in
    let y = c.args.y in
    rw c.requires.same (second_more x.neg y.neg x.digits y.digits _ y.place (other-signs x.neg y.neg c.if-x-y.false) refl c.if-x-y-2.true c.unless_zero-then-x-y-2.ensures)

pub returns-else-x-y-2 : goal.returns-else-x-y-2
returns-else-x-y-2 c =
    let x = c.args.x in
    let y = c.args.y in
    rw (← c.requires.same) (first_more x.neg y.neg x.digits y.digits _ x.place (other-signs x.neg y.neg c.if-x-y.false) refl c.if-x-y-2.false c.unless_zero-else-x-y-2.ensures)
