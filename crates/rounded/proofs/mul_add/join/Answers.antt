-- `join` meets its contract: the sum can't tell the part that was moved down from what it was.
use Rattle.rounded.proofs.mul_add.Aligning.{addend_down, product_down}
use Rattle.rounded.proofs.mul_add.join.Goals as goal

pub returns-then-x-y : goal.returns-then-x-y
returns-then-x-y c =
    let x = c.args.x in
    let y = c.args.y in
    let l = c.lowered.ensures in
    addend_down x.digits y.digits c.requires.joinable x.neg y.neg x.place y.place c.lowered.result.digits c.if-x-y.true l.odd (rw (l.sign, l.place) at c.combine.ensures)

pub returns-else-x-y : goal.returns-else-x-y
returns-else-x-y c =
    let x = c.args.x in
    let y = c.args.y in
    let l = c.lowered-else-x-y.ensures in
    product_down x.digits y.digits c.requires.joinable x.neg y.neg x.place y.place c.lowered-else-x-y.result.digits c.if-x-y.false l.odd (rw (l.sign, l.place) at c.combine-else-x-y.ensures)
