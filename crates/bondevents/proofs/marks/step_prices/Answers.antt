-- `bondevents::marks::step_prices` meets its contract: the loop's invariant is `Pairing`. Assumes nothing.
use native.Mathlib.Omega.{arith}
use Rattle.bondevents.specs.Parts.{side_of, side_price}
use Rattle.bondevents.proofs.Copying.{past_end}
use Rattle.bondevents.proofs.SideBySide.{pair, paired}
use Rattle.bondevents.proofs.marks.step_prices.Goals as goal

pub loop-i-preserved : goal.loop-i-preserved
unfolding side_price side_of
loop-i-preserved c =
    let inv = c.loop-i.invariant in
    (inv.0, λ whole. pair _ whole _ _ past_end (inv.1 whole) (omega arith) c.side_price.ensures c.side_price-in-loop-i.ensures)

pub returns : goal.returns
returns c =
    let inv = c.loop-i.invariant in
    paired _ inv.0 _ _ (omega arith) (inv.1 inv.0)
