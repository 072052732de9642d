-- `eventgrid::joining::puts_below` meets its contract: in the loop, no put before the index is above its call. Assumes nothing.
use borrow.Author.Rules.{rules}
use native.Mathlib.Omega.{arith}
use mathlib.Core.Path.{refl, ap, ◌∙◌}
use Rattle.bondevents.specs.Calls.{new_step, put_above}
use Rattle.terms.proofs.Laws.{same_at}
use Rattle.terms.proofs.Seeking.{begin, turn, found, done}
use Rattle.bondevents.proofs.Copying.{past_end}
use Rattle.bondevents.proofs.BothLists.{sought-below}
use Rattle.floats.specs.declared.Reason.TheVariants as reason
use Rattle.eventgrid.proofs.joining.puts_below.Goals as goal

pub loop-i-init : goal.loop-i-init
loop-i-init c = (search rules, begin reason.PutAbove _ 513)

pub returns-then-put_above : goal.returns-then-put_above
returns-then-put_above c =
    let inv = c.loop-i.invariant in
    sought-below c.args.steps.now inv.0
    (found reason.PutAbove _ 513 _ inv.1 (omega arith) (c.put_above.ensures ∙ ap put_above (same_at c.args.steps.now c.loop-i.i past_end new_step (omega (arith, inv.0)))) c.if-put_above.true c.above_at.ensures)

pub loop-i-preserved : goal.loop-i-preserved
loop-i-preserved c =
    let inv = c.loop-i.invariant in
    (inv.0, turn reason.PutAbove _ 513 _ inv.1 (omega arith) (c.put_above.ensures ∙ ap put_above (same_at c.args.steps.now c.loop-i.i past_end new_step (omega (arith, inv.0)))) c.if-put_above.false)

pub returns : goal.returns
returns c =
    let inv = c.loop-i.invariant in
    sought-below c.args.steps.now inv.0 (done reason.PutAbove _ 513 _ inv.1 (omega arith) refl)
