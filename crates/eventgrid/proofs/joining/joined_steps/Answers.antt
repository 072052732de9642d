-- `eventgrid::joining::joined_steps` meets its contract: the loop's invariant is `Joining`. Assumes nothing.
use borrow.Author.Rules.{rules}
use native.Mathlib.Omega.{arith}
use Rattle.bondevents.proofs.Filling.{begin}
use Rattle.bondevents.proofs.Copying.{past_end}
use Rattle.bondevents.proofs.BothLists.{joins, joined_all}
use Rattle.eventgrid.proofs.joining.joined_steps.Goals as goal

pub loop-i-init : goal.loop-i-init
loop-i-init c = (search rules, search rules, begin _ _ 513 _)

pub loop-i-preserved : goal.loop-i-preserved
loop-i-preserved c =
    let inv = c.loop-i.invariant in
    let args = c.args in
    (inv.0, inv.1, joins args.calls.now args.puts.now _ _ past_end.call past_end.put inv.0 inv.1 (omega arith) inv.2)

pub returns : goal.returns
returns c =
    let inv = c.loop-i.invariant in
    joined_all _ _ _ _ inv.0 inv.1 (omega arith) inv.2
