-- `bondevents::principal::redeemed` meets its contract: the loop's invariant is `Counting`, for what the call says of an index. Assumes nothing.
use native.Mathlib.Omega.{arith}
use Rattle.bondevents.proofs.Counting.{begin, turn, done}
use Rattle.bondevents.proofs.principal.redeemed.Goals as goal

pub loop-i-init : goal.loop-i-init
loop-i-init g c = λ after days enough says. begin after days _ _ enough c.requires.amounts_too

pub loop-i-preserved : goal.loop-i-preserved
loop-i-preserved g c =
    λ after days enough says. turn after days _ _ _ _ _ (c.loop-i.invariant after days enough says) (omega arith) c.with_redemption-total.ensures (says _ _ (omega arith) c.counted.ensures)

pub returns : goal.returns
returns g c = λ after days enough says. done after days _ _ _ _ (c.loop-i.invariant after days enough says) (omega arith)
