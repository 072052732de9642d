-- `holdings` meets its contract: in the loop, the bonds before i stand in their places. Assumes nothing.
use native.Mathlib.Omega.{arith}
use Rattle.bookchecks.specs.laws.Holdings.{fill-begin, fill_more, held}
use Rattle.bookchecks.proofs.Fields.holdings.Goals as goal

pub loop-i-init : goal.loop-i-init
loop-i-init c = fill-begin _ _ 32 _

pub loop-i-preserved : goal.loop-i-preserved
loop-i-preserved c = fill_more _ _ 32 _ _ c.loop-i.invariant (omega (arith, c.requires)) c.holding_at.ensures

pub returns : goal.returns
returns c = held _ _ _ (omega arith) c.loop-i.invariant
