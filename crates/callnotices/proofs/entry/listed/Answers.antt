-- `listed` meets its contract: in the loop, the entries of the series so far stand in the three rows (`Listing`). Assumes nothing.
use native.Mathlib.Omega.{arith}
use Rattle.terms.proofs.Laws.{same_at}
use Rattle.callnotices.proofs.Listing.{begin, turn-passed, listing, in_fields, turn-listed}
use Rattle.callnotices.proofs.entry.listed.Goals as goal

pub loop-before-init : goal.loop-before-init
loop-before-init c = begin _

pub loop-before-preserved-then-not-yields_at : goal.loop-before-preserved-then-not-yields_at
loop-before-preserved-then-not-yields_at c = turn-passed _ _ _ _ _ _ _ c.loop-before.invariant (omega arith) c.standing_of-at.ensures c.yields_at.ensures (search listing)

pub loop-before-preserved : goal.loop-before-preserved
loop-before-preserved c =
    let inside = in_fields _ _ c.requires c.yields_at.ensures (search listing) in
    turn-listed _ _ _ _ _ _ _ c.loop-before.invariant (omega arith) c.standing_of-at.ensures c.yields_at.ensures (search listing) (same_at _ _ _ _ inside.2)
