-- `bondevents::principal::redeemed` meets its contract: the loop's invariant is `Counting`, for what the call says of an index. Assumes nothing.
use Rattle.std.specs.Prelude.{◌≡◌, ◌<◌, ◌≤◌, ℕ, Bool, List, length, get_or}
use Rattle.bondevents.proofs.Counting.{Counting}
use Rattle.bondevents.proofs.principal.redeemed.Given as goal

abbrev pub invariant-loop-i : goal.invariant-loop-i
invariant-loop-i g l =
    (after : ℕ → Bool) (days : List ℕ) → length l.kinds ≤ length days
    → ((i : ℕ) (r : Bool) → i < length l.kinds → goal.F-post g l.counted i r → r ≡ after (get_or days i 0))
    → Counting after days l.kinds l.amounts l.total l.i
