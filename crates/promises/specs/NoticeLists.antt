-- Definitions only. What is promised of the tree value with a call list that notices give.
use Rattle.floats.specs.Reasons.{refusal_number}
use Rattle.std.specs.Prelude.{ℕ, ◌≡◌, [], Float, Ok}
use Rattle.terms.specs.Terms.{CallSchedule, Market}
use Rattle.terms.specs.Entries.{tree_checks}
use Rattle.terms.specs.CallLists.{MadeFrom}
use Rattle.lattice.specs.Layers.{Room}
use Rattle.treebasedbondpricer.specs.Tree.{tree_value}
use Rattle.treebasedbondpricer.specs.CallLists.{NoLowerOr27}
use Rattle.callnotices.specs.Notices.{Notices}
use Rattle.callnotices.specs.Lists.{call_list, schedule_of}

-- The call entries that notices give.
abbrev pub calls_of : Notices → CallSchedule
calls_of n = schedule_of (call_list n)

-- Accepted means not refused.
abbrev pub Accepted : Notices → Type 0
Accepted n = (refusal_number (call_list n).refusal) ≡ 0

abbrev pub no_calls : CallSchedule
no_calls = record { starts = []; ends = []; strikes = [] }

-- The tree value's checks answer an accepted list as they answer no calls at all: it is never refused for 2, 3, 4 or 5 of calls.
abbrev pub NeverForCalls : Type 0
NeverForCalls = (n : Notices) → Accepted n → (m : Market) → tree_checks m (calls_of n) ≡ tree_checks m no_calls

-- Of two notice lists, both accepted, of which the second's call list is made from the first's, all else the same and each working slice as long: where the tree value accepts the first, the second is accepted with a value no lower, or refused with 27.
abbrev pub NoticeRule : Type 0
NoticeRule =
    (first second : Notices) → Accepted first → Accepted second
    → MadeFrom (calls_of first) (calls_of second)
    → (m : Market) (room : Room) (x : Float) (n : ℕ)
    → tree_value m (calls_of first) room ≡ Ok (record { value = x; nodes = n })
    → NoLowerOr27 x (tree_value m (calls_of second) room)
