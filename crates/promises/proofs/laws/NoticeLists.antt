-- The tree value with call lists that notices give: never refused for its calls, and the call-list rule without its 4. Assumes nothing.
use Rattle.std.specs.Prelude.{refl}
use Rattle.floats.specs.laws.Order.{not_le_of_lt}
use Rattle.terms.specs.Numbers.{million, float}
use Rattle.terms.specs.CallLists.{StrikeAbove, strike_of}
use Rattle.terms.specs.Entries.{tree_checks}
use Rattle.terms.specs.Checks.{lowest}
use Rattle.terms.specs.laws.Groups.{CallsPassed}
use Rattle.terms.specs.laws.MarketChecks.{market-alike}
use Rattle.terms.specs.laws.MadeLists.{accepted-strike}
use Rattle.treebasedbondpricer.proofs.laws.CallLists.{call_list_rule}
use Rattle.callnotices.specs.Notices.{Notices}
use Rattle.callnotices.proofs.laws.ListAccepted.{list_accepted}
use Rattle.promises.specs.NoticeLists.{calls_of, Accepted, no_calls, NeverForCalls, NoticeRule}

no_calls-passed : CallsPassed no_calls
unfolding lowest
no_calls-passed = record { counted = refl; days = refl; strikes = refl; ordered = refl }

pub never_for_calls : NeverForCalls
unfolding tree_checks
never_for_calls n h m = market-alike (float 1) m no_calls (calls_of n) no_calls-passed (list_accepted n h)

-- No strike of an accepted list is above 1,000,000.
none_above : (n : Notices) → Accepted n → StrikeAbove (calls_of n) → ⊥
none_above n h s =
    not_le_of_lt million (strike_of (calls_of n) s.entry) s.above (accepted-strike (calls_of n) (list_accepted n h) s.entry s.of_list).at_most

pub notice_rule : NoticeRule
notice_rule first second a b made m room x n e =
    (call_list_rule m room (calls_of first) (calls_of second) x n made e).otherwise (none_above second b)
