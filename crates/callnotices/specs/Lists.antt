-- Definitions only. The call list that notices give: by value in 64 places, by series, rising; places past its last entry, or all after a refusal, are zero.
use Rattle.std.specs.Prelude.{ℕ, ◌-◌, Some, None, List, ◌++◌, map, length, replicate, take}
use Rattle.floats.specs.Refusals.{Refusal}
use Rattle.floats.specs.Answers.{plus_zero}
use Rattle.terms.specs.Terms.{CallSchedule}
use Rattle.terms.specs.Checks.{on_check}
use Rattle.callnotices.specs.declared.CallList.{CallList}
use Rattle.callnotices.specs.Notices.{Notices, start_at, end_at, strike_at}
use Rattle.callnotices.specs.Standing.{entries}
use Rattle.callnotices.specs.Checks.{notice_checks}

-- 64 places, zero past the last entry.
abbrev pub in_places : {A : Type 0} → A → List A → List A
in_places none xs = xs ++ replicate (64 - length xs) none

-- The list of these entries.
abbrev pub list_of : Notices → List ℕ → CallList
list_of n is =
    record {
      refusal = None;
      count = length is;
      starts = in_places 0 (map (start_at n) is);
      ends = in_places 0 (map (end_at n) is);
      strikes = in_places plus_zero (map (strike_at n) is);
    }

abbrev pub refused_list : Refusal → CallList
refused_list r =
    record {
      refusal = Some r;
      count = 0;
      starts = replicate 64 0;
      ends = replicate 64 0;
      strikes = replicate 64 plus_zero;
    }

-- The entry: the checks, then the notices that stand. An accepted list has no refusal.
unfoldable pub call_list : Notices → CallList
unfolding notice_checks
call_list n = on_check (notice_checks n) refused_list (list_of n (entries n))

-- The call entries of a list, as 01's entries take them.
abbrev pub schedule_of : CallList → CallSchedule
schedule_of l =
    record {
      starts = take l.count l.starts;
      ends = take l.count l.ends;
      strikes = take l.count l.strikes;
    }
