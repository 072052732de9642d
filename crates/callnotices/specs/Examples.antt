-- Notices and their call lists, computed by the checker.
use Rattle.std.specs.Prelude.{ℕ, ◌≡◌, refl, None, [], ◌∷◌, replicate}
use Rattle.std.specs.Float.{nan}
use Rattle.std.specs.Float.Ieee as ieee
use Rattle.floats.specs.declared.Reason.{Reason}
use Rattle.floats.specs.Answers.{plus_zero}
use Rattle.terms.specs.Numbers.{float}
use Rattle.terms.specs.Checks.{on_check, first_of, lowest}
use Rattle.callnotices.specs.declared.CallList.{CallList}
use Rattle.callnotices.specs.Notices.{Notices}
use Rattle.callnotices.specs.Standing.{first_from, highest_from, entries_to}
use Rattle.callnotices.specs.Checks.{notice_checks}
use Rattle.callnotices.specs.Lists.{call_list, refused_list}
use Rattle.floats.specs.declared.Reason.TheVariants as reason

-- No notices.
abbrev none : Notices
none = record { series = []; versions = []; actions = []; starts = []; ends = []; strikes = [] }

-- Series 7: version 1 set, version 2 withdrawn; the withdrawal's call fields would be refused.
abbrev withdrawn : Notices
withdrawn =
    record {
      series = 7 ∷ 7 ∷ [];
      versions = 1 ∷ 2 ∷ [];
      actions = 0 ∷ 1 ∷ [];
      starts = 100 ∷ 999999 ∷ [];
      ends = 200 ∷ 0 ∷ [];
      strikes = float 99 ∷ nan ∷ [];
    }

-- Series 3: version 2 before version 1; series 1 behind them. The start day of version 1 is given.
abbrev superseded : ℕ → Notices
superseded start =
    record {
      series = 3 ∷ 3 ∷ 1 ∷ [];
      versions = 2 ∷ 1 ∷ 5 ∷ [];
      actions = 0 ∷ 0 ∷ 0 ∷ [];
      starts = 300 ∷ start ∷ 100 ∷ [];
      ends = 300 ∷ 250 ∷ 200 ∷ [];
      strikes = float 101 ∷ float 99 ∷ float 100 ∷ [];
    }

-- Series 1 and 2, then both again in the same order, withdrawn: no two neighbours are alike.
abbrev repeated : Notices
repeated =
    record {
      series = 1 ∷ 2 ∷ 1 ∷ 2 ∷ [];
      versions = 1 ∷ 1 ∷ 1 ∷ 1 ∷ [];
      actions = 0 ∷ 0 ∷ 1 ∷ 1 ∷ [];
      starts = 0 ∷ 0 ∷ 0 ∷ 0 ∷ [];
      ends = 0 ∷ 0 ∷ 0 ∷ 0 ∷ [];
      strikes = float 99 ∷ float 99 ∷ float 99 ∷ float 99 ∷ [];
    }

-- An end before its start, a strike of 0, and a series of 0.
abbrev wrong : ℕ → Notices
wrong series =
    record {
      series = 1 ∷ 2 ∷ series ∷ [];
      versions = 1 ∷ 1 ∷ 1 ∷ [];
      actions = 0 ∷ 0 ∷ 0 ∷ [];
      starts = 20 ∷ 10 ∷ 10 ∷ [];
      ends = 10 ∷ 10 ∷ 10 ∷ [];
      strikes = float 99 ∷ plus_zero ∷ float 99 ∷ [];
    }

abbrev refused_at : Reason → ℕ → CallList
refused_at why place = refused_list (record { reason = why; place = place })

-- Accepted, with no entry.
abbrev no_entry : CallList
no_entry =
    record {
      refusal = None;
      count = 0;
      starts = replicate 64 0;
      ends = replicate 64 0;
      strikes = replicate 64 plus_zero;
    }

pub record Tried : Type 0 where
  -- No notices give an empty list, and a withdrawn highest version brings nothing back.
  pub empty : call_list none ≡ no_entry
  pub nothing-back : call_list withdrawn ≡ no_entry
  -- By series, rising; the superseded version is not listed.
  pub listed :
      call_list (superseded 200)
      ≡ record {
        refusal = None;
        count = 2;
        starts = 100 ∷ 300 ∷ replicate 62 0;
        ends = 200 ∷ 300 ∷ replicate 62 0;
        strikes = float 100 ∷ float 101 ∷ replicate 62 plus_zero;
      }
  -- A superseded set is checked too.
  pub bad_day : call_list (superseded 200001) ≡ refused_at reason.Day 1
  pub bad_order : call_list (superseded 251) ≡ refused_at reason.CallOrder 1
  -- The lowest index that repeats an earlier notice, whatever its action.
  pub repeats : call_list repeated ≡ refused_at reason.NoticeRepeated 2
  -- Number by number: 42 before 4, and 4 before 5.
  pub range_first : call_list (wrong 0) ≡ refused_at reason.NoticeRange 2
  pub strike_first : call_list (wrong 3) ≡ refused_at reason.Number 1

pub tried : Tried
unfolding call_list on_check notice_checks first_of lowest first_from highest_from entries_to ieee.of_bits ieee.of_int ieee.lt ieee.le
tried =
    record {
      empty = refl;
      nothing-back = refl;
      listed = refl;
      bad_day = refl;
      bad_order = refl;
      repeats = refl;
      range_first = refl;
      strike_first = refl;
    }
