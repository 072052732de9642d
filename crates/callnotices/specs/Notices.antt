-- Definitions only. Call notices: what issuers send, and later change or withdraw.
use Rattle.std.specs.Prelude.{ℕ, ◌≡◌, Bool, List, length, get_or, eqb, Float}
use Rattle.std.specs.Borrow.{Bor}
use denote.Triple.Both.{Both}
use Rattle.floats.specs.Answers.{plus_zero}
use Rattle.callnotices.specs.declared.Notices.{Notices as LentNotices}

-- A notice has a series (1 to 64), a version (1 to 65,535), an action (0 set, 1 withdraw) and the fields of a call entry.
pub record Notices : Type 0 where
  pub series : List ℕ
  pub versions : List ℕ
  pub actions : List ℕ
  pub starts : List ℕ
  pub ends : List ℕ
  pub strikes : List Float

-- What notices hold where a call begins.
abbrev pub notices_of : LentNotices → Notices
notices_of notices =
    record {
      series = notices.series.now;
      versions = notices.versions.now;
      actions = notices.actions.now;
      starts = notices.starts.now;
      ends = notices.ends.now;
      strikes = notices.strikes.now;
    }

-- The same of the six slices that a C caller lends.
abbrev pub notices_in : {A B C D E F : Type 0} → Both (Bor (List ℕ)) A → Both (Bor (List ℕ)) B → Both (Bor (List ℕ)) C → Both (Bor (List ℕ)) D → Both (Bor (List ℕ)) E → Both (Bor (List Float)) F → Notices
notices_in series versions actions starts ends strikes =
    record {
      series = series.entry.now;
      versions = versions.entry.now;
      actions = actions.entry.now;
      starts = starts.entry.now;
      ends = ends.entry.now;
      strikes = strikes.entry.now;
    }

-- How many notices there are.
abbrev pub size : Notices → ℕ
size n = length n.series

abbrev pub series_at : Notices → ℕ → ℕ
series_at n i = get_or n.series i 0

abbrev pub version_at : Notices → ℕ → ℕ
version_at n i = get_or n.versions i 0

abbrev pub action_at : Notices → ℕ → ℕ
action_at n i = get_or n.actions i 0

abbrev pub start_at : Notices → ℕ → ℕ
start_at n i = get_or n.starts i 0

abbrev pub end_at : Notices → ℕ → ℕ
end_at n i = get_or n.ends i 0

abbrev pub strike_at : Notices → ℕ → Float
strike_at n i = get_or n.strikes i plus_zero

-- The notice at this index is a set.
abbrev pub is_set : List ℕ → ℕ → Bool
is_set actions i = eqb (get_or actions i 0) 0

-- A list of notices: as many of each field.
pub record Parallel (n : Notices) : Type 0 where
  pub versions_too : length n.versions ≡ size n
  pub actions_too : length n.actions ≡ size n
  pub starts_too : length n.starts ≡ size n
  pub ends_too : length n.ends ≡ size n
  pub strikes_too : length n.strikes ≡ size n
