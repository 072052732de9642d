-- Definitions only. A day's time, by the day count: code 0 Actual/365, 1 Actual/360, 2 30E/360.
use Rattle.std.specs.Prelude.{ℕ, cond, eqb, ltb, Float}
use Rattle.std.specs.Float.{binary64}
use Rattle.std.specs.Float.Ieee.{sub, div}
use Rattle.calendar.specs.Calendar.{thirties}
use Rattle.terms.specs.declared.Settlement.{Settlement}
use Rattle.terms.specs.declared.Epoch.{Epoch}
use Rattle.terms.specs.Numbers.{float}

-- What is counted: the days themselves, or those of 30E/360.
unfoldable pub count_of : ℕ → ℕ → ℕ
count_of code day = cond (ltb code 2) day (thirties day)

-- What it is divided by: 365.0, for the last two codes 360.0.
abbrev pub year_of : ℕ → ℕ
year_of code = cond (eqb code 0) 365 360

-- Settlement and its count, which serves every day.
abbrev pub epoch_of : Settlement → Epoch
epoch_of s = record { day = s.day; code = s.code; count = count_of s.code s.day }

-- A day's count less settlement's, over 365.0 or 360.0. The difference is exact and the quotient finite for every two days.
unfoldable pub time_from : Epoch → ℕ → Float
unfolding count_of sub div
time_from e day = div binary64 (sub binary64 (float (count_of e.code day)) (float e.count)) (float (year_of e.code))

-- year_fraction.
abbrev pub year_fraction : Settlement → ℕ → Float
year_fraction s day = time_from (epoch_of s) day
