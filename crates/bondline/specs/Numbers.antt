-- Definitions only. Whole numbers and days, as the words of a line give them.
use Rattle.std.specs.Prelude.{ℕ, suc, ◌+◌, ◌-◌, ◌*◌, Bool, cond, ◌&&◌, Result, Ok, Err, List, [], ◌∷◌, length, get_or, eqb, leb, ltb}
use Rattle.calendar.specs.Calendar.{dated}
use Rattle.bondline.specs.declared.DayError.{DayError}
use Rattle.bondline.specs.declared.DayError.TheVariants.{NotDay, NotDate}
use Rattle.bondline.specs.Results.{◌>>=◌, map_err}
use Rattle.bondline.specs.Words.{between}

-- ---- whole numbers

abbrev pub is_digit : ℕ → Bool
is_digit b = leb 48 b && leb b 57

-- What follows i digits of value v. A tenth digit is refused, and so is any byte that is no digit, at its place.
unfoldable pub whole_from : ℕ → ℕ → List ℕ → Result ℕ ℕ
whole_from i v [] = Ok v
whole_from i v (b ∷ bs) = cond (ltb i 9 && is_digit b) (whole_from (suc i) (v * 10 + (b - 48)) bs) (Err i)

-- A whole number has 1 to 9 digits.
unfoldable pub whole_of : List ℕ → Result ℕ ℕ
whole_of word = cond (eqb (length word) 0) (Err 0) (whole_from 0 0 word)

-- ---- days

-- YYYY-MM-DD
unfoldable pub date_shaped : List ℕ → Bool
date_shaped word = eqb (length word) 10 && (eqb (get_or word 4 0) 45 && eqb (get_or word 7 0) 45)

-- A part of a word; where it is malformed, the place in the word.
unfoldable pub part_of : ℕ → ℕ → List ℕ → Result ℕ DayError
part_of a e word = map_err (λ at. NotDay (a + at)) (whole_of (between a e word))

-- The day of a date, by the calendar.
unfoldable pub date_of : List ℕ → Result ℕ DayError
date_of word = do
  year ← part_of 0 4 word
  month ← part_of 5 7 word
  day ← part_of 8 10 word
  map_err NotDate (dated (record { year = year; month = month; day = day }))

-- A day is a date or a whole number: the day's own.
unfoldable pub day_of : List ℕ → Result ℕ DayError
day_of word = cond (date_shaped word) (date_of word) (map_err NotDay (whole_of word))
