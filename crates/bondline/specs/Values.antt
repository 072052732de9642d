-- Definitions only. The values that the words of a line give, or the fault with its column.
use Rattle.std.specs.Prelude.{ℕ, ◌+◌, min, cond, Result, Ok, Err, ok_or, List, [], ◌∷◌, length, get_or, Float}
use Rattle.calendar.specs.declared.DateError.TheVariants.{NoSuchDate, OutOfRange}
use Rattle.decimal.specs.declared.ReadError.{ReadError}
use Rattle.decimal.specs.declared.ReadError.TheVariants.{Malformed, TooLong}
use Rattle.decimal.specs.Decimal.{read_decimal}
use Rattle.bondline.specs.declared.Cause.{Cause}
use Rattle.bondline.specs.declared.Cause.TheVariants.{NotACount, NotADay, NoDate, DateOutside, NotANumber, LongNumber, NotAKind, NotACompounding, NotAFrequency, TooFewWords, TooManyWords}
use Rattle.bondline.specs.declared.DayError.{DayError}
use Rattle.bondline.specs.declared.DayError.TheVariants.{NotDay, NotDate}
use Rattle.bondline.specs.declared.Fault.{Fault}
use Rattle.bondline.specs.Results.{◌>>=◌, map_err}
use Rattle.bondline.specs.Bytes.{bytes}
use Rattle.bondline.specs.Words.{has_word, word_at, column_of, place_in}
use Rattle.bondline.specs.Numbers.{whole_of, day_of}

abbrev pub fault : ℕ → Cause → Fault
fault column cause = record { column = column; cause = cause }

-- The column of a place within a word, at most just past it.
unfoldable pub column_in : List ℕ → ℕ → ℕ → ℕ
column_in line n at = column_of line n + min at (length (word_at line n))

-- ---- numbers of a line

unfoldable pub count_at : List ℕ → ℕ → Result ℕ Fault
count_at line n = map_err (λ at. fault (column_in line n at) NotACount) (whole_of (word_at line n))

unfoldable pub day_fault : List ℕ → ℕ → DayError → Fault
day_fault line n (NotDay at) = fault (column_in line n at) NotADay
day_fault line n (NotDate NoSuchDate) = fault (column_of line n) NoDate
day_fault line n (NotDate OutOfRange) = fault (column_of line n) DateOutside

unfoldable pub day_at : List ℕ → ℕ → Result ℕ Fault
day_at line n = map_err (day_fault line n) (day_of (word_at line n))

unfoldable pub number_fault : List ℕ → ℕ → ReadError → Fault
number_fault line n (Malformed at) = fault (column_in line n at) NotANumber
number_fault line n (TooLong at) = fault (column_in line n at) LongNumber

unfoldable pub number_at : List ℕ → ℕ → Result Float Fault
number_at line n = map_err (number_fault line n) (read_decimal (word_at line n))

-- ---- words of a line, by their codes

-- A word's place among those that may stand there.
unfoldable pub choice_at : List ℕ → ℕ → List ℕ → ℕ → Cause → Result ℕ Fault
choice_at line n words count cause = ok_or (place_in (word_at line n) words count) (fault (column_of line n) cause)

abbrev pub kind_words : List ℕ
kind_words = bytes "coupon redemption"

-- 0 coupon, 1 redemption.
unfoldable pub kind_at : List ℕ → ℕ → Result ℕ Fault
kind_at line n = choice_at line n kind_words 2 NotAKind

abbrev pub compounding_words : List ℕ
compounding_words = bytes "simple compounded continuous simple-then-compounded compounded-then-simple"

-- Compounding 0 to 4.
unfoldable pub compounding_at : List ℕ → ℕ → Result ℕ Fault
compounding_at line n = choice_at line n compounding_words 5 NotACompounding

abbrev pub frequency_words : List ℕ
frequency_words = bytes "annual semiannual every-fourth-month quarterly bimonthly monthly every-fourth-week biweekly weekly daily other"

abbrev pub frequency_codes : List ℕ
frequency_codes = 1 ∷ 2 ∷ 3 ∷ 4 ∷ 6 ∷ 12 ∷ 13 ∷ 26 ∷ 52 ∷ 365 ∷ 999 ∷ []

unfoldable pub frequency_at : List ℕ → ℕ → Result ℕ Fault
frequency_at line n = do
  place ← choice_at line n frequency_words 11 NotAFrequency
  Ok (get_or frequency_codes place 0)

-- ---- how many words

-- The name and n values: with fewer the fault is at the name, with more at the first that is too many.
unfoldable pub shape_of : List ℕ → ℕ → Result Unit Fault
shape_of line n =
    cond (has_word line n) (cond (has_word line (n + 1)) (Err (fault (column_of line (n + 1)) TooManyWords)) (Ok tt))
    (Err (fault (column_of line 0) TooFewWords))
