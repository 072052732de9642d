-- Definitions only. Dates, decimals and bits in a line.
use Rattle.std.specs.Prelude.{ℕ, ◌-◌, cond, List, eqb, ltb, Float}
use Rattle.std.specs.Option.{option_map_or}
use Rattle.std.specs.Float.{binary64}
use Rattle.std.specs.Float.Ieee.{eq, to_bits}
use Rattle.calendar.specs.declared.Date.{Date}
use Rattle.calendar.specs.Calendar.{dating}
use Rattle.decimal.specs.declared.Rounded.{Rounded}
use Rattle.decimal.specs.Writing.{decimals_of, hex_digits}
use Rattle.decimal.specs.Examples.{bytes}
use Rattle.bondreport.specs.declared.Leftward.{Leftward}
use Rattle.bondreport.specs.Columns.{put_at}
use Rattle.bondreport.specs.Numbers.{byte_left, digits_left, whole_left}

-- A line to be filled leftwards from before a column.
abbrev pub before : List ℕ → ℕ → Leftward
before line end = record { line = line; end = end }

-- A whole number, right-justified.
abbrev pub put_whole : List ℕ → ℕ → ℕ → List ℕ
put_whole line end n = (whole_left (before line end) n).line

-- YYYY-MM-DD.
abbrev pub date_left : Leftward → Date → Leftward
date_left c date = digits_left 4 (byte_left (digits_left 2 (byte_left (digits_left 2 c date.day) 45) date.month) 45) date.year

-- A day's date; a day that has none is its number.
abbrev pub put_date : List ℕ → ℕ → ℕ → List ℕ
put_date line end day = option_map_or (λ date. (date_left (before line end) date).line) (dating day) (put_whole line end day)

-- A point stands where there are decimals.
unfoldable pub point_left : Leftward → ℕ → Leftward
point_left c places = cond (eqb places 0) c (byte_left c 46)

-- A minus stands before what is below 0, and not before a zero.
unfoldable pub minus_left : Leftward → Rounded → Leftward
minus_left c x = cond x.negative (cond (ltb 0 x.whole) (byte_left c 45) (cond (ltb 0 x.part) (byte_left c 45) c)) c

-- The decimals, the point, the whole part and the sign.
abbrev pub decimals_left : Leftward → ℕ → Rounded → Leftward
decimals_left c places x = minus_left (whole_left (point_left (digits_left places c x.part) places) x.whole) x

-- A number to some decimals, right-justified; the word for one that has none.
abbrev pub put_decimals : List ℕ → ℕ → Float → ℕ → List ℕ
put_decimals line end x places =
    option_map_or (λ shown. (decimals_left (before line end) places shown).line) (decimals_of places x) (put_at line (end - 6) (bytes "beyond"))

-- The sixteen hexadecimal digits of a number's bits; a NaN, which doesn't equal itself, has none.
abbrev pub put_bits : List ℕ → ℕ → Float → List ℕ
put_bits line at x = cond (eq x x) (put_at line at (hex_digits (to_bits binary64 x))) (put_at line at (bytes "----------------"))
