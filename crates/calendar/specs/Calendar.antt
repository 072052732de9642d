-- Definitions only. Dates of the proleptic Gregorian calendar, and their numbers: day 0 is 1 January 1900.
use Rattle.std.specs.Prelude.{ℕ, zero, suc, ◌+◌, ◌-◌, ◌*◌, ◌%◌, min, Bool, cond, ◌&&◌, ◌||◌, eqb, leb, ltb, Result, Ok, Err, Option, Some, None}
use Rattle.calendar.specs.declared.Date.{Date}
use Rattle.calendar.specs.declared.DateError.{DateError}
use Rattle.calendar.specs.declared.DateError.TheVariants.{NoSuchDate, OutOfRange}

-- Every fourth year is a leap year; of the years that end a century, every fourth.
unfoldable pub leap : ℕ → Bool
leap year = cond (eqb (year % 100) 0) (eqb (year % 400) 0) (eqb (year % 4) 0)

-- 366 days in a leap year.
unfoldable pub year_length : ℕ → ℕ
unfolding leap
year_length year = cond (leap year) 366 365

-- April, June, September and November have 30 days.
abbrev pub short : ℕ → Bool
short month = eqb month 4 || eqb month 6 || eqb month 9 || eqb month 11

-- February has 28 days, and 29 in a leap year; the months that are not short have 31.
unfoldable pub month_length : ℕ → ℕ → ℕ
unfolding leap
month_length year month = cond (eqb month 2) (cond (leap year) 29 28) (cond (short month) 30 31)

-- The days of the first years from 1900.
unfoldable pub days_of_years : ℕ → ℕ
unfolding year_length
days_of_years zero = 0
days_of_years (suc years) = days_of_years years + year_length (1900 + years)

-- The days of the first months of a year.
unfoldable pub days_of_months : ℕ → ℕ → ℕ
unfolding month_length
days_of_months year zero = 0
days_of_months year (suc months) = days_of_months year months + month_length year (suc months)

-- A date exists where its month is one of the twelve and its day one of the month's.
unfoldable pub exists : Date → Bool
unfolding month_length
exists d = (leb 1 d.month && leb d.month 12) && (leb 1 d.day && leb d.day (month_length d.year d.month))

-- The number of a date: the days of the years, the months and the days that lie between it and 1 January 1900.
unfoldable pub number_of : Date → ℕ
unfolding days_of_years days_of_months
number_of d = days_of_years (d.year - 1900) + days_of_months d.year (d.month - 1) + (d.day - 1)

-- The last day.
abbrev pub last_day : ℕ
last_day = 200000

-- Of the dates that exist, those from 1900 to the last day have a number.
unfoldable pub dated : Date → Result ℕ DateError
unfolding exists number_of
dated d =
    cond
    (exists d)
    (cond (ltb d.year 1900) (Err OutOfRange) (cond (ltb last_day (number_of d)) (Err OutOfRange) (Ok (number_of d))))
    (Err NoSuchDate)

-- The day after a date: the next of the month, or the first of the next month, or of the next year.
unfoldable pub day_after : Date → Date
unfolding month_length
day_after d =
    cond
    (ltb d.day (month_length d.year d.month))
    (record { year = d.year; month = d.month; day = d.day + 1 })
    (cond (ltb d.month 12) (record { year = d.year; month = d.month + 1; day = 1 }) (record { year = d.year + 1; month = 1; day = 1 }))

-- The date of a day: 1 January 1900, and from day to day the date after.
unfoldable pub date_of : ℕ → Date
unfolding day_after
date_of zero = record { year = 1900; month = 1; day = 1 }
date_of (suc n) = day_after (date_of n)

-- The days up to the last have a date.
unfoldable pub dating : ℕ → Option Date
unfolding date_of
dating n = cond (ltb last_day n) None (Some (date_of n))

-- The 30E number of a date (30E/360, ISDA 2006 4.16(g), Eurobond basis): 360 to a year and 30 to a month; a 31st counts as the 30th, February as it is.
unfoldable pub thirty_days : Date → ℕ
thirty_days d = 360 * d.year + 30 * d.month + min d.day 30

-- The 30E number of a day; one past the last counts as the last.
unfoldable pub thirties : ℕ → ℕ
unfolding date_of thirty_days
thirties n = thirty_days (date_of (min last_day n))
