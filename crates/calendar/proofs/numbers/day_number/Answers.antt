-- `numbers::day_number` meets its contract. Assumes nothing.
use Rattle.std.proofs.Common.{ℕ, ◌<◌, ◌≤◌, ◌≡◌, ◌⊎◌, true, Err, inl, inr, sym, ◌∙◌, lt-ltb, le-ltb}
use Rattle.calendar.specs.declared.DateError.TheVariants.{OutOfRange}
use Rattle.calendar.specs.Calendar.{exists, number_of, last_day, dated}
use Rattle.calendar.specs.laws.Days.{date, beyond}
use Rattle.calendar.proofs.numbers.day_number.Goals as goal

outside : (y m d : ℕ) → exists (date y m d) ≡ true → (y < 1900) ⊎ ((1900 ≤ y) × (2447 < y)) → Err OutOfRange ≡ dated (date y m d)
unfolding dated
outside y m d e (inl h) = rw (e, lt-ltb y 1900 h)
outside y m d e (inr h) = rw (e, le-ltb y 1900 h.0, lt-ltb last_day (number_of (date y m d)) (beyond y m d h.1))

pub returns-then-year-lt-FIRST_YEAR : goal.returns-then-year-lt-FIRST_YEAR
returns-then-year-lt-FIRST_YEAR c = outside _ _ _ (sym c.date_exists.ensures ∙ c.if-not-date_exists.false) c.then-year-lt-FIRST_YEAR.either
