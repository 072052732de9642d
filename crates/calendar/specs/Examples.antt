-- Dates and their numbers, computed by the checker.
use Rattle.std.specs.Prelude.{◌+◌, ◌≡◌, refl, Ok, Err, Some, None}
use Rattle.calendar.specs.declared.DateError.TheVariants.{NoSuchDate, OutOfRange}
use Rattle.calendar.specs.Calendar.{dated, dating, thirty_days, thirties}
use Rattle.calendar.specs.laws.Days.{date}

pub record Starred : Type 0 where
  -- Day 0, and the day on which the last one falls.
  pub first : dated (date 1900 1 1) ≡ Ok 0
  pub last : dated (date 2447 8 1) ≡ Ok 200000
  -- 1900 is no leap year, and 2000 is one.
  pub march_1900 : dated (date 1900 3 1) ≡ Ok 59
  pub no_february_1900 : dated (date 1900 2 29) ≡ Err NoSuchDate
  pub february_2000 : dated (date 2000 2 29) ≡ Ok 36583
  pub november_2026 : dated (date 2026 11 15) ≡ Ok 46339
  -- Dates that exist, a day too early and a day too late.
  pub too_early : dated (date 1899 12 31) ≡ Err OutOfRange
  pub too_late : dated (date 2447 8 2) ≡ Err OutOfRange
  -- Back from the numbers.
  pub day_0 : dating 0 ≡ Some (date 1900 1 1)
  pub day_59 : dating 59 ≡ Some (date 1900 3 1)
  pub day_36583 : dating 36583 ≡ Some (date 2000 2 29)
  pub day_46339 : dating 46339 ≡ Some (date 2026 11 15)
  pub day_200000 : dating 200000 ≡ Some (date 2447 8 1)
  pub day_200001 : dating 200001 ≡ None
  -- 30E: no day from a 30th to its 31st, three over a common February's end, 31 from 29 February to 31 March, 30 from a 31st to the next.
  pub thirty_first : thirty_days (date 2026 1 31) ≡ thirty_days (date 2026 1 30) + 0
  pub february_28 : thirty_days (date 2025 3 1) ≡ thirty_days (date 2025 2 28) + 3
  pub february_29 : thirty_days (date 2024 3 31) ≡ thirty_days (date 2024 2 29) + 31
  pub over-new-year : thirty_days (date 2026 1 31) ≡ thirty_days (date 2025 12 31) + 30
  -- Of day numbers: 30 and 31 January and 1 February 1900.
  pub thirties_29 : thirties 29 ≡ 684060
  pub thirties_30 : thirties 30 ≡ 684060
  pub thirties_31 : thirties 31 ≡ 684061

pub starred : Starred
unfolding dated dating thirties
starred =
    record {
      first = refl;
      last = refl;
      march_1900 = refl;
      no_february_1900 = refl;
      february_2000 = refl;
      november_2026 = refl;
      too_early = refl;
      too_late = refl;
      day_0 = refl;
      day_59 = refl;
      day_36583 = refl;
      day_46339 = refl;
      day_200000 = refl;
      day_200001 = refl;
      thirty_first = refl;
      february_28 = refl;
      february_29 = refl;
      over-new-year = refl;
      thirties_29 = refl;
      thirties_30 = refl;
      thirties_31 = refl;
    }
