-- The days of the first years at once, and the year to look for a day from. Assumes nothing.
use Rattle.std.specs.Prelude.{ℕ, zero, suc, ◌+◌, ◌-◌, ◌*◌, ◌/◌, ◌%◌, ◌≤◌, ◌≡◌, refl, Bool, true, false, cond, eqb}
use Rattle.std.proofs.Common.{arith, eqb-true}
use Rattle.std.proofs.lemmas.Bool.{eqb-false}
use Rattle.calendar.specs.Calendar.{leap, year_length, days_of_years}
use Rattle.calendar.specs.laws.Search.{FromYear}
use Rattle.calendar.specs.laws.Days.{years_most, years_least}

up_4 : (y : ℕ) → 1 ≤ y → y % 4 ≡ 0 → y / 4 ≡ (y - 1) / 4 + 1
up_4 y f h = omega arith

same_4 : (y : ℕ) → (y % 4 ≡ 0 → ⊥) → y / 4 ≡ (y - 1) / 4
same_4 y h = omega arith

up_100 : (y : ℕ) → 1 ≤ y → y % 100 ≡ 0 → y / 100 ≡ (y - 1) / 100 + 1
up_100 y f h = omega arith

same_100 : (y : ℕ) → (y % 100 ≡ 0 → ⊥) → y / 100 ≡ (y - 1) / 100
same_100 y h = omega arith

up_400 : (y : ℕ) → 1 ≤ y → y % 400 ≡ 0 → y / 400 ≡ (y - 1) / 400 + 1
up_400 y f h = omega arith

same_400 : (y : ℕ) → (y % 400 ≡ 0 → ⊥) → y / 400 ≡ (y - 1) / 400
same_400 y h = omega arith

four_of_hundred : (y : ℕ) → y % 100 ≡ 0 → y % 4 ≡ 0
four_of_hundred y h = omega arith

hundred_of_four_hundred : (y : ℕ) → (y % 100 ≡ 0 → ⊥) → y % 400 ≡ 0 → ⊥
hundred_of_four_hundred y h k = omega arith

-- Every hundredth year is a fourth.
hundreds : (y : ℕ) → y / 100 ≤ y / 4
hundreds y = omega arith

-- One year more.
one_more : (y d : ℕ) → 1900 ≤ y → d + 460 + (y - 1) / 100 ≡ 365 * (y - 1900) + (y - 1) / 4 + (y - 1) / 400 → d + year_length y + 460 + y / 100 ≡ 365 * (y - 1900) + 365 + y / 4 + y / 400
unfolding year_length leap
one_more y d f h = go (eqb (y % 100) 0) (eqb (y % 400) 0) (eqb (y % 4) 0) (eqb-true (y % 100) 0) (eqb-false (y % 100) 0) (eqb-true (y % 400) 0) (eqb-false (y % 400) 0) (eqb-true (y % 4) 0) (eqb-false (y % 4) 0)
  where
    go : (a b c : Bool) → (a ≡ true → y % 100 ≡ 0) → (a ≡ false → y % 100 ≡ 0 → ⊥) → (b ≡ true → y % 400 ≡ 0) → (b ≡ false → y % 400 ≡ 0 → ⊥) → (c ≡ true → y % 4 ≡ 0) → (c ≡ false → y % 4 ≡ 0 → ⊥) → d + cond (cond a b c) 366 365 + 460 + y / 100 ≡ 365 * (y - 1900) + 365 + y / 4 + y / 400
    go true true c p q r s t u = let o : 1 ≤ y = omega arith in omega (arith, up_100 y o (p refl), up_400 y o (r refl), up_4 y o (four_of_hundred y (p refl)))
    go true false c p q r s t u = let o : 1 ≤ y = omega arith in omega (arith, up_100 y o (p refl), same_400 y (s refl), up_4 y o (four_of_hundred y (p refl)))
    go false b true p q r s t u = let o : 1 ≤ y = omega arith in omega (arith, same_100 y (q refl), same_400 y (hundred_of_four_hundred y (q refl)), up_4 y o (t refl))
    go false b false p q r s t u = omega (arith, same_100 y (q refl), same_400 y (hundred_of_four_hundred y (q refl)), same_4 y (u refl))

-- The days of the first years: 365 each and the leap years among them, 460 of which lie before 1900.
years_are : (k : ℕ) → days_of_years k + 460 + (1899 + k) / 100 ≡ 365 * k + (1899 + k) / 4 + (1899 + k) / 400
unfolding days_of_years
years_are zero = refl
years_are (suc k) =
    let e : 1900 + k - 1 ≡ 1899 + k = omega arith in
    let g : 1900 + k - 1900 ≡ k = omega arith in
    let a : 1899 + suc k ≡ 1900 + k = omega arith in
    let h : days_of_years k + 460 + (1900 + k - 1) / 100 ≡ 365 * (1900 + k - 1900) + (1900 + k - 1) / 4 + (1900 + k - 1) / 400 = rw (e, g) (years_are k) in
    let o : days_of_years k + year_length (1900 + k) + 460 + (1900 + k) / 100 ≡ 365 * k + 365 + (1900 + k) / 4 + (1900 + k) / 400 = rw g at (one_more (1900 + k) (days_of_years k) (omega arith) h) in
    let s : 365 * k + 365 ≡ 365 * suc k = omega arith in
    rw (a, ← s) o

-- So `days_of_years` adds them up.
pub years_at_once : (k : ℕ) → 365 * k + ((1899 + k) / 4 - (1899 + k) / 100 + (1899 + k) / 400 - 460) ≡ days_of_years k
years_at_once k = omega (arith, years_are k, years_least k, hundreds (1899 + k))

-- The search for the year may start here: no year is longer than 366 days.
pub near-passed : {days : ℕ} (day : ℕ) → days ≡ days_of_years (day / 366) → days ≤ day
near-passed day e = omega (arith, e, years_most (day / 366))

pub near-year : {days : ℕ} (day : ℕ) → days ≡ days_of_years (day / 366) → FromYear day (1900 + day / 366) (day - days)
near-year day e =
    let k = day / 366 in
    let s : 1900 + k - 1900 ≡ k = omega arith in
    let m = years_most k in
    record { from = omega arith; days = rw s (omega (arith, e, m)); least = rw s (omega (arith, e, m, years_least k)) }
