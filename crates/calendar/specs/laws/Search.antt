-- Where a day lies: in which year, and in which month of it. Assumes nothing.
use Rattle.std.specs.Prelude.{ℕ, ◌+◌, ◌-◌, ◌*◌, ◌≤◌, ◌<◌, ◌≡◌, ◌⊎◌, T}
use Rattle.std.proofs.Common.{sym, ap, subst, ◌∙◌, inl, inr, arith}
use Rattle.calendar.specs.Calendar.{year_length, month_length, days_of_years, days_of_months, number_of, date_of}
use Rattle.calendar.specs.laws.Days.{ordered, date, Exists, is_exists, year_bounds, year_of_months, month_more, year_more, number_is}
use Rattle.calendar.specs.laws.BothWays.{date_of-number}

-- With year y before it, so many days of the day's number are left.
pub record FromYear (day y rest : ℕ) : Type 0 where
  pub from : 1900 ≤ y
  pub days : days_of_years (y - 1900) + rest ≡ day
  pub least : 365 * (y - 1900) + rest ≤ day

pub record InYear (day y rest : ℕ) : Type 0 where
  pub reached : FromYear day y rest
  pub within : rest < year_length y

pub record FromMonth (y day m rest : ℕ) : Type 0 where
  pub from : 1 ≤ m
  pub to : m ≤ 12
  pub days : days_of_months y (m - 1) + rest ≡ day

pub record InMonth (y day m rest : ℕ) : Type 0 where
  pub reached : FromMonth y day m rest
  pub within : rest < month_length y m

pub next_year : (day y rest size : ℕ) → FromYear day y rest → size ≡ year_length y → size ≤ rest → FromYear day (y + 1) (rest - size)
next_year day y rest size h e l =
    record {
      from = omega (arith, h.from);
      days = omega (arith, e, h.days, year_more y h.from);
      least = omega (arith, e, h.from, h.least, year_bounds y);
    }

pub start_month : (y day : ℕ) → FromMonth y day 1 day
unfolding days_of_months
start_month y day = record { from = omega arith; to = omega arith; days = omega arith }

pub next_month : (y day m rest size : ℕ) → FromMonth y day m rest → size ≡ month_length y m → day < year_length y → size ≤ rest → FromMonth y day (m + 1) (rest - size)
next_month y day m rest size h s f l =
    let k : m + 1 - 1 ≡ m = omega arith in
    record {
      from = omega arith;
      to = under;
      days = ap (λ (z : ℕ). days_of_months y z + (rest - size)) k ∙ omega (arith, h.days, month_more y m h.from);
    }
  where
    under : m + 1 ≤ 12
    under = go (ordered 12 m)
      where
        go : (12 ≤ m) ⊎ (m < 12) → m + 1 ≤ 12
        go (inr g) = omega arith
        go (inl g) =
            let e : m ≡ 12 = omega (arith, h.to) in
            let k : days_of_months y m ≡ year_length y = ap (days_of_months y) e ∙ year_of_months y in
            absurd (omega (arith, h.days, k, month_more y m h.from))

-- The year, the month and the day that were found are the day's date.
pub found : (day y rest m passed : ℕ) → InYear day y rest → InMonth y rest m passed → date y m (passed + 1) ≡ date_of day
found day y rest m passed a b =
    let d = date y m (passed + 1) in
    let h : Exists y m (passed + 1) = record { month_from = b.reached.from; month_to = b.reached.to; day_from = omega arith; day_to = omega (arith, b.within) } in
    let n : number_of d ≡ day = omega (arith, number_is y m (passed + 1), a.reached.days, b.reached.days) in
    sym (date_of-number d (subst T (sym (is_exists y m (passed + 1) h)) tt) a.reached.from) ∙ ap date_of n
