-- The day after a date that exists is a date that exists, with the next number. Assumes nothing.
use Rattle.std.specs.Prelude.{ℕ, zero, suc, ◌+◌, ◌-◌, ◌*◌, ◌≤◌, ◌<◌, ◌≡◌, refl, Bool, true, false, cond, ◌&&◌, ◌⊎◌, Result, Ok}
use Rattle.std.proofs.Common.{sym, ap, subst, ◌∙◌, inl, inr, le_antisymm, add-one, arith}
use borrow.Author.Tests.{lt-ltb, le-ltb, le-leb, leb-true, leb-false}
use lib.Dec.{T, leb, leb→le}
use Rattle.calendar.specs.declared.Date.{Date}
use Rattle.calendar.specs.declared.DateError.{DateError}
use Rattle.calendar.specs.Calendar.{leap, year_length, month_length, days_of_years, days_of_months, exists, number_of, day_after}

abbrev pub date : ℕ → ℕ → ℕ → Date
date y m d = record { year = y; month = m; day = d }

-- What `exists` tests.
pub record Exists (y m d : ℕ) : Type 0 where
  pub month_from : 1 ≤ m
  pub month_to : m ≤ 12
  pub day_from : 1 ≤ d
  pub day_to : d ≤ month_length y m

both : (a b : Bool) → T (a && b) → T a × T b
both true b t = (tt, t)
both false b t = absurd t

pub exists_is : (y m d : ℕ) → T (exists (date y m d)) → Exists y m d
unfolding exists
exists_is y m d t =
    let s = both (leb 1 m && leb m 12) (leb 1 d && leb d (month_length y m)) t in
    let a = both (leb 1 m) (leb m 12) s.0 in
    let b = both (leb 1 d) (leb d (month_length y m)) s.1 in
    record { month_from = leb→le 1 m a.0; month_to = leb→le m 12 a.1; day_from = leb→le 1 d b.0; day_to = leb→le d (month_length y m) b.1 }

pub held : {f : Bool} (y m d : ℕ) → f ≡ exists (date y m d) → f ≡ true → Exists y m d
held y m d e t = exists_is y m d (subst T (sym (sym e ∙ t)) tt)

pub is_exists : (y m d : ℕ) → Exists y m d → exists (date y m d) ≡ true
unfolding exists
is_exists y m d h = rw (le-leb 1 m h.month_from, le-leb m 12 h.month_to, le-leb 1 d h.day_from, le-leb d (month_length y m) h.day_to)

pub ordered : (a b : ℕ) → (a ≤ b) ⊎ (b < a)
ordered a b = go (leb a b) (leb-true a b) (leb-false a b)
  where
    go : (t : Bool) → (t ≡ true → a ≤ b) → (t ≡ false → b < a) → (a ≤ b) ⊎ (b < a)
    go true h k = inl (h refl)
    go false h k = inr (k refl)

-- ---- lengths

pub year_bounds : (y : ℕ) → (365 ≤ year_length y) × (year_length y ≤ 366)
unfolding year_length
year_bounds y = go (leap y)
  where
    go : (b : Bool) → (365 ≤ cond b 366 365) × (cond b 366 365 ≤ 366)
    go true = omega arith
    go false = omega arith

pub month_bounds : (y m : ℕ) → (28 ≤ month_length y m) × (month_length y m ≤ 31)
unfolding month_length
month_bounds y m = go (lib.Dec.eqb m 2) (leap y) (Rattle.calendar.specs.Calendar.short m)
  where
    go : (a b c : Bool) → (28 ≤ cond a (cond b 29 28) (cond c 30 31)) × (cond a (cond b 29 28) (cond c 30 31) ≤ 31)
    go true true c = omega arith
    go true false c = omega arith
    go false b true = omega arith
    go false b false = omega arith

-- The twelve months make a year.
pub year_of_months : (y : ℕ) → days_of_months y 12 ≡ year_length y
unfolding days_of_months month_length year_length
year_of_months y = go (leap y) refl
  where
    go : (b : Bool) → leap y ≡ b → days_of_months y 12 ≡ year_length y
    go true e = rw e
    go false e = rw e

-- One month more, and one year more.
pub month_more : (y m : ℕ) → 1 ≤ m → days_of_months y m ≡ days_of_months y (m - 1) + month_length y m
unfolding days_of_months
month_more y zero h = absurd (omega arith)
month_more y (suc m) h =
    let e : m ≡ suc m - 1 = omega arith in
    ap (λ (z : ℕ). days_of_months y z + month_length y (suc m)) e

pub year_more : (y : ℕ) → 1900 ≤ y → days_of_years (y + 1 - 1900) ≡ days_of_years (y - 1900) + year_length y
unfolding days_of_years
year_more y h =
    let e : y + 1 - 1900 ≡ suc (y - 1900) = omega arith in
    let k : 1900 + (y - 1900) ≡ y = omega arith in
    ap days_of_years e ∙ ap (λ (z : ℕ). days_of_years (y - 1900) + year_length z) k

-- The days of the first months, counted one after the other, and bounds of years and months.
pub more_months : {days size : ℕ} (y i : ℕ) → days ≡ days_of_months y i → size ≡ month_length y (i + 1) → days + size ≡ days_of_months y (i + 1)
unfolding days_of_months
more_months y i e f = rw (e, f, add-one)

pub years_most : (i : ℕ) → days_of_years i ≤ 366 * i
unfolding days_of_years
years_most zero = omega arith
years_most (suc i) = omega (arith, years_most i, year_bounds (1900 + i))

pub years_least : (i : ℕ) → 365 * i ≤ days_of_years i
unfolding days_of_years
years_least zero = omega arith
years_least (suc i) = omega (arith, years_least i, year_bounds (1900 + i))

pub months_most : (y i : ℕ) → days_of_months y i ≤ 31 * i
unfolding days_of_months
months_most y zero = omega arith
months_most y (suc i) = omega (arith, months_most y i, month_bounds y (suc i))

pub all_months : {days : ℕ} (y i n : ℕ) → days ≡ days_of_months y i → i ≤ n → n ≤ i → days ≡ days_of_months y n
all_months y i n e h l = e ∙ ap (days_of_months y) (le_antisymm h l)

-- ---- the day after, by its three cases

module _ (y m d : ℕ) where
  pub in_month : d < month_length y m → day_after (date y m d) ≡ date y m (d + 1)
  unfolding day_after
  in_month h = rw (lt-ltb d (month_length y m) h)

  pub at_month_end : d ≡ month_length y m → m < 12 → day_after (date y m d) ≡ date y (m + 1) 1
  unfolding day_after
  at_month_end h l = rw (le-ltb d (month_length y m) (omega arith), lt-ltb m 12 l)

  pub at_year_end : d ≡ month_length y m → m ≡ 12 → day_after (date y m d) ≡ date (y + 1) 1 1
  unfolding day_after
  at_year_end h l = rw (le-ltb d (month_length y m) (omega arith), le-ltb m 12 (omega arith))

  -- A date that exists stands at the one, the other or the third.
  pub by_cases : {C : Type 0} → Exists y m d → (d < month_length y m → C) → (d ≡ month_length y m → m < 12 → C) → (d ≡ month_length y m → m ≡ 12 → C) → C
  by_cases {C} h f g k = go (ordered (month_length y m) d) (ordered 12 m)
    where
      go : (month_length y m ≤ d) ⊎ (d < month_length y m) → (12 ≤ m) ⊎ (m < 12) → C
      go (inr l) b = f l
      go (inl e) (inr l) = g (omega arith) l
      go (inl e) (inl l) = k (omega arith) (omega arith)

-- ---- the day after exists

december : (y : ℕ) → month_length y 12 ≡ 31
unfolding month_length
december y = refl

first : (y m : ℕ) → 1 ≤ m → m ≤ 12 → Exists y m 1
first y m a b = record { month_from = a; month_to = b; day_from = omega arith; day_to = omega (arith, month_bounds y m) }

pub after-exists : (y m d : ℕ) → Exists y m d → T (exists (day_after (date y m d)))
after-exists y m d h =
    by_cases y m d h
    (λ l. subst (λ (a : Date). T (exists a)) (sym (in_month y m d l)) (truly (is_exists y m (d + 1) (record { month_from = h.month_from; month_to = h.month_to; day_from = omega arith; day_to = omega arith }))))
    (λ e l. subst (λ (a : Date). T (exists a)) (sym (at_month_end y m d e l)) (truly (is_exists y (m + 1) 1 (first y (m + 1) (omega arith) (omega arith)))))
    (λ e l. subst (λ (a : Date). T (exists a)) (sym (at_year_end y m d e l)) (truly (is_exists (y + 1) 1 1 (first (y + 1) 1 (omega arith) (omega arith)))))
  where
    truly : {b : Bool} → b ≡ true → T b
    truly e = subst T (sym e) tt

pub after-year : (y m d : ℕ) → Exists y m d → y ≤ (day_after (date y m d)).year
after-year y m d h =
    by_cases y m d h
    (λ l. subst (λ (a : Date). y ≤ a.year) (sym (in_month y m d l)) (omega arith))
    (λ e l. subst (λ (a : Date). y ≤ a.year) (sym (at_month_end y m d e l)) (omega arith))
    (λ e l. subst (λ (a : Date). y ≤ a.year) (sym (at_year_end y m d e l)) (omega arith))

-- ---- and has the next number

pub number_is : (y m d : ℕ) → number_of (date y m d) ≡ days_of_years (y - 1900) + days_of_months y (m - 1) + (d - 1)
unfolding number_of
number_is y m d = refl

pub number-sum : {a b : ℕ} (y m d : ℕ) → a ≡ days_of_years (y - 1900) → b ≡ days_of_months y (m - 1) → a + b + (d - 1) ≡ number_of (date y m d)
unfolding number_of
number-sum y m d e f = rw (e, f)

new_month : (y m d : ℕ) → 1 ≤ m → 1 ≤ d → d ≡ month_length y m → number_of (date y (m + 1) 1) ≡ suc (number_of (date y m d))
new_month y m d h l e =
    let k : m + 1 - 1 ≡ m = omega arith in
    let n : number_of (date y (m + 1) 1) ≡ days_of_years (y - 1900) + days_of_months y m + 0 = number_is y (m + 1) 1 ∙ ap (λ (z : ℕ). days_of_years (y - 1900) + days_of_months y z + 0) k in
    omega (arith, n, number_is y m d, month_more y m h)

new-year : (y m d : ℕ) → 1900 ≤ y → m ≡ 12 → 1 ≤ d → d ≡ month_length y m → number_of (date (y + 1) 1 1) ≡ suc (number_of (date y m d))
unfolding days_of_months
new-year y m d h e l g =
    let n : number_of (date (y + 1) 1 1) ≡ days_of_years (y + 1 - 1900) + 0 + 0 = number_is (y + 1) 1 1 in
    let k : days_of_months y m ≡ year_length y = ap (days_of_months y) e ∙ year_of_months y in
    let o : 1 ≤ m = omega arith in
    omega (arith, n, k, number_is y m d, year_more y h, month_more y m o)

pub after-number : (y m d : ℕ) → 1900 ≤ y → Exists y m d → number_of (day_after (date y m d)) ≡ suc (number_of (date y m d))
after-number y m d f h =
    by_cases y m d h
    (λ l. ap number_of (in_month y m d l) ∙ omega (arith, number_is y m d, number_is y m (d + 1), h.day_from))
    (λ e l. ap number_of (at_month_end y m d e l) ∙ new_month y m d h.month_from h.day_from e)
    (λ e l. ap number_of (at_year_end y m d e l) ∙ new-year y m d f l h.day_from e)

-- The year 2448 begins after the last day.
pub beyond : (y m d : ℕ) → 2447 < y → 200000 < number_of (date y m d)
beyond y m d h = omega (arith, number_is y m d, years_least (y - 1900))

-- Equal days are the same answer.
pub day_is : {a b : ℕ} → a ≡ b → ◌≡◌ {A = Result ℕ DateError} (Ok a) (Ok b)
day_is e = ap Ok e
