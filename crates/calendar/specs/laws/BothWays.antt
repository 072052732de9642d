-- The numbers and the dates of the days from 1 January 1900 on are each other's: the number of a day's date is the day, and the date of a date's number is the date. By induction, from day to day and over days, months and years. Assumes nothing.
use Rattle.std.specs.Prelude.{ℕ, zero, suc, ◌+◌, ◌-◌, ◌≤◌, ◌≡◌, refl, Bool, true, false, T, ltb, Result, Ok, Err, Some}
use Rattle.std.proofs.Common.{sym, ap, subst, ◌∙◌, add-one, arith, le-ltb, ltb-false}
use Rattle.calendar.specs.declared.Date.{Date}
use Rattle.calendar.specs.declared.DateError.{DateError}
use Rattle.calendar.specs.declared.DateError.TheVariants.{NoSuchDate, OutOfRange}
use Rattle.calendar.specs.Calendar.{month_length, exists, number_of, day_after, date_of, dated, dating, last_day}
use Rattle.calendar.specs.laws.Days.{date, Exists, exists_is, month_bounds, in_month, at_month_end, at_year_end, after-exists, after-year, after-number}

-- ---- every day has a date that exists, with the day as its number

pub date_exists_lem : (n : ℕ) → T (exists (date_of n)) × (1900 ≤ (date_of n).year)
unfolding date_of exists
date_exists_lem zero = (tt, omega arith)
date_exists_lem (suc n) =
    let d = date_of n in
    let h : Exists d.year d.month d.day = exists_is d.year d.month d.day (date_exists_lem n).0 in
    (after-exists d.year d.month d.day h, omega (arith, (date_exists_lem n).1, after-year d.year d.month d.day h))

pub number_of-date : (n : ℕ) → number_of (date_of n) ≡ n
unfolding date_of number_of
number_of-date zero = refl
number_of-date (suc n) =
    let d = date_of n in
    let h : Exists d.year d.month d.day = exists_is d.year d.month d.day (date_exists_lem n).0 in
    after-number d.year d.month d.day (date_exists_lem n).1 h ∙ ap suc (number_of-date n)

-- ---- every date that exists is its number's

abbrev Back : Date → Type 0
Back d = date_of (number_of d) ≡ d

back-after : (y m d : ℕ) (b : Date) → 1900 ≤ y → Exists y m d → day_after (date y m d) ≡ b → Back (date y m d) → Back b
unfolding date_of
back-after y m d b f h e p =
    ap (λ (z : Date). date_of (number_of z)) (sym e)
    ∙ ap date_of (after-number y m d f h)
    ∙ ap day_after p
    ∙ e

-- the days of a month, from its first
back-days : (y m d : ℕ) → 1900 ≤ y → Exists y m (suc d) → Back (date y m 1) → Back (date y m (suc d))
back-days y m zero f h p = p
back-days y m (suc d) f h p =
    let g : Exists y m (suc d) = record { month_from = h.month_from; month_to = h.month_to; day_from = omega arith; day_to = omega (arith, h.day_to) } in
    back-after y m (suc d) (date y m (suc (suc d))) f g (in_month y m (suc d) (omega (arith, h.day_to)) ∙ ap (date y m) (add-one (suc d))) (back-days y m d f g p)

-- the last of a month
back_last : (y m : ℕ) → 1900 ≤ y → 1 ≤ m → m ≤ 12 → Back (date y m 1) → Exists y m (month_length y m) × Back (date y m (month_length y m))
back_last y m f a b p =
    let e : suc (month_length y m - 1) ≡ month_length y m = omega (arith, month_bounds y m) in
    let h : Exists y m (month_length y m) = record { month_from = a; month_to = b; day_from = omega (arith, month_bounds y m); day_to = omega arith } in
    (h, subst (λ (z : ℕ). Back (date y m z)) e (back-days y m (month_length y m - 1) f (subst (λ (z : ℕ). Exists y m z) (sym e) h) p))

-- the first of the months of a year, from January's
back_months : (y m : ℕ) → 1900 ≤ y → suc m ≤ 12 → Back (date y 1 1) → Back (date y (suc m) 1)
back_months y zero f h p = p
back_months y (suc m) f h p =
    let l = back_last y (suc m) f (omega arith) (omega arith) (back_months y m f (omega arith) p) in
    back-after y (suc m) (month_length y (suc m)) (date y (suc (suc m)) 1) f l.0
    (at_month_end y (suc m) (month_length y (suc m)) refl (omega arith) ∙ ap (λ (z : ℕ). date y z 1) (add-one (suc m)))
    l.1

-- the first of the years
back_years : (k : ℕ) → Back (date (1900 + k) 1 1)
unfolding date_of number_of
back_years zero = refl
back_years (suc k) =
    let f : 1900 ≤ 1900 + k = omega arith in
    let l = back_last (1900 + k) 12 f (omega arith) (omega arith) (back_months (1900 + k) 11 f (omega arith) (back_years k)) in
    back-after (1900 + k) 12 (month_length (1900 + k) 12) (date (1900 + suc k) 1 1) f l.0
    (at_year_end (1900 + k) 12 (month_length (1900 + k) 12) refl refl ∙ ap (λ (z : ℕ). date z 1 1) next)
    l.1
  where
    next : 1900 + k + 1 ≡ 1900 + suc k
    next = omega arith

back : (y m d : ℕ) → 1900 ≤ y → Exists y m d → Back (date y m d)
back y m d f h =
    let a : 1900 + (y - 1900) ≡ y = omega arith in
    let b : suc (m - 1) ≡ m = omega (arith, h.month_from) in
    let c : suc (d - 1) ≡ d = omega (arith, h.day_from) in
    let p : Back (date y 1 1) = subst (λ (z : ℕ). Back (date z 1 1)) a (back_years (y - 1900)) in
    let q : Back (date y m 1) = subst (λ (z : ℕ). Back (date y z 1)) b (back_months y (m - 1) f (omega (arith, h.month_to)) p) in
    subst (λ (z : ℕ). Back (date y m z)) c (back-days y m (d - 1) f (subst (λ (z : ℕ). Exists y m z) (sym c) h) q)

pub date_of-number : (d : Date) → T (exists d) → 1900 ≤ d.year → date_of (number_of d) ≡ d
date_of-number d t f = back d.year d.month d.day f (exists_is d.year d.month d.day t)

-- ---- as the two functions answer

pub dated-of_day : (n : ℕ) → n ≤ last_day → dated (date_of n) ≡ Ok n
unfolding dated
dated-of_day n h =
    rw (number_of-date n, true_of (exists (date_of n)) (date_exists_lem n).0, le-ltb (date_of n).year 1900 (date_exists_lem n).1, le-ltb last_day n h)
  where
    true_of : (b : Bool) → T b → b ≡ true
    true_of true t = refl
    true_of false t = absurd t

pub dating_of_date : (d : Date) (n : ℕ) → dated d ≡ Ok n → dating n ≡ Some d
unfolding dated dating
dating_of_date d n = go (exists d) (ltb d.year 1900) (ltb last_day (number_of d)) refl refl refl
  where
    day_same : (a b : ℕ) → ◌≡◌ {A = Result ℕ DateError} (Ok a) (Ok b) → a ≡ b
    day_same a b e = cc

    not_a_day : (x : Result ℕ DateError) (a : ℕ) → x ≡ Err OutOfRange → x ≡ Ok a → ⊥
    not_a_day x a e f = cc

    not_a_date : (x : Result ℕ DateError) (a : ℕ) → x ≡ Err NoSuchDate → x ≡ Ok a → ⊥
    not_a_date x a e f = cc

    go : (a b c : Bool) → exists d ≡ a → ltb d.year 1900 ≡ b → ltb last_day (number_of d) ≡ c → dated d ≡ Ok n → dating n ≡ Some d
    go true false false e f g p =
        let q : dated d ≡ Ok (number_of d) = rw (e, f, g) in
        let m : number_of d ≡ n = day_same (number_of d) n (sym q ∙ p) in
        let o : date_of n ≡ d = ap date_of (sym m) ∙ date_of-number d (subst T (sym e) tt) (ltb-false d.year 1900 f) in
        let t : ltb last_day n ≡ false = ap (ltb last_day) (sym m) ∙ g in
        rw (t, o)
    go true false true e f g p = absurd (not_a_day (dated d) n (rw (e, f, g)) p)
    go true true c e f g p = absurd (not_a_day (dated d) n (rw (e, f)) p)
    go false b c e f g p = absurd (not_a_date (dated d) n (rw e) p)
