-- A later day never has a smaller 30E number. Assumes nothing.
use Rattle.std.specs.Prelude.{ℕ, zero, suc, ◌+◌, ◌-◌, ◌*◌, ◌≤◌, min, ◌≡◌, refl}
use Rattle.std.proofs.Common.{sym, ap, subst, ◌∙◌, arith}
use Rattle.calendar.specs.declared.Date.{Date}
use Rattle.calendar.specs.Calendar.{date_of, day_after, thirty_days, thirties}
use Rattle.calendar.specs.laws.Days.{date, Exists, exists_is, by_cases, in_month, at_month_end, at_year_end, number_is, years_least}
use Rattle.calendar.specs.laws.BothWays.{date_exists_lem, number_of-date}

thirty_is : (y m d : ℕ) → thirty_days (date y m d) ≡ 360 * y + 30 * m + min d 30
unfolding thirty_days
thirty_is y m d = refl

after-no_less : (y m d : ℕ) → Exists y m d → thirty_days (date y m d) ≤ thirty_days (day_after (date y m d))
after-no_less y m d h =
    by_cases y m d h
    (λ l. subst (λ (a : Date). thirty_days (date y m d) ≤ thirty_days a) (sym (in_month y m d l)) (omega (arith, thirty_is y m d, thirty_is y m (d + 1))))
    (λ e l. subst (λ (a : Date). thirty_days (date y m d) ≤ thirty_days a) (sym (at_month_end y m d e l)) (omega (arith, thirty_is y m d, thirty_is y (m + 1) 1)))
    (λ e l. subst (λ (a : Date). thirty_days (date y m d) ≤ thirty_days a) (sym (at_year_end y m d e l)) (omega (arith, thirty_is y m d, thirty_is (y + 1) 1 1)))

next_no_less : (n : ℕ) → thirty_days (date_of n) ≤ thirty_days (date_of (suc n))
unfolding date_of
next_no_less n = let d = date_of n in after-no_less d.year d.month d.day (exists_is d.year d.month d.day (date_exists_lem n).0)

later : (a k : ℕ) → thirty_days (date_of a) ≤ thirty_days (date_of (a + k))
later a zero = let e : a + 0 ≡ a = omega arith in subst (λ (z : ℕ). thirty_days (date_of a) ≤ thirty_days (date_of z)) (sym e) (omega arith)
later a (suc k) =
    let e : a + suc k ≡ suc (a + k) = omega arith in
    subst (λ (z : ℕ). thirty_days (date_of a) ≤ thirty_days (date_of z)) (sym e) (omega (arith, later a k, next_no_less (a + k)))

-- A later day never has a smaller 30E number.
pub later-no_less : (a b : ℕ) → a ≤ b → thirties a ≤ thirties b
unfolding thirties
later-no_less a b h =
    let x = min 200000 a in
    let y = min 200000 b in
    let e : x + (y - x) ≡ y = omega arith in
    subst (λ (z : ℕ). thirty_days (date_of x) ≤ thirty_days (date_of z)) e (later x (y - x))

-- No 30E number is above 882000, so each is a double exactly.
few : (n : ℕ) → n ≤ 200000 → thirty_days (date_of n) ≤ 882000
few n h =
    let d = date_of n in
    let x = exists_is d.year d.month d.day (date_exists_lem n).0 in
    omega (arith, thirty_is d.year d.month d.day, number_of-date n, number_is d.year d.month d.day, years_least (d.year - 1900), x.month_to, (date_exists_lem n).1)

pub thirties-few : (n : ℕ) → thirties n ≤ 882000
unfolding thirties
thirties-few n = few (min 200000 n) (omega arith)

-- ---- as `thirties` works it out

pub date-few : {d : Date} {n : ℕ} (day : ℕ) → n ≡ min 200000 day → d ≡ date_of n → (d.year ≤ 2447) × (d.month ≤ 12)
date-few {d} {n} day h e =
    let x = exists_is (date_of n).year (date_of n).month (date_of n).day (date_exists_lem n).0 in
    rw e
    (omega (arith, number_of-date n, number_is (date_of n).year (date_of n).month (date_of n).day, years_least ((date_of n).year - 1900), (date_exists_lem n).1), x.month_to)

pub as_thirties : {r a : ℕ} {d : Date} (n : ℕ) → a ≡ min 200000 n → d ≡ date_of a → r ≡ thirty_days d → r ≡ thirties n
unfolding thirties
as_thirties n e f g = g ∙ ap thirty_days (f ∙ ap date_of e)
