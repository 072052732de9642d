-- Definitions only. The input checks, number by number; the place is the lowest index, 0 for single fields, counts and 7.
use Rattle.std.specs.Prelude.{ℕ, zero, suc, ◌-◌, Bool, not, cond, ◌&&◌, ◌||◌, List, [], ◌∷◌, length, get_or, eqb, ltb, leb, Float, Result, Ok, Err}
use Rattle.std.specs.Float.Ieee.{neg, lt, le, eq}
use Rattle.floats.specs.declared.Reason.{Reason}
use Rattle.floats.specs.declared.Refusal as refusals
use Rattle.floats.specs.Refusals.{Refusal}
use Rattle.floats.specs.Answers.{Answer, plus_zero, on_outcome, not_finite, Check}
use Rattle.terms.specs.declared.Settlement.{Settlement}
use Rattle.terms.specs.Numbers.{float, amount_limit, million}
use Rattle.terms.specs.Terms.{Leg, CallSchedule, SigmaSchedule, Pillars, TimeGrid}
use Rattle.terms.specs.Times.{year_fraction}
use Rattle.terms.specs.Curve.{pillar_times}
use Rattle.floats.specs.declared.Reason.TheVariants as reason

-- ---- how checks follow one another

unfoldable pub on_check {ℓ} : {A : Type ℓ} → Check → (Refusal → A) → A → A
on_check (Ok tt) f a = a
on_check (Err r) f a = f r

-- What an answer refuses; a value refuses nothing.
abbrev pub refused_by : Answer → Check
refused_by a = on_outcome a Err λ x. Ok tt

-- The first refusal of a list of checks.
unfoldable pub first_of : List Check → Check
unfolding on_check
first_of [] = Ok tt
first_of (c ∷ cs) = on_check c Err (first_of cs)

-- A cause that has one place. The reason may be of any type, as a number.
abbrev pub single : {R : Type 0} → R → ℕ → Bool → Result (Unit {0}) (refusals.Refusal R)
single why place bad = cond bad (Err (record { reason = why; place = place })) (Ok tt)

-- The lowest index from i on, of count indices, at which the cause holds.
unfoldable pub lowest : Reason → (ℕ → Bool) → ℕ → ℕ → Check
lowest why bad zero i = Ok tt
lowest why bad (suc count) i = cond (bad i) (Err (record { reason = why; place = i })) (lowest why bad count (suc i))

abbrev pub indexed : {A : Type 0} → Reason → (ℕ → Bool) → List A → Check
indexed why bad xs = lowest why bad (length xs) 0

-- ---- ranges

-- Outside low..high.
abbrev pub outside : ℕ → ℕ → ℕ → Bool
outside low high n = ltb n low || ltb high n

-- All days are whole, 0 to 200,000.
abbrev pub no_day : ℕ → Bool
no_day d = ltb 200000 d

-- Not finite, or not within ±limit.
abbrev pub beyond : Float → Float → Bool
beyond limit x = not_finite x || (lt x (neg limit) || lt limit x)

-- Not finite, or not above 0 and up to limit.
abbrev pub not_above : Float → Float → Bool
not_above limit x = not_finite x || (le x plus_zero || lt limit x)

-- Not finite, or not 0 to limit. −0 is inside.
abbrev pub not_up_to : Float → Float → Bool
not_up_to limit x = not_finite x || (lt x plus_zero || lt limit x)

-- ---- 1: grid setting outside range

-- Steps per year 1 to 366, maximum steps 1 to 512.
abbrev pub settings : TimeGrid → Check
settings g = single reason.Setting 0 (outside 1 366 g.per_year || outside 1 512 g.maximum)

-- ---- 33: a day-count code that is unknown

-- 0 Actual/365, 1 Actual/360, 2 30E/360.
abbrev pub day_count : ℕ → Check
day_count code = single reason.DayCount 0 (ltb 2 code)

-- ---- 2: a list's count outside its limits, or parallel slices of unequal length

-- 1 to 256 cashflows.
abbrev pub leg_count : Leg → Check
leg_count l =
    single reason.Count 0
    (outside 1 256 (length l.days) || (not (eqb (length l.kinds) (length l.days)) || not (eqb (length l.amounts) (length l.days))))

-- 0 to 64 call entries.
abbrev pub call_count : CallSchedule → Check
call_count c =
    single reason.Count 0
    (ltb 64 (length c.starts) || (not (eqb (length c.ends) (length c.starts)) || not (eqb (length c.strikes) (length c.starts))))

-- Put entries: the slices alone. Their count is 37's.
abbrev pub put_count : CallSchedule → Check
put_count p = single reason.Count 0 (not (eqb (length p.ends) (length p.starts)) || not (eqb (length p.strikes) (length p.starts)))

-- 1 to 64 sigma entries.
abbrev pub sigma_count : SigmaSchedule → Check
sigma_count s = single reason.Count 0 (outside 1 64 (length s.times) || not (eqb (length s.sigmas) (length s.times)))

-- 2 to 256 pillars.
abbrev pub pillar_count : Pillars → Check
pillar_count p = single reason.Count 0 (outside 2 256 (length p.days) || not (eqb (length p.factors) (length p.days)))

-- ---- 37: more than 64 puts

abbrev pub put_most : CallSchedule → Check
put_most p = single reason.PutCount 0 (ltb 64 (length p.starts))

-- ---- 3: a day out of range, cashflow days falling, kind not 0 or 1

abbrev pub settlement_day : ℕ → Check
settlement_day d = single reason.Day 0 (no_day d)

-- The place is the later of two out of order.
abbrev pub falls : List ℕ → ℕ → Bool
falls days i = ltb 0 i && ltb (get_or days i 0) (get_or days (i - 1) 0)

abbrev pub leg_days : Leg → Check
leg_days l = indexed reason.Day (λ i. no_day (get_or l.days i 0) || (falls l.days i || ltb 1 (get_or l.kinds i 0))) l.days

abbrev pub call_days : CallSchedule → Check
call_days c = indexed reason.Day (λ i. no_day (get_or c.starts i 0) || no_day (get_or c.ends i 0)) c.starts

abbrev pub pillar_days : Pillars → Check
pillar_days p = indexed reason.Day (λ i. no_day (get_or p.days i 0)) p.days

-- ---- 4: a number not finite or outside its range

-- Units, above 0 and up to 1e12.
abbrev pub units_range : Float → Check
units_range u = single reason.Number 0 (not_above amount_limit u)

-- Alpha within ±10, spread within ±1; a target ±1e15, the yield given ±1e6.
abbrev pub within : Float → Float → Check
within limit x = single reason.Number 0 (beyond limit x)

-- Amounts within ±1e12.
abbrev pub amount_range : Leg → Check
amount_range l = indexed reason.Number (λ i. beyond amount_limit (get_or l.amounts i plus_zero)) l.amounts

-- Strikes above 0 and up to 1e6.
abbrev pub strike_range : CallSchedule → Check
strike_range c = indexed reason.Number (λ i. not_above million (get_or c.strikes i plus_zero)) c.strikes

-- Sigma time 0 to 600; sigma 0 to 10.
abbrev pub sigma_range : SigmaSchedule → Check
sigma_range s =
    indexed reason.Number (λ i. not_up_to (float 600) (get_or s.times i plus_zero) || not_up_to (float 10) (get_or s.sigmas i plus_zero)) s.times

-- A factor within ±1000.
abbrev pub factor_range : Pillars → Check
factor_range p = indexed reason.Number (λ i. beyond (float 1000) (get_or p.factors i plus_zero)) p.factors

-- ---- 5: call or put end before start

abbrev pub call_order : CallSchedule → Check
call_order c = indexed reason.CallOrder (λ i. ltb (get_or c.ends i 0) (get_or c.starts i 0)) c.starts

-- ---- 6: sigma times not strictly rising

abbrev pub sigma_order : SigmaSchedule → Check
sigma_order s = indexed reason.SigmaOrder (λ i. ltb 0 i && not (lt (get_or s.times (i - 1) plus_zero) (get_or s.times i plus_zero))) s.times

-- ---- 7: no cashflow after settlement

-- Maturity is the last paid day: days never fall, so it is the last day of all where any is paid.
abbrev pub last_day : List ℕ → ℕ
last_day days = get_or days (length days - 1) 0

abbrev pub any_paid : ℕ → Leg → Check
any_paid settlement l = single reason.NothingPaid 0 (leb (last_day l.days) settlement)

-- ---- 8: pillar days not strictly rising, first not settlement, last before maturity

abbrev pub pillar_order : ℕ → ℕ → Pillars → Check
pillar_order settlement maturity p =
    indexed reason.PillarOrder
    (λ i.
    cond
    (eqb i 0)
    (not (eqb (get_or p.days 0 0) settlement))
    (leb (get_or p.days i 0) (get_or p.days (i - 1) 0)
    || (eqb i (length p.days - 1) && ltb (get_or p.days i 0) maturity)))
    p.days

-- ---- 34: two pillars at one time

-- The later one is the place. Times never fall where 8 passed, so two at one time are neighbours.
abbrev pub same_times : List Float → Check
same_times times = indexed reason.SameTime (λ i. ltb 0 i && eq (get_or times (i - 1) plus_zero) (get_or times i plus_zero)) times

abbrev pub pillars_apart : Settlement → Pillars → Check
pillars_apart settlement p = same_times (pillar_times settlement p.days)

-- ---- 35: a maturity whose time is 0

abbrev pub maturity_apart : Settlement → Leg → Check
maturity_apart settlement l = single reason.NoTime 0 (eq (year_fraction settlement (last_day l.days)) plus_zero)

-- ---- 44: a pillar factor that isn't positive

abbrev pub positive_factors : Pillars → Check
positive_factors p = indexed reason.FactorNotPositive (λ i. le (get_or p.factors i plus_zero) plus_zero) p.factors
