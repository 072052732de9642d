-- What the checks of settings, cashflows, sigma, pillars and single numbers say where they are passed. Assumes nothing.
use Rattle.std.specs.Prelude.{◌≡◌, refl, not, ◌&&◌, ◌||◌, ℕ, ◌-◌, ◌≤◌, ◌<◌, length, get_or, T, ltb, leb, eqb, Float, Ok}
use Rattle.std.proofs.Common.{arith, lt→ltb, nltb→le, eqb→eq}
use Rattle.std.proofs.Math.Dec.{nleb→lt}
use Rattle.std.specs.Float.Ieee.{lt}
use Rattle.std.specs.Float.Ieee.Scale.{finite}
use Rattle.std.specs.Float.Ieee.Fits.{eq→eqb}
use Rattle.floats.specs.Answers.{plus_zero}
use Rattle.terms.specs.Numbers.{float, amount_limit}
use Rattle.terms.specs.Terms.{Leg, SigmaSchedule, Pillars, TimeGrid}
use Rattle.terms.specs.Checks.{outside, no_day, beyond, not_above, not_up_to, falls, settings, leg_count, sigma_count, pillar_count, settlement_day, leg_days, pillar_days, units_range, within, amount_range, sigma_range, factor_range, sigma_order, last_day, any_paid, pillar_order}
use Rattle.terms.specs.laws.Limits.{amount_limit-finite, ten-finite, six_hundred_finite, thousand_finite}
use Rattle.terms.specs.laws.Sequence.{single-passed, indexed-passed}
use Rattle.terms.specs.laws.Counts.{parallel_two, parallel_three}
use Rattle.terms.specs.laws.Ranges.{Above, UpTo, PlusMinus, above_of, up_to_of, within_of, inside_of, neither, none_of, not_and_r, of_not_not, not_cond, same_length}
use Rattle.floats.specs.declared.Reason.TheVariants as reason

-- ---- single fields

-- 1: steps per year 1 to 366, maximum steps 1 to 512.
pub record StepsInRange (g : TimeGrid) : Type 0 where
  pub some-year : 1 ≤ g.per_year
  pub few-year : g.per_year ≤ 366
  pub some-steps : 1 ≤ g.maximum
  pub few-steps : g.maximum ≤ 512

pub settings-passed : (g : TimeGrid) → settings g ≡ Ok tt → StepsInRange g
settings-passed g h =
    let year = outside 1 366 g.per_year in
    let steps = outside 1 512 g.maximum in
    let b = neither year steps (single-passed reason.Setting 0 (year || steps) h) in
    let y = inside_of 1 366 g.per_year b.0 in
    let s = inside_of 1 512 g.maximum b.1 in
    record { some-year = y.0; few-year = y.1; some-steps = s.0; few-steps = s.1 }

-- 3: the settlement day is 0 to 200,000.
pub settlement-passed : (d : ℕ) → settlement_day d ≡ Ok tt → d ≤ 200000
settlement-passed d h = nltb→le 200000 d (single-passed reason.Day 0 (no_day d) h)

-- 4: units are above 0 and up to 1e12.
pub units-passed : (u : Float) → units_range u ≡ Ok tt → Above amount_limit u
units-passed u h = above_of amount_limit u amount_limit-finite (single-passed reason.Number 0 (not_above amount_limit u) h)

-- 4: a single number is within ± its limit.
pub within-passed : (limit x : Float) → T (finite limit) → within limit x ≡ Ok tt → PlusMinus limit x
within-passed limit x f h = within_of limit x f (single-passed reason.Number 0 (beyond limit x) h)

-- ---- cashflows

module _ (l : Leg) where
  -- 2: 1 to 256 cashflows, as many kinds and amounts as days.
  pub record LegCounted : Type 0 where
    pub some : 1 ≤ length l.days
    pub few : length l.days ≤ 256
    pub kinds_too : length l.kinds ≡ length l.days
    pub amounts_too : length l.amounts ≡ length l.days

  pub leg-counted : leg_count l ≡ Ok tt → LegCounted
  leg-counted h =
      let p = parallel_three (outside 1 256 (length l.days)) (length l.days) (length l.kinds) (length l.amounts) h in
      let c = inside_of 1 256 (length l.days) p.0 in
      record { some = c.0; few = c.1; kinds_too = p.1; amounts_too = p.2 }

  -- 3: the day is 0 to 200,000 and not before the day before it in the list, the kind 0 or 1.
  pub record Cashflow (i : ℕ) : Type 0 where
    pub day : get_or l.days i 0 ≤ 200000
    pub not_falling : 0 < i → get_or l.days (i - 1) 0 ≤ get_or l.days i 0
    pub kind : get_or l.kinds i 0 ≤ 1

  pub leg_days-passed : leg_days l ≡ Ok tt → (i : ℕ) → i < length l.days → Cashflow i
  leg_days-passed h i u =
      let d = get_or l.days i 0 in
      let b = none_of (no_day d) (falls l.days i) (ltb 1 (get_or l.kinds i 0)) (indexed-passed _ _ l.days h i u) in
      record {
        day = nltb→le 200000 d b.0;
        not_falling = λ s. nltb→le d (get_or l.days (i - 1) 0) (not_and_r (ltb 0 i) (ltb d (get_or l.days (i - 1) 0)) b.1 (lt→ltb 0 i s));
        kind = nltb→le 1 (get_or l.kinds i 0) b.2;
      }

  -- 4: each amount is within ±1e12.
  pub amounts-passed : amount_range l ≡ Ok tt → (i : ℕ) → i < length l.amounts → PlusMinus amount_limit (get_or l.amounts i plus_zero)
  amounts-passed h i u = within_of amount_limit (get_or l.amounts i plus_zero) amount_limit-finite (indexed-passed _ _ l.amounts h i u)

  -- 7: the last day is after settlement.
  pub paid-passed : (settlement : ℕ) → any_paid settlement l ≡ Ok tt → settlement < last_day l.days
  paid-passed settlement h = nleb→lt (last_day l.days) settlement (single-passed reason.NothingPaid 0 (leb (last_day l.days) settlement) h)

-- ---- sigma

module _ (s : SigmaSchedule) where
  -- 2: 1 to 64 entries, as many sigmas as times.
  pub record SigmaCounted : Type 0 where
    pub some : 1 ≤ length s.times
    pub few : length s.times ≤ 64
    pub sigmas_too : length s.sigmas ≡ length s.times

  pub sigma-counted : sigma_count s ≡ Ok tt → SigmaCounted
  sigma-counted h =
      let p = parallel_two (outside 1 64 (length s.times)) (length s.times) (length s.sigmas) h in
      let c = inside_of 1 64 (length s.times) p.0 in
      record { some = c.0; few = c.1; sigmas_too = p.1 }

  -- 4: the time is 0 to 600, sigma 0 to 10.
  pub record SigmaEntry (i : ℕ) : Type 0 where
    pub time : UpTo (float 600) (get_or s.times i plus_zero)
    pub sigma : UpTo (float 10) (get_or s.sigmas i plus_zero)

  pub sigma_range-passed : sigma_range s ≡ Ok tt → (i : ℕ) → i < length s.times → SigmaEntry i
  sigma_range-passed h i u =
      let t = get_or s.times i plus_zero in
      let v = get_or s.sigmas i plus_zero in
      let b = neither (not_up_to (float 600) t) (not_up_to (float 10) v) (indexed-passed _ _ s.times h i u) in
      record { time = up_to_of (float 600) t six_hundred_finite b.0; sigma = up_to_of (float 10) v ten-finite b.1 }

  -- 6: times rise strictly.
  pub sigma_order-passed : sigma_order s ≡ Ok tt → (i : ℕ) → i < length s.times → 0 < i → T (lt (get_or s.times (i - 1) plus_zero) (get_or s.times i plus_zero))
  sigma_order-passed h i u p =
      let rises = lt (get_or s.times (i - 1) plus_zero) (get_or s.times i plus_zero) in
      of_not_not rises (not_and_r (ltb 0 i) (not rises) (indexed-passed _ _ s.times h i u) (lt→ltb 0 i p))

-- ---- pillars

module _ (p : Pillars) where
  -- 2: 2 to 256 pillars, as many factors as days.
  pub record PillarsCounted : Type 0 where
    pub two : 2 ≤ length p.days
    pub few : length p.days ≤ 256
    pub factors_too : length p.factors ≡ length p.days

  pub pillars-counted : pillar_count p ≡ Ok tt → PillarsCounted
  pillars-counted h =
      let q = parallel_two (outside 2 256 (length p.days)) (length p.days) (length p.factors) h in
      let c = inside_of 2 256 (length p.days) q.0 in
      record { two = c.0; few = c.1; factors_too = q.1 }

  -- 3: each day is 0 to 200,000.
  pub pillar_days-passed : pillar_days p ≡ Ok tt → (i : ℕ) → i < length p.days → get_or p.days i 0 ≤ 200000
  pillar_days-passed h i u = nltb→le 200000 (get_or p.days i 0) (indexed-passed _ _ p.days h i u)

  -- 4: each factor is within ±1000.
  pub factors-passed : factor_range p ≡ Ok tt → (i : ℕ) → i < length p.factors → PlusMinus (float 1000) (get_or p.factors i plus_zero)
  factors-passed h i u = within_of (float 1000) (get_or p.factors i plus_zero) thousand_finite (indexed-passed _ _ p.factors h i u)

  -- 8: the first pillar is at settlement, days rise strictly, the last is not before maturity.
  pub record PillarsOrdered (settlement maturity : ℕ) : Type 0 where
    pub first : 0 < length p.days → get_or p.days 0 0 ≡ settlement
    pub rising : (i : ℕ) → i < length p.days → 0 < i → get_or p.days (i - 1) 0 < get_or p.days i 0
    pub reaches : 2 ≤ length p.days → maturity ≤ get_or p.days (length p.days - 1) 0

  module _ (settlement maturity : ℕ) (h : pillar_order settlement maturity p ≡ Ok tt) where
    -- a pillar after the first
    later : (i : ℕ) → i < length p.days → 0 < i → (get_or p.days (i - 1) 0 < get_or p.days i 0) × (i ≡ length p.days - 1 → maturity ≤ get_or p.days i 0)
    later i u s =
        let here = get_or p.days i 0 in
        let before = get_or p.days (i - 1) 0 in
        let last = eqb i (length p.days - 1) in
        let wrong = leb here before || (last && ltb here maturity) in
        let b = neither (leb here before) (last && ltb here maturity)
        (not_cond (eqb i 0) (not (eqb (get_or p.days 0 0) settlement)) wrong (λ t. let z = eqb→eq i 0 t in omega arith) (indexed-passed _ _ p.days h i u)) in
        (nleb→lt here before b.0, λ e. nltb→le here maturity (not_and_r last (ltb here maturity) b.1 (eq→eqb e)))

    pub pillar_order-passed : PillarsOrdered settlement maturity
    pillar_order-passed =
        record {
          first = λ u. same_length (get_or p.days 0 0) settlement (indexed-passed _ _ p.days h 0 u);
          rising = λ i u s. (later i u s).0;
          reaches = λ t. (later (length p.days - 1) (omega arith) (omega arith)).1 refl;
        }
