-- Times at month ends by 30E/360, and what rests on the day and what on the time, computed. Day 29 is 30 January 1900: the checker counts from there.
use Rattle.floats.specs.Reasons.{refusal_number}
use Rattle.std.specs.Prelude.{ℕ, ◌≡◌, refl, true, false, [], ◌∷◌, get_or, Ok, Err}
use Rattle.std.specs.Float.{binary64}
use Rattle.std.specs.Float.Ieee.{div}
use Rattle.std.specs.Float.Ieee as ieee
use Rattle.floats.specs.Answers.{one, on_outcome}
use Rattle.floats.specs.Whole.{rounded}
use Rattle.elementary.specs.Exponential.{exp_at}
use Rattle.elementary.specs.Logarithm.{ln_at}
use Rattle.calendar.specs.Calendar.{thirties}
use Rattle.terms.specs.declared.Settlement.{Settlement}
use Rattle.terms.specs.Numbers.{float}
use Rattle.terms.specs.Terms.{Leg, CallSchedule, Pillars, no_entries}
use Rattle.terms.specs.Times.{time_from, year_fraction}
use Rattle.terms.specs.Checks.{lowest, on_check}
use Rattle.terms.specs.Curve.{curve_over}
use Rattle.bondevents.specs.declared.Exercise.{Exercise}
use Rattle.bondevents.specs.Steps.{raw_step, paid_into}
use Rattle.bondevents.specs.Calls.{new_step}
use Rattle.bondevents.specs.Grid.{grid_answer}
use Rattle.bondpricer.specs.Straight.{straight_value}
use Rattle.interestrate.specs.Prices.{on_price}
use Rattle.interestrate.specs.Rates.{with_code}
use Rattle.bondanalytics.specs.Yields.{price_from_yield}
use Rattle.floats.specs.declared.Reason.TheVariants as reason

abbrev by : ℕ → ℕ → Settlement
by code day = record { day = day; code = code }

-- 100 redeemed on one day.
abbrev redeemed : ℕ → Leg
redeemed day = record { days = day ∷ []; kinds = 1 ∷ []; amounts = float 100 ∷ [] }

abbrev called_on : ℕ → ℕ → CallSchedule
called_on start end = record { starts = start ∷ []; ends = end ∷ []; strikes = float 99 ∷ [] }

abbrev pillars_on : ℕ → ℕ → Pillars
pillars_on first last = record { days = first ∷ last ∷ []; factors = one ∷ one ∷ [] }

-- The calls of the grid of 100 redeemed on one day, by 30E/360 from 30 January 1900, and its refusal.
abbrev call_at : ℕ → CallSchedule → ℕ → ℕ → Exercise
call_at day calls yearly step =
    (get_or (grid_answer (by 2 29) (record { leg = redeemed day; units = float 100; puts = no_entries }) calls (record { per_year = yearly; maximum = 512 })).grid.calls step new_step).call

abbrev number_of : ℕ → CallSchedule → ℕ → ℕ
number_of day calls yearly =
    (refusal_number (grid_answer (by 2 29) (record { leg = redeemed day; units = float 100; puts = no_entries }) calls (record { per_year = yearly; maximum = 512 })).refusal)

pub record Starred : Type 0 where
  -- 30E: no day from 30 to 31 January 1900, nor back; 3 from 28 February 1901 to 1 March; 31 from 29 February 1904 to 31 March; 30 from 31 December 1900 to 31 January.
  pub thirty_first : year_fraction (by 2 29) 30 ≡ float 0
  pub back : year_fraction (by 2 30) 29 ≡ float 0
  pub february_28 : year_fraction (by 2 423) 424 ≡ div binary64 (float 3) (float 360)
  pub february_29 : year_fraction (by 2 1519) 1550 ≡ div binary64 (float 31) (float 360)
  pub over-new-year : year_fraction (by 2 364) 395 ≡ div binary64 (float 30) (float 360)
  -- The same days by Actual/365 and Actual/360.
  pub by_365 : year_fraction (by 0 364) 395 ≡ div binary64 (float 31) (float 365)
  pub by_360 : year_fraction (by 1 364) 395 ≡ div binary64 (float 31) (float 360)
  -- A call on the 31st after a settlement on the 30th stands at step 1, and with one step nowhere. It is on settlement by no day.
  pub call_at_1 : (call_at 395 (called_on 30 30) 12 1).marked ≡ true
  pub call_not_at_0 : (call_at 395 (called_on 30 30) 12 0).marked ≡ false
  pub call-nowhere : (call_at 395 (called_on 30 30) 1 0).marked ≡ false
  -- A call's principal goes by the day: what is redeemed on 31 January 1901 is called on the 30th.
  pub principal_by_day : number_of 395 (called_on 394 394) 2 ≡ 0
  pub no_principal : number_of 395 (called_on 395 395) 2 ≡ 20
  -- From a 30th to its 31st is a window, its two bounds equal: it reaches the step at that time.
  pub window : (call_at 759 (called_on 394 395) 1 1).marked ≡ true
  pub window-only-there : (call_at 759 (called_on 394 395) 1 0).marked ≡ false
  -- All paid on the 31st after a settlement on the 30th: 35 in the grid, a value in the straight value and a price of a yield.
  pub grid_35 : number_of 30 (called_on 30 30) 1 ≡ 35
  pub straight-kept : straight_value (by 2 29) (redeemed 30) (float 0) (pillars_on 29 40) ≡ Ok (float 100)
  pub price-kept : price_from_yield (by 2 29) (redeemed 30) 2 1 (float 1) ≡ Ok (record { price = (float 100); derivative = (float 0) })
  -- 34 in the straight value too; a last pillar on the 30th and a maturity on the 31st are 8, by the day.
  pub straight_34 : straight_value (by 2 29) (redeemed 30) (float 0) (pillars_on 29 30) ≡ Err (record { reason = reason.SameTime; place = 1 })
  pub straight_8 : straight_value (by 2 19) (redeemed 30) (float 0) (pillars_on 19 29) ≡ Err (record { reason = reason.PillarOrder; place = 1 })
  -- 33 comes before the counts.
  pub straight_33 : straight_value (by 3 19) (redeemed 30) (float 0) (record { days = []; factors = [] }) ≡ Err (record { reason = reason.DayCount; place = 0 })

pub starred : Starred
unfolding time_from thirties grid_answer raw_step paid_into straight_value curve_over exp_at ln_at price_from_yield with_code on_price on_outcome on_check lowest rounded ieee.of_bits ieee.add ieee.sub ieee.mul ieee.div ieee.neg ieee.lt ieee.le ieee.eq ieee.of_int ieee.to_unsigned ieee.to_signed
starred =
    record {
      thirty_first = refl;
      back = refl;
      february_28 = refl;
      february_29 = refl;
      over-new-year = refl;
      by_365 = refl;
      by_360 = refl;
      call_at_1 = refl;
      call_not_at_0 = refl;
      call-nowhere = refl;
      principal_by_day = refl;
      no_principal = refl;
      window = refl;
      window-only-there = refl;
      grid_35 = refl;
      straight-kept = refl;
      price-kept = refl;
      straight_34 = refl;
      straight_8 = refl;
      straight_33 = refl;
    }
