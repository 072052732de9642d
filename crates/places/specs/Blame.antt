-- Definitions only. The checks that look at each entry of a market, and whose entry a refusal is about.
use Rattle.floats.specs.Reasons.{reason_number}
use Rattle.std.specs.Prelude.{ℕ, cond, List, [], ◌∷◌, ◌++◌, eqb, Ok}
use Rattle.floats.specs.Refusals.{Refusal}
use Rattle.floats.specs.Answers.{Check}
use Rattle.terms.specs.Numbers.{float}
use Rattle.terms.specs.Terms.{CallSchedule, Market}
use Rattle.terms.specs.Checks.{first_of, settings, day_count, settlement_day, leg_days, call_days, pillar_days, units_range, within, amount_range, strike_range, sigma_range, factor_range, call_order, sigma_order, any_paid, maturity_apart, positive_factors}
use Rattle.terms.specs.Entries.{curve_orders}
use Rattle.places.specs.declared.Whose.{Whose}
use Rattle.places.specs.declared.Whose.TheVariants.{Nobody, Steps, Settlement, Units, Alpha, Spread, Cashflow, Call, Sigma, Pillar}
use Rattle.places.specs.Places.{whose_day, whose_field, whose_number, whose_order}

-- Of days, 3; of numbers, 4; of orders, 1 and 5 to 8, with 33 and 35 beside 7, 34 and 44 beside 8.
pub record Looks : Type 0 where
  pub day : Check
  pub number : Check
  pub order : Check

abbrev pub looks : Check → Check → Check → Looks
looks day number order = record { day = day; number = number; order = order }

-- 33, 7 and 35.
abbrev pub settlement_orders : Market → List Check
settlement_orders m = day_count m.settlement.code ∷ any_paid m.settlement.day m.bond.leg ∷ maturity_apart m.settlement m.bond.leg ∷ []

-- 8, 34 and 44.
abbrev pub pillar_orders : Market → List Check
pillar_orders m = curve_orders m.settlement m.bond.leg m.pillars ++ positive_factors m.pillars ∷ []

-- Passed where there is no such check.
unfoldable pub checks_of : Market → CallSchedule → Whose → Looks
checks_of m calls Nobody = looks (Ok tt) (Ok tt) (Ok tt)
checks_of m calls Steps = looks (Ok tt) (Ok tt) (settings m.controls)
checks_of m calls Settlement = looks (settlement_day m.settlement.day) (Ok tt) (first_of (settlement_orders m))
checks_of m calls Units = looks (Ok tt) (units_range m.bond.units) (Ok tt)
checks_of m calls Alpha = looks (Ok tt) (within (float 10) m.model.alpha) (Ok tt)
checks_of m calls Spread = looks (Ok tt) (within (float 1) m.spread) (Ok tt)
checks_of m calls Cashflow = looks (leg_days m.bond.leg) (amount_range m.bond.leg) (Ok tt)
checks_of m calls Call = looks (call_days calls) (strike_range calls) (call_order calls)
checks_of m calls Sigma = looks (Ok tt) (sigma_range m.model.sigma) (sigma_order m.model.sigma)
checks_of m calls Pillar = looks (pillar_days m.pillars) (factor_range m.pillars) (first_of (pillar_orders m))

abbrev pub day_check : Market → CallSchedule → Whose → Check
day_check m calls w = (checks_of m calls w).day

abbrev pub number_check : Market → CallSchedule → Whose → Check
number_check m calls w = (checks_of m calls w).number

abbrev pub order_check : Market → CallSchedule → Whose → Check
order_check m calls w = (checks_of m calls w).order

-- ---- who is blamed

abbrev pub blamed_day : Market → CallSchedule → ℕ → Whose
blamed_day m calls place =
    whose_day place m.settlement.day m.bond.leg.days m.bond.leg.kinds calls.starts calls.ends

-- The first, or the second where the first is nobody.
unfoldable pub or_else : Whose → Whose → Whose
or_else Nobody w = w
or_else Steps w = Steps
or_else Settlement w = Settlement
or_else Units w = Units
or_else Alpha w = Alpha
or_else Spread w = Spread
or_else Cashflow w = Cashflow
or_else Call w = Call
or_else Sigma w = Sigma
or_else Pillar w = Pillar

-- Single fields come first.
abbrev pub blamed_number : Market → CallSchedule → ℕ → Whose
blamed_number m calls place =
    or_else (whose_field m.bond.units m.model.alpha m.spread)
    (whose_number place m.bond.leg.amounts calls.strikes m.model.sigma.times m.model.sigma.sigmas)

-- 3 by the days, 4 by the numbers, any other by itself.
abbrev pub blamed_by : Market → CallSchedule → ℕ → ℕ → Whose
blamed_by m calls number place =
    cond (eqb number 3) (blamed_day m calls place)
    (cond (eqb number 4) (blamed_number m calls place) (whose_order number))

abbrev pub blamed : Market → CallSchedule → Refusal → Whose
blamed m calls r = blamed_by m calls (reason_number r.reason) r.place

-- The check of that number that looks there.
abbrev pub check_of : Market → CallSchedule → ℕ → Whose → Check
check_of m calls number w =
    cond (eqb number 3) (day_check m calls w)
    (cond (eqb number 4) (number_check m calls w) (order_check m calls w))
