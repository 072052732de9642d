-- Definitions only. The checks of each entry: in number order, inside one number by single fields, cashflows, calls, puts, sigma, pillars. Each entry checks only what it takes.
-- The checks of one number, or of a few that follow one another, are a group; an entry's checks are its groups, one after the other.
use Rattle.std.specs.Prelude.{ℕ, List, [], ◌∷◌, ◌++◌, Float}
use Rattle.terms.specs.declared.Settlement.{Settlement}
use Rattle.floats.specs.Answers.{Check}
use Rattle.terms.specs.Numbers.{float, million, target_limit}
use Rattle.terms.specs.Terms.{Leg, CallSchedule, SigmaSchedule, Pillars, Bond, TimeGrid, Market}
use Rattle.terms.specs.Checks.{first_of, settings, day_count, leg_count, call_count, put_count, put_most, sigma_count, pillar_count, settlement_day, leg_days, call_days, pillar_days, units_range, within, amount_range, strike_range, sigma_range, factor_range, call_order, sigma_order, last_day, any_paid, pillar_order, pillars_apart, maturity_apart, positive_factors}

-- ---- the grid: settlement, cashflows, units, calls, puts and the two step settings

-- 1 and 33.
abbrev pub setting_checks : TimeGrid → ℕ → List Check
setting_checks controls code = settings controls ∷ day_count code ∷ []

-- 2.
abbrev pub grid_counts : Leg → CallSchedule → CallSchedule → List Check
grid_counts leg calls puts = leg_count leg ∷ call_count calls ∷ put_count puts ∷ []

-- 37, after every 2.
abbrev pub most_checks : CallSchedule → List Check
most_checks puts = put_most puts ∷ []

-- 3.
abbrev pub grid_days : ℕ → Leg → CallSchedule → CallSchedule → List Check
grid_days settlement leg calls puts = settlement_day settlement ∷ leg_days leg ∷ call_days calls ∷ call_days puts ∷ []

-- 4 of the lists.
abbrev pub list_numbers : Leg → CallSchedule → CallSchedule → List Check
list_numbers leg calls puts = amount_range leg ∷ strike_range calls ∷ strike_range puts ∷ []

-- 4.
abbrev pub grid_numbers : Float → Leg → CallSchedule → CallSchedule → List Check
grid_numbers units leg calls puts = units_range units ∷ list_numbers leg calls puts

-- 5.
abbrev pub call_orders : CallSchedule → CallSchedule → List Check
call_orders calls puts = call_order calls ∷ call_order puts ∷ []

-- 5, 7 and 35.
abbrev pub grid_orders : Settlement → Leg → CallSchedule → CallSchedule → List Check
grid_orders settlement leg calls puts = call_orders calls puts ++ any_paid settlement.day leg ∷ maturity_apart settlement leg ∷ []

unfoldable pub grid_checks : Settlement → Bond → CallSchedule → TimeGrid → Check
unfolding first_of
grid_checks settlement bond calls controls =
    first_of
    (setting_checks controls settlement.code
    ++ grid_counts bond.leg calls bond.puts
    ++ most_checks bond.puts
    ++ grid_days settlement.day bond.leg calls bond.puts
    ++ grid_numbers bond.units bond.leg calls bond.puts
    ++ grid_orders settlement bond.leg calls bond.puts)

-- ---- the tree value: these, alpha, sigma, spread and pillars

-- 2.
abbrev pub model_counts : SigmaSchedule → Pillars → List Check
model_counts sigma pillars = sigma_count sigma ∷ pillar_count pillars ∷ []

abbrev pub tree_counts : Leg → CallSchedule → CallSchedule → SigmaSchedule → Pillars → List Check
tree_counts leg calls puts sigma pillars = grid_counts leg calls puts ++ model_counts sigma pillars

-- 3.
abbrev pub tree_days : ℕ → Leg → CallSchedule → CallSchedule → Pillars → List Check
tree_days settlement leg calls puts pillars = grid_days settlement leg calls puts ++ pillar_days pillars ∷ []

-- 4 of single fields. The limit is the spread's, or that of what stands in its place.
abbrev pub tree_fields : Float → Float → Float → Float → List Check
tree_fields limit units alpha spread = units_range units ∷ within (float 10) alpha ∷ within limit spread ∷ []

-- 4 of sigma and pillars.
abbrev pub model_numbers : SigmaSchedule → Pillars → List Check
model_numbers sigma pillars = sigma_range sigma ∷ factor_range pillars ∷ []

-- 4.
abbrev pub tree_numbers : Float → Float → Float → Float → Leg → CallSchedule → CallSchedule → SigmaSchedule → Pillars → List Check
tree_numbers limit units alpha spread leg calls puts sigma pillars =
    tree_fields limit units alpha spread ++ list_numbers leg calls puts ++ model_numbers sigma pillars

-- 5 to 7.
abbrev pub tree_orders : ℕ → Leg → CallSchedule → CallSchedule → SigmaSchedule → List Check
tree_orders settlement leg calls puts sigma = call_orders calls puts ++ sigma_order sigma ∷ any_paid settlement leg ∷ []

-- 8 and 34.
abbrev pub curve_orders : Settlement → Leg → Pillars → List Check
curve_orders settlement leg pillars = pillar_order settlement.day (last_day leg.days) pillars ∷ pillars_apart settlement pillars ∷ []

-- 8, 34, 35, and last of all 44.
abbrev pub late_checks : Settlement → Leg → Pillars → List Check
late_checks settlement leg pillars = curve_orders settlement leg pillars ++ maturity_apart settlement leg ∷ positive_factors pillars ∷ []

unfoldable pub market_checks : Float → Market → CallSchedule → Check
unfolding first_of
market_checks limit m calls =
    first_of
    (setting_checks m.controls m.settlement.code
    ++ tree_counts m.bond.leg calls m.bond.puts m.model.sigma m.pillars
    ++ most_checks m.bond.puts
    ++ tree_days m.settlement.day m.bond.leg calls m.bond.puts m.pillars
    ++ tree_numbers limit m.bond.units m.model.alpha m.spread m.bond.leg calls m.bond.puts m.model.sigma m.pillars
    ++ tree_orders m.settlement.day m.bond.leg calls m.bond.puts m.model.sigma
    ++ late_checks m.settlement m.bond.leg m.pillars)

-- Spread within ±1.
unfoldable pub tree_checks : Market → CallSchedule → Check
unfolding market_checks
tree_checks m calls = market_checks (float 1) m calls

-- Spread from price: a target stands where the spread stood.
unfoldable pub spread_checks : Market → CallSchedule → Check
unfolding market_checks
spread_checks m calls = market_checks target_limit m calls

-- ---- the straight value: settlement, cashflows, spread and pillars

-- 33 and 2.
abbrev pub straight_counts : ℕ → Leg → Pillars → List Check
straight_counts code leg pillars = day_count code ∷ leg_count leg ∷ pillar_count pillars ∷ []

-- 3.
abbrev pub straight_days : ℕ → Leg → Pillars → List Check
straight_days settlement leg pillars = settlement_day settlement ∷ leg_days leg ∷ pillar_days pillars ∷ []

-- 4.
abbrev pub straight_numbers : Float → Leg → Pillars → List Check
straight_numbers spread leg pillars = within (float 1) spread ∷ amount_range leg ∷ factor_range pillars ∷ []

-- 7, 8, 34 and 44.
abbrev pub straight_orders : Settlement → Leg → Pillars → List Check
straight_orders settlement leg pillars = any_paid settlement.day leg ∷ curve_orders settlement leg pillars ++ positive_factors pillars ∷ []

unfoldable pub straight_checks : Settlement → Leg → Float → Pillars → Check
unfolding first_of
straight_checks settlement leg spread pillars =
    first_of
    (straight_counts settlement.code leg pillars
    ++ straight_days settlement.day leg pillars
    ++ straight_numbers spread leg pillars
    ++ straight_orders settlement leg pillars)

-- ---- the yield entries: settlement, cashflows, a rate definition and a yield or a target

-- 33 and 2.
abbrev pub yield_counts : ℕ → Leg → List Check
yield_counts code leg = day_count code ∷ leg_count leg ∷ []

-- 3.
abbrev pub yield_days : ℕ → Leg → List Check
yield_days settlement leg = settlement_day settlement ∷ leg_days leg ∷ []

-- 4.
abbrev pub yield_numbers : Float → Float → Leg → List Check
yield_numbers limit x leg = within limit x ∷ amount_range leg ∷ []

-- 9, the rate definition's, comes last.
unfoldable pub yield_checks : Float → Settlement → Leg → Float → Check → Check
unfolding first_of
yield_checks limit settlement leg x rate =
    first_of
    (yield_counts settlement.code leg
    ++ yield_days settlement.day leg
    ++ yield_numbers limit x leg
    ++ any_paid settlement.day leg ∷ rate ∷ [])

abbrev pub price_checks : Settlement → Leg → Float → Check → Check
price_checks = yield_checks million

abbrev pub target_checks : Settlement → Leg → Float → Check → Check
target_checks = yield_checks target_limit
