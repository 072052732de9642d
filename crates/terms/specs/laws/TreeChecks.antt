-- The checks of the tree value and of spread from price: those of a market, with the limit of each. Assumes nothing.
use Rattle.std.specs.Prelude.{◌≡◌, ◌≤◌, length, Float, Ok, Err}
use Rattle.std.proofs.Math.Path.{refl}
use Rattle.std.proofs.Common.{sym, ◌∙◌}
use Rattle.floats.specs.Refusals.{Refusal}
use Rattle.terms.specs.Numbers.{float, target_limit}
use Rattle.terms.specs.Terms.{CallSchedule, Market, with_spread, with_puts}
use Rattle.terms.specs.Checks.{call_count, call_days, within, strike_range}
use Rattle.terms.specs.Entries.{grid_checks, market_checks, tree_checks, spread_checks}
use Rattle.terms.specs.laws.Groups.{CallsPassed, MarketPassed}
use Rattle.terms.specs.laws.MarketChecks.{market-terms, market-calls, market-passed, market-strike-refused, market-few-pillars, market-grid, market-alike, market-puts-alike, other-spread}

module _ (m : Market) (calls : CallSchedule) where
  pub tree-market : tree_checks m calls ≡ Ok tt → MarketPassed (float 1) m
  unfolding tree_checks
  tree-market = market-terms (float 1) m calls

  pub tree-calls : tree_checks m calls ≡ Ok tt → CallsPassed calls
  unfolding tree_checks
  tree-calls = market-calls (float 1) m calls

  pub tree-passed : MarketPassed (float 1) m → CallsPassed calls → tree_checks m calls ≡ Ok tt
  unfolding tree_checks
  tree-passed = market-passed (float 1) m calls

  pub tree-strike-refused : (r : Refusal) → MarketPassed (float 1) m → call_count calls ≡ Ok tt → call_days calls ≡ Ok tt → strike_range calls ≡ Err r → tree_checks m calls ≡ Err r
  unfolding tree_checks
  tree-strike-refused = market-strike-refused (float 1) m calls

  pub tree-few-pillars : tree_checks m calls ≡ Ok tt → length m.pillars.days ≤ 256
  unfolding tree_checks
  tree-few-pillars = market-few-pillars (float 1) m calls

  pub tree-grid : tree_checks m calls ≡ Ok tt → grid_checks m.settlement m.bond calls m.controls ≡ Ok tt
  unfolding tree_checks
  tree-grid = market-grid (float 1) m calls

pub tree-alike : (m : Market) (first second : CallSchedule) → CallsPassed first → CallsPassed second → tree_checks m second ≡ tree_checks m first
unfolding tree_checks
tree-alike = market-alike (float 1)

pub tree-puts-alike : (m : Market) (calls first second : CallSchedule) → CallsPassed first → CallsPassed second → tree_checks (with_puts m second) calls ≡ tree_checks (with_puts m first) calls
unfolding tree_checks
tree-puts-alike = market-puts-alike (float 1)

-- ---- spread from price

pub spread_is : (m : Market) (calls : CallSchedule) → spread_checks m calls ≡ market_checks target_limit m calls
unfolding spread_checks
spread_is m calls = refl

pub spread-few-pillars : (m : Market) (calls : CallSchedule) → spread_checks m calls ≡ Ok tt → length m.pillars.days ≤ 256
spread-few-pillars m calls h = market-few-pillars target_limit m calls (sym (spread_is m calls) ∙ h)

pub spread-grid : (m : Market) (calls : CallSchedule) → spread_checks m calls ≡ Ok tt → grid_checks m.settlement m.bond calls m.controls ≡ Ok tt
spread-grid m calls h = market-grid target_limit m calls (sym (spread_is m calls) ∙ h)

-- Where a target's terms are accepted, those of a tried spread are checked only for its range.
pub spread-tried : (m : Market) (calls : CallSchedule) (s : Float) → spread_checks m calls ≡ Ok tt → tree_checks (with_spread m s) calls ≡ within (float 1) s
spread-tried m calls s h = other-spread target_limit m calls s (sym (spread_is m calls) ∙ h)
