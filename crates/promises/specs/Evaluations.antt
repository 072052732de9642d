-- Definitions only. What is promised of the search behind a yield and behind a spread: how many evaluations it makes.
use Rattle.std.specs.Prelude.{ℕ, ◌≤◌, ◌≡◌, Float, Err}
use Rattle.floats.specs.Refusals.{Refusal}
use Rattle.terms.specs.declared.Settlement.{Settlement}
use Rattle.terms.specs.Terms.{Leg, CallSchedule}
use Rattle.terms.specs.Entries.{target_checks}
use Rattle.lattice.specs.Layers.{Room}
use Rattle.interestrate.specs.Rates.{rate_check}
use Rattle.brackets.specs.Brackets.{evaluations_of}
use Rattle.bondanalytics.specs.Yields.{yield_from_price}
use Rattle.spreads.specs.Spreads.{Quoted, quoted_checks, spread_from_price}

-- Objective evaluations are reported, at most 386, on refusals too (0 where the input is refused): of yield from price.
pub record YieldEvaluations (settlement : Settlement) (leg : Leg) (compounding frequency : ℕ) (target : Float) : Type 0 where
  pub at_most_386 : evaluations_of (yield_from_price settlement leg compounding frequency target) ≤ 386
  pub none : (r : Refusal) → target_checks settlement leg target (rate_check compounding frequency) ≡ Err r → evaluations_of (yield_from_price settlement leg compounding frequency target) ≡ 0

-- The number of spreads tried, at most 386 and counted as 01 counts evaluations: of spread from price.
pub record SpreadTries (asked : Quoted) (calls : CallSchedule) (room : Room) : Type 0 where
  pub at_most_386 : evaluations_of (spread_from_price asked calls room) ≤ 386
  pub none : (r : Refusal) → quoted_checks asked calls ≡ Err r → evaluations_of (spread_from_price asked calls room) ≡ 0

-- Of every input.
abbrev pub EveryYield : Type 0
EveryYield = (settlement : Settlement) (leg : Leg) (compounding frequency : ℕ) (target : Float) → YieldEvaluations settlement leg compounding frequency target

abbrev pub EverySpread : Type 0
EverySpread = (asked : Quoted) (calls : CallSchedule) (room : Room) → SpreadTries asked calls room
