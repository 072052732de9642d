-- The checks of an entry grouped by what they look at: every one of the group is passed. Assumes nothing.
use Rattle.std.specs.Prelude.{◌≡◌, Float, Ok}
use Rattle.terms.specs.declared.Settlement.{Settlement}
use Rattle.terms.specs.Numbers.{float}
use Rattle.terms.specs.Terms.{Leg, CallSchedule, SigmaSchedule, Pillars, Bond, TimeGrid, Market}
use Rattle.terms.specs.Checks.{settings, day_count, leg_count, call_count, sigma_count, pillar_count, settlement_day, leg_days, call_days, pillar_days, units_range, within, amount_range, strike_range, sigma_range, factor_range, call_order, sigma_order, last_day, any_paid, pillar_order, pillars_apart, maturity_apart, positive_factors}

-- Settlement and cashflows.
pub record LegPassed (settlement : Settlement) (l : Leg) : Type 0 where
  pub code : day_count settlement.code ≡ Ok tt
  pub settled : settlement_day settlement.day ≡ Ok tt
  pub counted : leg_count l ≡ Ok tt
  pub days : leg_days l ≡ Ok tt
  pub amounts : amount_range l ≡ Ok tt
  pub paid : any_paid settlement.day l ≡ Ok tt

-- Call entries, or put entries: 2 and 37 together say of these what 2 says of those.
pub record CallsPassed (c : CallSchedule) : Type 0 where
  pub counted : call_count c ≡ Ok tt
  pub days : call_days c ≡ Ok tt
  pub strikes : strike_range c ≡ Ok tt
  pub ordered : call_order c ≡ Ok tt

-- Sigma entries.
pub record SigmaPassed (s : SigmaSchedule) : Type 0 where
  pub counted : sigma_count s ≡ Ok tt
  pub numbers : sigma_range s ≡ Ok tt
  pub ordered : sigma_order s ≡ Ok tt

-- Pillars, for this settlement and these cashflows.
pub record PillarsPassed (settlement : Settlement) (l : Leg) (p : Pillars) : Type 0 where
  pub counted : pillar_count p ≡ Ok tt
  pub days : pillar_days p ≡ Ok tt
  pub factors : factor_range p ≡ Ok tt
  pub ordered : pillar_order settlement.day (last_day l.days) p ≡ Ok tt
  pub apart : pillars_apart settlement p ≡ Ok tt
  pub positive : positive_factors p ≡ Ok tt

-- What the grid takes, but for the call entries.
pub record GridTermsPassed (settlement : Settlement) (bond : Bond) (controls : TimeGrid) : Type 0 where
  pub steps : settings controls ≡ Ok tt
  pub leg : LegPassed settlement bond.leg
  pub units : units_range bond.units ≡ Ok tt
  pub puts : CallsPassed bond.puts
  pub apart : maturity_apart settlement bond.leg ≡ Ok tt

-- What the tree value takes, but for the call entries; the limit is the spread's, or that of what stands in its place.
pub record MarketPassed (limit : Float) (m : Market) : Type 0 where
  pub grid : GridTermsPassed m.settlement m.bond m.controls
  pub sigma : SigmaPassed m.model.sigma
  pub pillars : PillarsPassed m.settlement m.bond.leg m.pillars
  pub alpha : within (float 10) m.model.alpha ≡ Ok tt
  pub spread : within limit m.spread ≡ Ok tt
