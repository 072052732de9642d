-- Definitions only. What a call's lists hold where it begins.
use denote.Triple.Both.{Both}
use Rattle.terms.specs.declared.market.Leg.{Leg as LentLeg}
use Rattle.terms.specs.declared.market.CallSchedule.{CallSchedule as LentCalls}
use Rattle.terms.specs.declared.market.SigmaSchedule.{SigmaSchedule as LentSigma}
use Rattle.terms.specs.declared.market.Pillars.{Pillars as LentPillars}
use Rattle.terms.specs.declared.market.Bond.{Bond as LentBond}
use Rattle.terms.specs.declared.market.TimeGrid.{TimeGrid as LentGrid}
use Rattle.terms.specs.declared.market.HullWhite.{HullWhite as LentModel}
use Rattle.terms.specs.declared.market.Market.{Market as LentMarket}
use Rattle.terms.specs.Terms.{Leg, CallSchedule, SigmaSchedule, Pillars, Bond, TimeGrid, HullWhite, Market}

abbrev pub leg_of : LentLeg → Leg
leg_of leg = record { days = leg.days.now; kinds = leg.kinds.now; amounts = leg.amounts.now }

abbrev pub calls_of : LentCalls → CallSchedule
calls_of calls = record { starts = calls.starts.now; ends = calls.ends.now; strikes = calls.strikes.now }

abbrev pub sigma_of : LentSigma → SigmaSchedule
sigma_of sigma = record { times = sigma.times.now; sigmas = sigma.sigmas.now }

abbrev pub pillars_of : LentPillars → Pillars
pillars_of pillars = record { days = pillars.days.now; factors = pillars.factors.now }

abbrev pub bond_of : LentBond → Bond
bond_of bond = record { leg = leg_of bond.leg; units = bond.units; puts = calls_of bond.puts }

abbrev pub controls_of : LentGrid → TimeGrid
controls_of controls = record { per_year = controls.per_year; maximum = controls.maximum }

abbrev pub model_of : LentModel → HullWhite
model_of model = record { alpha = model.alpha; sigma = sigma_of model.sigma }

abbrev pub market_of : LentMarket → Market
market_of market =
    record {
      settlement = market.settlement;
      bond = bond_of market.bond;
      controls = controls_of market.controls;
      model = model_of market.model;
      spread = market.spread;
      pillars = pillars_of market.pillars;
    }

abbrev pub leg_in : {X : Type 0} → Both LentLeg X → Leg
leg_in leg = leg_of leg.entry

abbrev pub calls_in : {X : Type 0} → Both LentCalls X → CallSchedule
calls_in calls = calls_of calls.entry

abbrev pub sigma_in : {X : Type 0} → Both LentSigma X → SigmaSchedule
sigma_in sigma = sigma_of sigma.entry

abbrev pub pillars_in : {X : Type 0} → Both LentPillars X → Pillars
pillars_in pillars = pillars_of pillars.entry

abbrev pub bond_in : {X : Type 0} → Both LentBond X → Bond
bond_in bond = bond_of bond.entry

abbrev pub model_in : {X : Type 0} → Both LentModel X → HullWhite
model_in model = model_of model.entry

abbrev pub market_in : {X : Type 0} → Both LentMarket X → Market
market_in market = market_of market.entry
