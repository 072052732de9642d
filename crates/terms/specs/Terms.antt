-- Definitions only. What a call brings: the parallel lists of one kind, gathered.
use Rattle.std.specs.Prelude.{ℕ, List, [], Float}
use Rattle.terms.specs.declared.Settlement.{Settlement}

-- Cashflows: day, kind (0 coupon, 1 redemption), amount.
pub record Leg : Type 0 where
  pub days : List ℕ
  pub kinds : List ℕ
  pub amounts : List Float

-- Call entries: start day, end day, strike. Equal days make a discrete call, otherwise a window.
pub record CallSchedule : Type 0 where
  pub starts : List ℕ
  pub ends : List ℕ
  pub strikes : List Float

-- Sigma entries: time and sigma.
pub record SigmaSchedule : Type 0 where
  pub times : List Float
  pub sigmas : List Float

-- Pillars: day and factor.
pub record Pillars : Type 0 where
  pub days : List ℕ
  pub factors : List Float

-- The bond: cashflows, units, and put entries, which have the fields of call entries.
pub record Bond : Type 0 where
  pub leg : Leg
  pub units : Float
  pub puts : CallSchedule

-- No entries.
abbrev pub no_entries : CallSchedule
no_entries = record { starts = []; ends = []; strikes = [] }

-- The same bond with another put list.
abbrev pub bond_with_puts : Bond → CallSchedule → Bond
bond_with_puts bond puts = record { leg = bond.leg; units = bond.units; puts = puts }

-- Steps per year and maximum steps.
pub record TimeGrid : Type 0 where
  pub per_year : ℕ
  pub maximum : ℕ

-- Alpha and sigma.
pub record HullWhite : Type 0 where
  pub alpha : Float
  pub sigma : SigmaSchedule

-- What the tree value takes, but for the call entries and the lent slices.
pub record Market : Type 0 where
  pub settlement : Settlement
  pub bond : Bond
  pub controls : TimeGrid
  pub model : HullWhite
  pub spread : Float
  pub pillars : Pillars

-- The same terms with another spread.
abbrev pub with_spread : Market → Float → Market
with_spread m s =
    record {
      settlement = m.settlement;
      bond = m.bond;
      controls = m.controls;
      model = m.model;
      spread = s;
      pillars = m.pillars;
    }

-- The same terms with another put list.
abbrev pub with_puts : Market → CallSchedule → Market
with_puts m puts =
    record {
      settlement = m.settlement;
      bond = bond_with_puts m.bond puts;
      controls = m.controls;
      model = m.model;
      spread = m.spread;
      pillars = m.pillars;
    }
