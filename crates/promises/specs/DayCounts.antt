-- Definitions only. Document 02, Ask 5: what is promised of a day's time. Each is proved in laws/DayCounts.antt, the last in laws/ActualNumbers.antt. The call-list rules are unchanged: the code is a part of `Market`, which both lists of a rule share.
use Rattle.std.specs.Prelude.{ℕ, ◌≤◌, ◌<◌, ◌≡◌, T, Float, Ok}
use Rattle.std.specs.Float.{binary64}
use Rattle.std.specs.Float.Ieee.{sub, div, le, lt}
use Rattle.floats.specs.Reasons.{refusal_number}
use Rattle.terms.specs.declared.Settlement.{Settlement}
use Rattle.terms.specs.Numbers.{float}
use Rattle.terms.specs.Terms.{Leg, CallSchedule, Pillars, Bond, TimeGrid, Market}
use Rattle.terms.specs.Times.{year_fraction}
use Rattle.terms.specs.Checks.{leg_count, leg_days, pillar_days, any_paid, pillar_order, pillars_apart, maturity_apart}
use Rattle.floats.specs.Answers as answers
use Rattle.bondevents.specs.Grid.{grid_answer}
use Rattle.lattice.specs.Layers.{Room}
use Rattle.treebasedbondpricer.specs.Tree.{tree_value, number_of}
use Rattle.bondpricer.specs.Straight.{straight_value}
use Rattle.brackets.specs.Brackets.{root_number}
use Rattle.spreads.specs.Spreads.{Quoted, spread_from_price}

-- For every code, a later day never has a smaller time.
abbrev pub LaterNoSmaller : Type 0
LaterNoSmaller =
    (s : Settlement) (day later : ℕ)
    → s.day ≤ 200000
    → later ≤ 200000
    → day ≤ later
    → T (le (year_fraction s day) (year_fraction s later))

-- Under code 0 a day's time is 01's: (day − settlement)/365.0.
abbrev pub ActualTime : Type 0
ActualTime =
    (settlement day : ℕ)
    → year_fraction (record { day = settlement; code = 0 }) day
    ≡ div binary64 (sub binary64 (float day) (float settlement)) (float 365)

-- Under codes 0 and 1 a later day has a greater time.
abbrev pub LaterGreater : Type 0
LaterGreater =
    (s : Settlement) (day later : ℕ)
    → s.code ≤ 1
    → s.day ≤ day
    → day < later
    → later ≤ 200000
    → T (lt (year_fraction s day) (year_fraction s later))

-- So 34 and 35 are never given under codes 0 and 1: what passes the checks that are tried before them passes them too.
pub record NeverGiven : Type 0 where
  -- 3 and 8 come before 34.
  pub never_34 :
      (s : Settlement) (p : Pillars) (maturity : ℕ)
      → s.code ≤ 1
      → pillar_days p ≡ Ok tt
      → pillar_order s.day maturity p ≡ Ok tt
      → pillars_apart s p ≡ Ok tt
  -- 2, 3 and 7 come before 35.
  pub never_35 :
      (s : Settlement) (l : Leg)
      → s.code ≤ 1
      → leg_count l ≡ Ok tt
      → leg_days l ≡ Ok tt
      → any_paid s.day l ≡ Ok tt
      → maturity_apart s l ≡ Ok tt

-- And so no entry answers 34 or 35 under codes 0 and 1, whatever else it is given.
abbrev pub Neither34Nor35 : ℕ → Type 0
Neither34Nor35 number = (number ≡ 34 → ⊥) × (number ≡ 35 → ⊥)

pub record NeverAnswered : Type 0 where
  pub grid :
      (s : Settlement) (bond : Bond) (calls : CallSchedule) (controls : TimeGrid)
      → s.code ≤ 1
      → Neither34Nor35 (refusal_number (grid_answer s bond calls controls).refusal)
  pub tree : (m : Market) (calls : CallSchedule) (room : Room) → m.settlement.code ≤ 1 → Neither34Nor35 (number_of (tree_value m calls room))
  pub straight :
      (s : Settlement) (l : Leg) (spread : Float) (p : Pillars)
      → s.code ≤ 1
      → Neither34Nor35 (answers.number_of (straight_value s l spread p))
  pub spread :
      (asked : Quoted) (calls : CallSchedule) (room : Room)
      → asked.settlement.code ≤ 1
      → Neither34Nor35 (root_number (spread_from_price asked calls room))
