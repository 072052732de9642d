-- Further values of the definitions, computed: beside each entry, every refusal number that can be met. Each was worked out by the second reading of document 01 in compare/.
use Rattle.std.specs.Prelude.{ℕ, ◌≡◌, refl, cond, List, [], ◌∷◌, Float, replicate, Ok, Err}
use Rattle.std.specs.Float.{binary64}
use Rattle.std.specs.Float.Ieee.{of_bits, lt}
use Rattle.std.specs.Float.Ieee as ieee
use Rattle.floats.specs.Answers.{on_outcome, one}
use Rattle.floats.specs.Whole.{rounded}
use Rattle.rounded.specs.Root.{sqrt_at}
use Rattle.elementary.specs.Exponential.{exp_at, exp_m1_at}
use Rattle.elementary.specs.Logarithm.{ln_at}
use Rattle.calendar.specs.Calendar.{thirties}
use Rattle.terms.specs.declared.Settlement.{Settlement}
use Rattle.terms.specs.Terms.{Leg, CallSchedule, Pillars, TimeGrid, Market, no_entries, with_puts}
use Rattle.terms.specs.Numbers.{float}
use Rattle.terms.specs.Checks.{lowest, on_check}
use Rattle.terms.specs.Curve.{curve_over}
use Rattle.bondevents.specs.Steps.{paid_into, raw_step}
use Rattle.lattice.specs.Layers.{Room}
use Rattle.treebasedbondpricer.specs.Tree.{tree_value, number_of}
use Rattle.bondpricer.specs.Straight.{straight_value}
use Rattle.interestrate.specs.Prices.{on_price}
use Rattle.interestrate.specs.Rates.{with_code}
use Rattle.brackets.specs.Brackets.{no_root, found_root, bracketed_root}
use Rattle.bondanalytics.specs.Yields.{price_from_yield, yield_from_price}
use Rattle.spreads.specs.Spreads.{Quoted, quoting, spread_from_price, on_tree_value}
use Rattle.sought.specs.Objectives.{first_lower, first_upper}
use Rattle.floats.specs.declared.Reason.TheVariants as reason

abbrev pub leg : List ℕ → List ℕ → List Float → Leg
leg days kinds amounts = record { days = days; kinds = kinds; amounts = amounts }

abbrev pub calls : List ℕ → List ℕ → List Float → CallSchedule
calls starts ends strikes = record { starts = starts; ends = ends; strikes = strikes }

abbrev pub pillars : List ℕ → List Float → Pillars
pillars days factors = record { days = days; factors = factors }

abbrev pub steps : ℕ → ℕ → TimeGrid
steps per_year maximum = record { per_year = per_year; maximum = maximum }

abbrev pub room : ℕ → ℕ → ℕ → ℕ → Room
room nodes probabilities first second = record { nodes = nodes; probabilities = probabilities; first = first; second = second }

-- A settlement day, its times by Actual/365.
abbrev pub on : ℕ → Settlement
on day = record { day = day; code = 0 }

abbrev pub market_by : Settlement → Leg → Float → TimeGrid → Float → List Float → List Float → Float → Pillars → Market
market_by settlement leg units controls alpha times sigmas spread pillars =
    record {
      settlement = settlement;
      bond = record { leg = leg; units = units; puts = no_entries };
      controls = controls;
      model = record { alpha = alpha; sigma = record { times = times; sigmas = sigmas } };
      spread = spread;
      pillars = pillars;
    }

abbrev market : ℕ → Leg → Float → TimeGrid → Float → List Float → List Float → Float → Pillars → Market
market day = market_by (on day)

-- 30E/360.
abbrev pub thirty : ℕ → Settlement
thirty day = record { day = day; code = 2 }

abbrev quoted : ℕ → Leg → Float → TimeGrid → Float → List Float → List Float → Float → Pillars → Quoted
quoted settlement leg units controls alpha times sigmas target pillars = quoting (market settlement leg units controls alpha times sigmas (float 0) pillars) target

priced : tree_value (market 100 (leg (465 ∷ 830 ∷ 830 ∷ []) (0 ∷ 0 ∷ 1 ∷ []) ((float 5) ∷ (float 5) ∷ (float 100) ∷ [])) (float 100) (steps 2 512) (of_bits binary64 0x3fb999999999999a) ((float 0) ∷ (float 1) ∷ []) ((of_bits binary64 0x3f847ae147ae147b) ∷ (of_bits binary64 0x3f889374bc6a7efa) ∷ []) (of_bits binary64 0x3f747ae147ae147b) (pillars (100 ∷ 465 ∷ 900 ∷ []) ((float 1) ∷ (of_bits binary64 0x3fef0a3d70a3d70a) ∷ (of_bits binary64 0x3fedc28f5c28f5c3) ∷ []))) (calls (465 ∷ []) (465 ∷ []) ((float 101) ∷ [])) (room 64 96 9 9) ≡ Ok (record { value = (of_bits binary64 0x405978f448aaae8f); nodes = 25 })
unfolding tree_value paid_into raw_step curve_over exp_at exp_m1_at ln_at sqrt_at on_outcome on_check lowest rounded ieee.of_bits ieee.add ieee.sub ieee.mul ieee.div ieee.neg ieee.lt ieee.le ieee.of_int ieee.to_signed
priced = refl

windowed : tree_value (market 100 (leg (465 ∷ 830 ∷ 830 ∷ []) (0 ∷ 0 ∷ 1 ∷ []) ((float 5) ∷ (float 5) ∷ (float 100) ∷ [])) (float 100) (steps 2 512) (of_bits binary64 0xbfc999999999999a) ((float 0) ∷ (float 1) ∷ []) ((of_bits binary64 0x3f847ae147ae147b) ∷ (of_bits binary64 0x3f889374bc6a7efa) ∷ []) (of_bits binary64 0x3f747ae147ae147b) (pillars (100 ∷ 465 ∷ 900 ∷ []) ((float 1) ∷ (of_bits binary64 0x3fef0a3d70a3d70a) ∷ (of_bits binary64 0x3fedc28f5c28f5c3) ∷ []))) (calls (200 ∷ 300 ∷ []) (500 ∷ 300 ∷ []) ((of_bits binary64 0x4059200000000000) ∷ (of_bits binary64 0x4059100000000000) ∷ [])) (room 64 96 9 9) ≡ Ok (record { value = (of_bits binary64 0x40589f3fd3f99d4e); nodes = 25 })
unfolding tree_value paid_into raw_step curve_over exp_at exp_m1_at ln_at sqrt_at on_outcome on_check lowest rounded ieee.of_bits ieee.add ieee.sub ieee.mul ieee.div ieee.neg ieee.lt ieee.le ieee.of_int ieee.to_signed
windowed = refl

pub number_1 : tree_value (market 100 (leg (465 ∷ 830 ∷ 830 ∷ []) (0 ∷ 0 ∷ 1 ∷ []) ((float 5) ∷ (float 5) ∷ (float 100) ∷ [])) (float 100) (steps 0 512) (of_bits binary64 0x3fb999999999999a) ((float 0) ∷ (float 1) ∷ []) ((of_bits binary64 0x3f847ae147ae147b) ∷ (of_bits binary64 0x3f889374bc6a7efa) ∷ []) (of_bits binary64 0x3f747ae147ae147b) (pillars (100 ∷ 465 ∷ 900 ∷ []) ((float 1) ∷ (of_bits binary64 0x3fef0a3d70a3d70a) ∷ (of_bits binary64 0x3fedc28f5c28f5c3) ∷ []))) (calls (465 ∷ []) (465 ∷ []) ((float 101) ∷ [])) (room 64 96 9 9) ≡ Err (record { reason = reason.Setting; place = 0 })
unfolding tree_value paid_into raw_step curve_over exp_at exp_m1_at ln_at sqrt_at on_outcome on_check lowest rounded ieee.of_bits ieee.add ieee.sub ieee.mul ieee.div ieee.neg ieee.lt ieee.le ieee.of_int ieee.to_signed
number_1 = refl

pub number_2 : tree_value (market 100 (leg (465 ∷ 830 ∷ 830 ∷ []) (0 ∷ 0 ∷ 1 ∷ []) ((float 5) ∷ (float 5) ∷ (float 100) ∷ [])) (float 100) (steps 2 512) (of_bits binary64 0x3fb999999999999a) ((float 0) ∷ (float 1) ∷ []) ((of_bits binary64 0x3f847ae147ae147b) ∷ []) (of_bits binary64 0x3f747ae147ae147b) (pillars (100 ∷ 465 ∷ 900 ∷ []) ((float 1) ∷ (of_bits binary64 0x3fef0a3d70a3d70a) ∷ (of_bits binary64 0x3fedc28f5c28f5c3) ∷ []))) (calls (465 ∷ []) (465 ∷ []) ((float 101) ∷ [])) (room 64 96 9 9) ≡ Err (record { reason = reason.Count; place = 0 })
unfolding tree_value paid_into raw_step curve_over exp_at exp_m1_at ln_at sqrt_at on_outcome on_check lowest rounded ieee.of_bits ieee.add ieee.sub ieee.mul ieee.div ieee.neg ieee.lt ieee.le ieee.of_int ieee.to_signed
number_2 = refl

pub number_3 : tree_value (market 100 (leg (465 ∷ 830 ∷ 829 ∷ []) (0 ∷ 0 ∷ 1 ∷ []) ((float 5) ∷ (float 5) ∷ (float 100) ∷ [])) (float 100) (steps 2 512) (of_bits binary64 0x3fb999999999999a) ((float 0) ∷ (float 1) ∷ []) ((of_bits binary64 0x3f847ae147ae147b) ∷ (of_bits binary64 0x3f889374bc6a7efa) ∷ []) (of_bits binary64 0x3f747ae147ae147b) (pillars (100 ∷ 465 ∷ 900 ∷ []) ((float 1) ∷ (of_bits binary64 0x3fef0a3d70a3d70a) ∷ (of_bits binary64 0x3fedc28f5c28f5c3) ∷ []))) (calls (465 ∷ []) (465 ∷ []) ((float 101) ∷ [])) (room 64 96 9 9) ≡ Err (record { reason = reason.Day; place = 2 })
unfolding tree_value paid_into raw_step curve_over exp_at exp_m1_at ln_at sqrt_at on_outcome on_check lowest rounded ieee.of_bits ieee.add ieee.sub ieee.mul ieee.div ieee.neg ieee.lt ieee.le ieee.of_int ieee.to_signed
number_3 = refl

pub number_4 : tree_value (market 100 (leg (465 ∷ 830 ∷ 830 ∷ []) (0 ∷ 0 ∷ 1 ∷ []) ((float 5) ∷ (float 5) ∷ (float 100) ∷ [])) (float 100) (steps 2 512) (of_bits binary64 0x3fb999999999999a) ((float 0) ∷ (float 1) ∷ []) ((of_bits binary64 0x3f847ae147ae147b) ∷ (of_bits binary64 0x3f889374bc6a7efa) ∷ []) (of_bits binary64 0x3f747ae147ae147b) (pillars (100 ∷ 465 ∷ 900 ∷ []) ((float 1) ∷ (of_bits binary64 0x7ff8000000000000) ∷ (of_bits binary64 0x3fedc28f5c28f5c3) ∷ []))) (calls (465 ∷ []) (465 ∷ []) ((of_bits binary64 0x8000000000000000) ∷ [])) (room 64 96 9 9) ≡ Err (record { reason = reason.Number; place = 0 })
unfolding tree_value paid_into raw_step curve_over exp_at exp_m1_at ln_at sqrt_at on_outcome on_check lowest rounded ieee.of_bits ieee.add ieee.sub ieee.mul ieee.div ieee.neg ieee.lt ieee.le ieee.of_int ieee.to_signed
number_4 = refl

pub number_5 : tree_value (market 100 (leg (465 ∷ 830 ∷ 830 ∷ []) (0 ∷ 0 ∷ 1 ∷ []) ((float 5) ∷ (float 5) ∷ (float 100) ∷ [])) (float 100) (steps 2 512) (of_bits binary64 0x3fb999999999999a) ((float 0) ∷ (float 1) ∷ []) ((of_bits binary64 0x3f847ae147ae147b) ∷ (of_bits binary64 0x3f889374bc6a7efa) ∷ []) (of_bits binary64 0x3f747ae147ae147b) (pillars (100 ∷ 465 ∷ 900 ∷ []) ((float 1) ∷ (of_bits binary64 0x3fef0a3d70a3d70a) ∷ (of_bits binary64 0x3fedc28f5c28f5c3) ∷ []))) (calls (465 ∷ []) (464 ∷ []) ((float 101) ∷ [])) (room 64 96 9 9) ≡ Err (record { reason = reason.CallOrder; place = 0 })
unfolding tree_value paid_into raw_step curve_over exp_at exp_m1_at ln_at sqrt_at on_outcome on_check lowest rounded ieee.of_bits ieee.add ieee.sub ieee.mul ieee.div ieee.neg ieee.lt ieee.le ieee.of_int ieee.to_signed
number_5 = refl

pub number_6 : tree_value (market 100 (leg (465 ∷ 830 ∷ 830 ∷ []) (0 ∷ 0 ∷ 1 ∷ []) ((float 5) ∷ (float 5) ∷ (float 100) ∷ [])) (float 100) (steps 2 512) (of_bits binary64 0x3fb999999999999a) ((float 0) ∷ (float 0) ∷ []) ((of_bits binary64 0x3f847ae147ae147b) ∷ (of_bits binary64 0x3f889374bc6a7efa) ∷ []) (of_bits binary64 0x3f747ae147ae147b) (pillars (100 ∷ 465 ∷ 900 ∷ []) ((float 1) ∷ (of_bits binary64 0x3fef0a3d70a3d70a) ∷ (of_bits binary64 0x3fedc28f5c28f5c3) ∷ []))) (calls (465 ∷ []) (465 ∷ []) ((float 101) ∷ [])) (room 64 96 9 9) ≡ Err (record { reason = reason.SigmaOrder; place = 1 })
unfolding tree_value paid_into raw_step curve_over exp_at exp_m1_at ln_at sqrt_at on_outcome on_check lowest rounded ieee.of_bits ieee.add ieee.sub ieee.mul ieee.div ieee.neg ieee.lt ieee.le ieee.of_int ieee.to_signed
number_6 = refl

pub number_7 : tree_value (market 830 (leg (465 ∷ 830 ∷ 830 ∷ []) (0 ∷ 0 ∷ 1 ∷ []) ((float 5) ∷ (float 5) ∷ (float 100) ∷ [])) (float 100) (steps 2 512) (of_bits binary64 0x3fb999999999999a) ((float 0) ∷ (float 1) ∷ []) ((of_bits binary64 0x3f847ae147ae147b) ∷ (of_bits binary64 0x3f889374bc6a7efa) ∷ []) (of_bits binary64 0x3f747ae147ae147b) (pillars (100 ∷ 465 ∷ 900 ∷ []) ((float 1) ∷ (of_bits binary64 0x3fef0a3d70a3d70a) ∷ (of_bits binary64 0x3fedc28f5c28f5c3) ∷ []))) (calls (465 ∷ []) (465 ∷ []) ((float 101) ∷ [])) (room 64 96 9 9) ≡ Err (record { reason = reason.NothingPaid; place = 0 })
unfolding tree_value paid_into raw_step curve_over exp_at exp_m1_at ln_at sqrt_at on_outcome on_check lowest rounded ieee.of_bits ieee.add ieee.sub ieee.mul ieee.div ieee.neg ieee.lt ieee.le ieee.of_int ieee.to_signed
number_7 = refl

pub number_8 : tree_value (market 100 (leg (465 ∷ 830 ∷ 830 ∷ []) (0 ∷ 0 ∷ 1 ∷ []) ((float 5) ∷ (float 5) ∷ (float 100) ∷ [])) (float 100) (steps 2 512) (of_bits binary64 0x3fb999999999999a) ((float 0) ∷ (float 1) ∷ []) ((of_bits binary64 0x3f847ae147ae147b) ∷ (of_bits binary64 0x3f889374bc6a7efa) ∷ []) (of_bits binary64 0x3f747ae147ae147b) (pillars (100 ∷ 465 ∷ 829 ∷ []) ((float 1) ∷ (of_bits binary64 0x3fef0a3d70a3d70a) ∷ (of_bits binary64 0x3fedc28f5c28f5c3) ∷ []))) (calls (465 ∷ []) (465 ∷ []) ((float 101) ∷ [])) (room 64 96 9 9) ≡ Err (record { reason = reason.PillarOrder; place = 2 })
unfolding tree_value paid_into raw_step curve_over exp_at exp_m1_at ln_at sqrt_at on_outcome on_check lowest rounded ieee.of_bits ieee.add ieee.sub ieee.mul ieee.div ieee.neg ieee.lt ieee.le ieee.of_int ieee.to_signed
number_8 = refl

pub number_20 : tree_value (market 100 (leg (465 ∷ 830 ∷ 830 ∷ []) (0 ∷ 0 ∷ 1 ∷ []) ((float 5) ∷ (float 5) ∷ (float 100) ∷ [])) (float 100) (steps 2 512) (of_bits binary64 0x3fb999999999999a) ((float 0) ∷ (float 1) ∷ []) ((of_bits binary64 0x3f847ae147ae147b) ∷ (of_bits binary64 0x3f889374bc6a7efa) ∷ []) (of_bits binary64 0x3f747ae147ae147b) (pillars (100 ∷ 465 ∷ 900 ∷ []) ((float 1) ∷ (of_bits binary64 0x3fef0a3d70a3d70a) ∷ (of_bits binary64 0x3fedc28f5c28f5c3) ∷ []))) (calls (830 ∷ []) (830 ∷ []) ((float 100) ∷ [])) (room 64 96 9 9) ≡ Err (record { reason = reason.NoPrincipal; place = 0 })
unfolding tree_value paid_into raw_step curve_over exp_at exp_m1_at ln_at sqrt_at on_outcome on_check lowest rounded ieee.of_bits ieee.add ieee.sub ieee.mul ieee.div ieee.neg ieee.lt ieee.le ieee.of_int ieee.to_signed
number_20 = refl

-- Repaid principal is gone: a window over settlement has nothing else to call.
repaid_20 : tree_value (market 100 (leg (100 ∷ 465 ∷ []) (1 ∷ 0 ∷ []) ((float 40) ∷ (float 60) ∷ [])) (float 100) (steps 2 512) (float 0) ((float 0) ∷ []) ((float 0) ∷ []) (float 0) (pillars (100 ∷ 465 ∷ []) ((float 1) ∷ (float 1) ∷ []))) (calls (90 ∷ []) (200 ∷ []) ((float 100) ∷ [])) (room 6 9 1 1) ≡ Err (record { reason = reason.NoPrincipal; place = 0 })
unfolding tree_value paid_into raw_step curve_over exp_at exp_m1_at ln_at sqrt_at on_outcome on_check lowest rounded ieee.of_bits ieee.add ieee.sub ieee.mul ieee.div ieee.neg ieee.lt ieee.le ieee.of_int ieee.to_signed
repaid_20 = refl

-- What is left is called: 60 at 99, and not 100 at 99.
repaid-part : tree_value (market 100 (leg (100 ∷ 465 ∷ []) (1 ∷ 1 ∷ []) ((float 40) ∷ (float 60) ∷ [])) (float 100) (steps 2 512) (float 0) ((float 0) ∷ []) ((float 0) ∷ []) (float 0) (pillars (100 ∷ 465 ∷ []) ((float 1) ∷ (float 1) ∷ []))) (calls (90 ∷ []) (200 ∷ []) ((float 99) ∷ [])) (room 6 9 1 1) ≡ Ok (record { value = (of_bits binary64 0x404db33333333333); nodes = 3 })
unfolding tree_value paid_into raw_step curve_over exp_at exp_m1_at ln_at sqrt_at on_outcome on_check lowest rounded ieee.of_bits ieee.add ieee.sub ieee.mul ieee.div ieee.neg ieee.lt ieee.le ieee.of_int ieee.to_signed
repaid-part = refl

-- A repaid amount below 0 goes too; with it no principal would be left.
repaid-negative : tree_value (market 100 (leg (100 ∷ 465 ∷ []) (1 ∷ 1 ∷ []) ((of_bits binary64 0xc069000000000000) ∷ (float 100) ∷ [])) (float 100) (steps 2 512) (float 0) ((float 0) ∷ []) ((float 0) ∷ []) (float 0) (pillars (100 ∷ 465 ∷ []) ((float 1) ∷ (float 1) ∷ []))) (calls (90 ∷ []) (200 ∷ []) ((float 99) ∷ [])) (room 6 9 1 1) ≡ Ok (record { value = (float 99); nodes = 3 })
unfolding tree_value paid_into raw_step curve_over exp_at exp_m1_at ln_at sqrt_at on_outcome on_check lowest rounded ieee.of_bits ieee.add ieee.sub ieee.mul ieee.div ieee.neg ieee.lt ieee.le ieee.of_int ieee.to_signed
repaid-negative = refl

pub number_21 : tree_value (market 100 (leg (465 ∷ 830 ∷ 830 ∷ []) (0 ∷ 0 ∷ 1 ∷ []) ((float 5) ∷ (float 5) ∷ (float 100) ∷ [])) (float 100) (steps 2 512) (of_bits binary64 0x3fb999999999999a) ((float 0) ∷ (float 1) ∷ []) ((of_bits binary64 0x3f847ae147ae147b) ∷ (of_bits binary64 0x3f889374bc6a7efa) ∷ []) (of_bits binary64 0x3f747ae147ae147b) (pillars (100 ∷ 465 ∷ 900 ∷ []) ((float 1) ∷ (of_bits binary64 0x3fef0a3d70a3d70a) ∷ (of_bits binary64 0x3fedc28f5c28f5c3) ∷ []))) (calls (465 ∷ []) (465 ∷ []) ((float 101) ∷ [])) (room 64 11 9 9) ≡ Err (record { reason = reason.NoRoom; place = 1 })
unfolding tree_value paid_into raw_step curve_over exp_at exp_m1_at ln_at sqrt_at on_outcome on_check lowest rounded ieee.of_bits ieee.add ieee.sub ieee.mul ieee.div ieee.neg ieee.lt ieee.le ieee.of_int ieee.to_signed
number_21 = refl

pub number_22 : tree_value (market 100 (leg (465 ∷ 830 ∷ 830 ∷ []) (0 ∷ 0 ∷ 1 ∷ []) ((float 5) ∷ (float 5) ∷ (float 100) ∷ [])) (float 100) (steps 1 512) (of_bits binary64 0x3fb999999999999a) ((float 0) ∷ (float 1) ∷ []) ((of_bits binary64 0x3fe0000000000000) ∷ (float 0) ∷ []) (of_bits binary64 0x3f747ae147ae147b) (pillars (100 ∷ 465 ∷ 900 ∷ []) ((float 1) ∷ (of_bits binary64 0x3fef0a3d70a3d70a) ∷ (of_bits binary64 0x3fedc28f5c28f5c3) ∷ []))) (calls (465 ∷ []) (465 ∷ []) ((float 101) ∷ [])) (room 64 96 9 9) ≡ Err (record { reason = reason.NoVariance; place = 1 })
unfolding tree_value paid_into raw_step curve_over exp_at exp_m1_at ln_at sqrt_at on_outcome on_check lowest rounded ieee.of_bits ieee.add ieee.sub ieee.mul ieee.div ieee.neg ieee.lt ieee.le ieee.of_int ieee.to_signed
number_22 = refl

pub number_23 : tree_value (market 100 (leg (465 ∷ 830 ∷ 830 ∷ []) (0 ∷ 0 ∷ 1 ∷ []) ((float 5) ∷ (float 5) ∷ (float 100) ∷ [])) (float 100) (steps 1 512) (of_bits binary64 0x3fb999999999999a) ((float 0) ∷ (float 1) ∷ []) ((float 10) ∷ (of_bits binary64 0x3ed4f8b588e368f1) ∷ []) (of_bits binary64 0x3f747ae147ae147b) (pillars (100 ∷ 465 ∷ 900 ∷ []) ((float 1) ∷ (of_bits binary64 0x3fef0a3d70a3d70a) ∷ (of_bits binary64 0x3fedc28f5c28f5c3) ∷ []))) (calls (465 ∷ []) (465 ∷ []) ((float 101) ∷ [])) (room 64 96 9 9) ≡ Err (record { reason = reason.NodeTooFar; place = 1 })
unfolding tree_value paid_into raw_step curve_over exp_at exp_m1_at ln_at sqrt_at on_outcome on_check lowest rounded ieee.of_bits ieee.add ieee.sub ieee.mul ieee.div ieee.neg ieee.lt ieee.le ieee.of_int ieee.to_signed
number_23 = refl

-- By exp's underflow alone: ln of 1e-305 is below −700.
pub number_25 : tree_value (market 100 (leg (465 ∷ 830 ∷ 830 ∷ []) (0 ∷ 0 ∷ 1 ∷ []) ((float 5) ∷ (float 5) ∷ (float 100) ∷ [])) (float 100) (steps 2 512) (of_bits binary64 0x3fb999999999999a) ((float 0) ∷ (float 1) ∷ []) ((of_bits binary64 0x3f847ae147ae147b) ∷ (of_bits binary64 0x3f889374bc6a7efa) ∷ []) (of_bits binary64 0x3f747ae147ae147b) (pillars (100 ∷ 465 ∷ 900 ∷ []) ((float 1) ∷ (of_bits binary64 0x9c16c5c5253575) ∷ (of_bits binary64 0x3fedc28f5c28f5c3) ∷ []))) (calls (465 ∷ []) (465 ∷ []) ((float 101) ∷ [])) (room 64 96 9 9) ≡ Err (record { reason = reason.Factor; place = 1 })
unfolding tree_value paid_into raw_step curve_over exp_at exp_m1_at ln_at sqrt_at on_outcome on_check lowest rounded ieee.of_bits ieee.add ieee.sub ieee.mul ieee.div ieee.neg ieee.lt ieee.le ieee.of_int ieee.to_signed
number_25 = refl

pub number_26 : tree_value (market 100 (leg (465 ∷ 13240 ∷ 13240 ∷ []) (0 ∷ 0 ∷ 1 ∷ []) ((float 5) ∷ (float 5) ∷ (float 100) ∷ [])) (float 100) (steps 1 1) (of_bits binary64 0xc024000000000000) ((float 0) ∷ []) ((float 0) ∷ []) (of_bits binary64 0x3f747ae147ae147b) (pillars (100 ∷ 465 ∷ 20000 ∷ []) ((float 1) ∷ (of_bits binary64 0x3fef0a3d70a3d70a) ∷ (of_bits binary64 0x3fedc28f5c28f5c3) ∷ []))) (calls (465 ∷ []) (465 ∷ []) ((float 101) ∷ [])) (room 64 96 9 9) ≡ Err (record { reason = reason.Outside; place = 0 })
unfolding tree_value paid_into raw_step curve_over exp_at exp_m1_at ln_at sqrt_at on_outcome on_check lowest rounded ieee.of_bits ieee.add ieee.sub ieee.mul ieee.div ieee.neg ieee.lt ieee.le ieee.of_int ieee.to_signed
number_26 = refl

pub number_27 : tree_value (market 100 (leg (465 ∷ 830 ∷ 830 ∷ []) (0 ∷ 0 ∷ 1 ∷ []) ((float 5) ∷ (float 5) ∷ (float 100) ∷ [])) (of_bits binary64 0x12688b70e62b) (steps 2 512) (of_bits binary64 0x3fb999999999999a) ((float 0) ∷ (float 1) ∷ []) ((of_bits binary64 0x3f847ae147ae147b) ∷ (of_bits binary64 0x3f889374bc6a7efa) ∷ []) (of_bits binary64 0x3f747ae147ae147b) (pillars (100 ∷ 465 ∷ 900 ∷ []) ((float 1) ∷ (of_bits binary64 0x3fef0a3d70a3d70a) ∷ (of_bits binary64 0x3fedc28f5c28f5c3) ∷ []))) (calls (465 ∷ []) (465 ∷ []) ((float 101) ∷ [])) (room 64 96 9 9) ≡ Err (record { reason = reason.NotFinite; place = 0 })
unfolding tree_value paid_into raw_step curve_over exp_at exp_m1_at ln_at sqrt_at on_outcome on_check lowest rounded ieee.of_bits ieee.add ieee.sub ieee.mul ieee.div ieee.neg ieee.lt ieee.le ieee.of_int ieee.to_signed
number_27 = refl

-- No day count has the code 3.
pub number_33 : tree_value (market_by (record { day = 100; code = 3 }) (leg (465 ∷ []) (1 ∷ []) ((float 100) ∷ [])) (float 100) (steps 2 512) (of_bits binary64 0x3fb999999999999a) ((float 0) ∷ []) ((of_bits binary64 0x3f847ae147ae147b) ∷ []) (float 0) (pillars (100 ∷ 465 ∷ []) ((float 1) ∷ (float 1) ∷ []))) (calls [] [] []) (room 64 96 9 9) ≡ Err (record { reason = reason.DayCount; place = 0 })
unfolding tree_value paid_into raw_step curve_over on_outcome on_check lowest rounded thirties ieee.of_bits ieee.add ieee.sub ieee.mul ieee.div ieee.neg ieee.lt ieee.le ieee.eq ieee.of_int ieee.to_signed
number_33 = refl

-- By 30E/360 the pillars of 30 and 31 January 1900 are at one time.
pub number_34 : tree_value (market_by (thirty 19) (leg (400 ∷ []) (1 ∷ []) ((float 100) ∷ [])) (float 100) (steps 2 512) (of_bits binary64 0x3fb999999999999a) ((float 0) ∷ []) ((of_bits binary64 0x3f847ae147ae147b) ∷ []) (float 0) (pillars (19 ∷ 29 ∷ 30 ∷ 400 ∷ []) ((float 1) ∷ (float 1) ∷ (float 1) ∷ (float 1) ∷ []))) (calls [] [] []) (room 64 96 9 9) ≡ Err (record { reason = reason.SameTime; place = 2 })
unfolding tree_value paid_into raw_step curve_over on_outcome on_check lowest rounded thirties ieee.of_bits ieee.add ieee.sub ieee.mul ieee.div ieee.neg ieee.lt ieee.le ieee.eq ieee.of_int ieee.to_signed
number_34 = refl

-- Settled on 30 January 1900, and all paid on the 31st.
pub number_35 : tree_value (market_by (thirty 29) (leg (30 ∷ []) (1 ∷ []) ((float 100) ∷ [])) (float 100) (steps 2 512) (of_bits binary64 0x3fb999999999999a) ((float 0) ∷ []) ((of_bits binary64 0x3f847ae147ae147b) ∷ []) (float 0) (pillars (29 ∷ 40 ∷ []) ((float 1) ∷ (float 1) ∷ []))) (calls [] [] []) (room 64 96 9 9) ≡ Err (record { reason = reason.NoTime; place = 0 })
unfolding tree_value paid_into raw_step curve_over on_outcome on_check lowest rounded thirties ieee.of_bits ieee.add ieee.sub ieee.mul ieee.div ieee.neg ieee.lt ieee.le ieee.eq ieee.of_int ieee.to_signed
number_35 = refl

-- 65 puts.
pub number_37 : tree_value (with_puts (market 100 (leg (465 ∷ []) (1 ∷ []) ((float 100) ∷ [])) (float 100) (steps 2 512) (of_bits binary64 0x3fb999999999999a) ((float 0) ∷ []) ((of_bits binary64 0x3f847ae147ae147b) ∷ []) (float 0) (pillars (100 ∷ 465 ∷ []) ((float 1) ∷ (float 1) ∷ []))) (calls (replicate 65 465) (replicate 65 465) (replicate 65 (float 99)))) (calls [] [] []) (room 64 96 9 9) ≡ Err (record { reason = reason.PutCount; place = 0 })
unfolding tree_value paid_into raw_step curve_over on_outcome on_check lowest rounded thirties ieee.of_bits ieee.add ieee.sub ieee.mul ieee.div ieee.neg ieee.lt ieee.le ieee.eq ieee.of_int ieee.to_signed
number_37 = refl

-- A put at 101 beside a call at 99: the day's step is 2.
pub number_38 : tree_value (with_puts (market 100 (leg (465 ∷ 830 ∷ []) (0 ∷ 1 ∷ []) ((float 5) ∷ (float 100) ∷ [])) (float 100) (steps 2 512) (of_bits binary64 0x3fb999999999999a) ((float 0) ∷ []) ((of_bits binary64 0x3f847ae147ae147b) ∷ []) (float 0) (pillars (100 ∷ 830 ∷ []) ((float 1) ∷ (float 1) ∷ []))) (calls (465 ∷ []) (465 ∷ []) ((float 101) ∷ []))) (calls (465 ∷ []) (465 ∷ []) ((float 99) ∷ [])) (room 64 96 9 9) ≡ Err (record { reason = reason.PutAbove; place = 2 })
unfolding tree_value paid_into raw_step curve_over on_outcome on_check lowest rounded thirties ieee.of_bits ieee.add ieee.sub ieee.mul ieee.div ieee.neg ieee.lt ieee.le ieee.eq ieee.of_int ieee.to_signed
number_38 = refl

-- Once the call is dropped, the same puts are accepted.
gone_38 : number_of (tree_value (with_puts (market 100 (leg (465 ∷ 830 ∷ []) (0 ∷ 1 ∷ []) ((float 5) ∷ (float 100) ∷ [])) (float 100) (steps 2 512) (of_bits binary64 0x3fb999999999999a) ((float 0) ∷ []) ((of_bits binary64 0x3f847ae147ae147b) ∷ []) (float 0) (pillars (100 ∷ 830 ∷ []) ((float 1) ∷ (float 1) ∷ []))) (calls (465 ∷ []) (465 ∷ []) ((float 101) ∷ []))) (calls [] [] []) (room 64 96 9 9)) ≡ 0
unfolding tree_value paid_into raw_step curve_over exp_at exp_m1_at ln_at sqrt_at on_outcome on_check lowest rounded ieee.of_bits ieee.add ieee.sub ieee.mul ieee.div ieee.neg ieee.lt ieee.le ieee.of_int ieee.to_signed
gone_38 = refl

pub number_44 : tree_value (market 100 (leg (465 ∷ 830 ∷ 830 ∷ []) (0 ∷ 0 ∷ 1 ∷ []) ((float 5) ∷ (float 5) ∷ (float 100) ∷ [])) (float 100) (steps 2 512) (of_bits binary64 0x3fb999999999999a) ((float 0) ∷ (float 1) ∷ []) ((of_bits binary64 0x3f847ae147ae147b) ∷ (of_bits binary64 0x3f889374bc6a7efa) ∷ []) (of_bits binary64 0x3f747ae147ae147b) (pillars (100 ∷ 465 ∷ 900 ∷ []) ((float 1) ∷ (of_bits binary64 0x3fef0a3d70a3d70a) ∷ (of_bits binary64 0xbfedc28f5c28f5c3) ∷ []))) (calls (465 ∷ []) (465 ∷ []) ((float 101) ∷ [])) (room 64 96 9 9) ≡ Err (record { reason = reason.FactorNotPositive; place = 2 })
unfolding tree_value paid_into raw_step curve_over exp_at exp_m1_at ln_at sqrt_at on_outcome on_check lowest rounded ieee.of_bits ieee.add ieee.sub ieee.mul ieee.div ieee.neg ieee.lt ieee.le ieee.of_int ieee.to_signed
number_44 = refl

-- The lowest of two; −0 isn't positive either.
minus-zero : tree_value (market 100 (leg (465 ∷ 830 ∷ 830 ∷ []) (0 ∷ 0 ∷ 1 ∷ []) ((float 5) ∷ (float 5) ∷ (float 100) ∷ [])) (float 100) (steps 2 512) (of_bits binary64 0x3fb999999999999a) ((float 0) ∷ (float 1) ∷ []) ((of_bits binary64 0x3f847ae147ae147b) ∷ (of_bits binary64 0x3f889374bc6a7efa) ∷ []) (of_bits binary64 0x3f747ae147ae147b) (pillars (100 ∷ 465 ∷ 900 ∷ []) ((float 1) ∷ (of_bits binary64 0x8000000000000000) ∷ (float 0) ∷ []))) (calls (465 ∷ []) (465 ∷ []) ((float 101) ∷ [])) (room 64 96 9 9) ≡ Err (record { reason = reason.FactorNotPositive; place = 1 })
unfolding tree_value paid_into raw_step curve_over exp_at exp_m1_at ln_at sqrt_at on_outcome on_check lowest rounded ieee.of_bits ieee.add ieee.sub ieee.mul ieee.div ieee.neg ieee.lt ieee.le ieee.of_int ieee.to_signed
minus-zero = refl

-- 44 is tried last: after a factor out of range, and after the pillars' days.
after_range : tree_value (market 100 (leg (465 ∷ 830 ∷ 830 ∷ []) (0 ∷ 0 ∷ 1 ∷ []) ((float 5) ∷ (float 5) ∷ (float 100) ∷ [])) (float 100) (steps 2 512) (of_bits binary64 0x3fb999999999999a) ((float 0) ∷ (float 1) ∷ []) ((of_bits binary64 0x3f847ae147ae147b) ∷ (of_bits binary64 0x3f889374bc6a7efa) ∷ []) (of_bits binary64 0x3f747ae147ae147b) (pillars (100 ∷ 465 ∷ 900 ∷ []) ((float 1) ∷ (of_bits binary64 0xbff0000000000000) ∷ (of_bits binary64 0xc09f400000000000) ∷ []))) (calls (465 ∷ []) (465 ∷ []) ((float 101) ∷ [])) (room 64 96 9 9) ≡ Err (record { reason = reason.Number; place = 2 })
unfolding tree_value paid_into raw_step curve_over exp_at exp_m1_at ln_at sqrt_at on_outcome on_check lowest rounded ieee.of_bits ieee.add ieee.sub ieee.mul ieee.div ieee.neg ieee.lt ieee.le ieee.of_int ieee.to_signed
after_range = refl

after-days : tree_value (market 100 (leg (465 ∷ 830 ∷ 830 ∷ []) (0 ∷ 0 ∷ 1 ∷ []) ((float 5) ∷ (float 5) ∷ (float 100) ∷ [])) (float 100) (steps 2 512) (of_bits binary64 0x3fb999999999999a) ((float 0) ∷ (float 1) ∷ []) ((of_bits binary64 0x3f847ae147ae147b) ∷ (of_bits binary64 0x3f889374bc6a7efa) ∷ []) (of_bits binary64 0x3f747ae147ae147b) (pillars (100 ∷ 465 ∷ 829 ∷ []) ((float 1) ∷ (of_bits binary64 0xbff0000000000000) ∷ (of_bits binary64 0x3fedc28f5c28f5c3) ∷ []))) (calls (465 ∷ []) (465 ∷ []) ((float 101) ∷ [])) (room 64 96 9 9) ≡ Err (record { reason = reason.PillarOrder; place = 2 })
unfolding tree_value paid_into raw_step curve_over exp_at exp_m1_at ln_at sqrt_at on_outcome on_check lowest rounded ieee.of_bits ieee.add ieee.sub ieee.mul ieee.div ieee.neg ieee.lt ieee.le ieee.of_int ieee.to_signed
after-days = refl

-- Positive, but too small for ln; read at the pillar before it already.
subnormal : tree_value (market 100 (leg (465 ∷ 830 ∷ 830 ∷ []) (0 ∷ 0 ∷ 1 ∷ []) ((float 5) ∷ (float 5) ∷ (float 100) ∷ [])) (float 100) (steps 2 512) (of_bits binary64 0x3fb999999999999a) ((float 0) ∷ (float 1) ∷ []) ((of_bits binary64 0x3f847ae147ae147b) ∷ (of_bits binary64 0x3f889374bc6a7efa) ∷ []) (of_bits binary64 0x3f747ae147ae147b) (pillars (100 ∷ 465 ∷ 900 ∷ []) ((float 1) ∷ (of_bits binary64 0x3fef0a3d70a3d70a) ∷ (of_bits binary64 0x1) ∷ []))) (calls (465 ∷ []) (465 ∷ []) ((float 101) ∷ [])) (room 64 96 9 9) ≡ Err (record { reason = reason.Outside; place = 1 })
unfolding tree_value paid_into raw_step curve_over exp_at exp_m1_at ln_at sqrt_at on_outcome on_check lowest rounded ieee.of_bits ieee.add ieee.sub ieee.mul ieee.div ieee.neg ieee.lt ieee.le ieee.of_int ieee.to_signed
subnormal = refl

dropped : tree_value (market 0 (leg (1095 ∷ []) (1 ∷ []) ((of_bits binary64 0x426d1a94a2000000) ∷ [])) (float 100) (steps 1 512) (of_bits binary64 0x3fb999999999999a) ((float 0) ∷ []) ((float 0) ∷ []) (float 0) (pillars (0 ∷ 365 ∷ 730 ∷ 1095 ∷ []) ((float 1) ∷ (of_bits binary64 0x1a56e1fc2f8f359) ∷ (of_bits binary64 0x20ca2fe76a3f9475) ∷ (float 1000) ∷ []))) (calls ([]) ([]) ([])) (room 64 96 9 9) ≡ Err (record { reason = reason.NotFinite; place = 1 })
unfolding tree_value paid_into raw_step curve_over exp_at exp_m1_at ln_at sqrt_at on_outcome on_check lowest rounded ieee.of_bits ieee.add ieee.sub ieee.mul ieee.div ieee.neg ieee.lt ieee.le ieee.of_int ieee.to_signed
dropped = refl

kept : tree_value (market 0 (leg (1095 ∷ []) (1 ∷ []) ((of_bits binary64 0x426d1a94a2000000) ∷ [])) (float 100) (steps 1 512) (of_bits binary64 0x3fb999999999999a) ((float 0) ∷ []) ((float 0) ∷ []) (float 0) (pillars (0 ∷ 365 ∷ 730 ∷ 1095 ∷ []) ((float 1) ∷ (of_bits binary64 0x1a56e1fc2f8f359) ∷ (of_bits binary64 0x20ca2fe76a3f9475) ∷ (float 1000) ∷ []))) (calls (730 ∷ []) (730 ∷ []) ((float 100) ∷ [])) (room 64 96 9 9) ≡ Ok (record { value = (of_bits binary64 0x2347d12a4670c172); nodes = 4 })
unfolding tree_value paid_into raw_step curve_over exp_at exp_m1_at ln_at sqrt_at on_outcome on_check lowest rounded ieee.of_bits ieee.add ieee.sub ieee.mul ieee.div ieee.neg ieee.lt ieee.le ieee.of_int ieee.to_signed
kept = refl

straight : straight_value (on 100) (leg (465 ∷ 830 ∷ 830 ∷ []) (0 ∷ 0 ∷ 1 ∷ []) ((float 5) ∷ (float 5) ∷ (float 100) ∷ [])) (of_bits binary64 0x3f747ae147ae147b) (pillars (100 ∷ 465 ∷ 900 ∷ []) ((float 1) ∷ (of_bits binary64 0x3fef0a3d70a3d70a) ∷ (of_bits binary64 0x3fedc28f5c28f5c3) ∷ [])) ≡ Ok (of_bits binary64 0x40598a56cf612a92)
unfolding straight_value curve_over exp_at ln_at on_check lowest on_outcome rounded ieee.of_bits ieee.add ieee.sub ieee.mul ieee.div ieee.neg ieee.lt ieee.le ieee.of_int ieee.to_signed
straight = refl

straight_25 : straight_value (on 100) (leg (465 ∷ 830 ∷ 830 ∷ []) (0 ∷ 0 ∷ 1 ∷ []) ((float 5) ∷ (float 5) ∷ (float 100) ∷ [])) (of_bits binary64 0x3f747ae147ae147b) (pillars (100 ∷ 465 ∷ 900 ∷ []) ((of_bits binary64 0x9c16c5c5253575) ∷ (of_bits binary64 0x3fef0a3d70a3d70a) ∷ (of_bits binary64 0x3fedc28f5c28f5c3) ∷ [])) ≡ Err (record { reason = reason.Factor; place = 0 })
unfolding straight_value curve_over exp_at ln_at on_check lowest on_outcome rounded ieee.of_bits ieee.add ieee.sub ieee.mul ieee.div ieee.neg ieee.lt ieee.le ieee.of_int ieee.to_signed
straight_25 = refl

straight_26 : straight_value (on 100) (leg (465 ∷ 830 ∷ 830 ∷ []) (0 ∷ 0 ∷ 1 ∷ []) ((float 5) ∷ (float 5) ∷ (float 100) ∷ [])) (of_bits binary64 0x3f747ae147ae147b) (pillars (100 ∷ 465 ∷ 900 ∷ []) ((of_bits binary64 0x1) ∷ (of_bits binary64 0x3fef0a3d70a3d70a) ∷ (float 1000) ∷ [])) ≡ Err (record { reason = reason.Outside; place = 0 })
unfolding straight_value curve_over exp_at ln_at on_check lowest on_outcome rounded ieee.of_bits ieee.add ieee.sub ieee.mul ieee.div ieee.neg ieee.lt ieee.le ieee.of_int ieee.to_signed
straight_26 = refl

straight_27 : straight_value (on 100) (leg (465 ∷ 830 ∷ 830 ∷ []) (0 ∷ 0 ∷ 1 ∷ []) ((float 5) ∷ (float 5) ∷ (of_bits binary64 0x426d1a94a2000000) ∷ [])) (of_bits binary64 0x3f747ae147ae147b) (pillars (100 ∷ 465 ∷ 900 ∷ []) ((of_bits binary64 0x1a56e1fc2f8f359) ∷ (of_bits binary64 0x3fef0a3d70a3d70a) ∷ (float 1000) ∷ [])) ≡ Err (record { reason = reason.NotFinite; place = 0 })
unfolding straight_value curve_over exp_at ln_at on_check lowest on_outcome rounded ieee.of_bits ieee.add ieee.sub ieee.mul ieee.div ieee.neg ieee.lt ieee.le ieee.of_int ieee.to_signed
straight_27 = refl

straight_44 : straight_value (on 100) (leg (465 ∷ 830 ∷ 830 ∷ []) (0 ∷ 0 ∷ 1 ∷ []) ((float 5) ∷ (float 5) ∷ (float 100) ∷ [])) (of_bits binary64 0x3f747ae147ae147b) (pillars (100 ∷ 465 ∷ 900 ∷ []) ((float 0) ∷ (of_bits binary64 0x3fef0a3d70a3d70a) ∷ (of_bits binary64 0x3fedc28f5c28f5c3) ∷ [])) ≡ Err (record { reason = reason.FactorNotPositive; place = 0 })
unfolding straight_value curve_over exp_at ln_at on_check lowest on_outcome rounded ieee.of_bits ieee.add ieee.sub ieee.mul ieee.div ieee.neg ieee.lt ieee.le ieee.of_int ieee.to_signed
straight_44 = refl

-- The factor at an inner pillar is exp of its ln, one bit below 0.3; at the last pillar it is 0.3 itself.
inner_pillar : straight_value (on 0) (leg (365 ∷ []) (1 ∷ []) ((float 1) ∷ [])) (float 0) (pillars (0 ∷ 365 ∷ 730 ∷ []) ((float 1) ∷ (of_bits binary64 0x3fd3333333333333) ∷ (of_bits binary64 0x3fb999999999999a) ∷ [])) ≡ Ok (of_bits binary64 0x3fd3333333333332)
unfolding straight_value curve_over exp_at ln_at on_check lowest on_outcome rounded ieee.of_bits ieee.add ieee.sub ieee.mul ieee.div ieee.neg ieee.lt ieee.le ieee.of_int ieee.to_signed
inner_pillar = refl

last_pillar : straight_value (on 0) (leg (365 ∷ []) (1 ∷ []) ((float 1) ∷ [])) (float 0) (pillars (0 ∷ 365 ∷ []) ((float 1) ∷ (of_bits binary64 0x3fd3333333333333) ∷ [])) ≡ Ok (of_bits binary64 0x3fd3333333333333)
unfolding straight_value curve_over exp_at ln_at on_check lowest on_outcome rounded ieee.of_bits ieee.add ieee.sub ieee.mul ieee.div ieee.neg ieee.lt ieee.le ieee.of_int ieee.to_signed
last_pillar = refl

-- Only settlement's factor is tested for 25.
sunk : straight_value (on 0) (leg (365 ∷ []) (1 ∷ []) ((float 1) ∷ [])) (float 0) (pillars (0 ∷ 365 ∷ 730 ∷ []) ((float 1) ∷ (of_bits binary64 0x9c16c5c5253575) ∷ (float 1) ∷ [])) ≡ Ok (float 0)
unfolding straight_value curve_over exp_at ln_at on_check lowest on_outcome rounded ieee.of_bits ieee.add ieee.sub ieee.mul ieee.div ieee.neg ieee.lt ieee.le ieee.of_int ieee.to_signed
sunk = refl

compounding_0 : price_from_yield (on 100) (leg (465 ∷ 830 ∷ 830 ∷ []) (0 ∷ 0 ∷ 1 ∷ []) ((float 5) ∷ (float 5) ∷ (float 100) ∷ [])) 0 7 (of_bits binary64 0x3fa5c28f5c28f5c3) ≡ Ok (record { price = (of_bits binary64 0x40596480b90b44a9); derivative = (of_bits binary64 0xc066df8f5453f2a9) })
unfolding price_from_yield with_code on_price exp_at on_outcome on_check lowest rounded ieee.of_bits ieee.add ieee.sub ieee.mul ieee.div ieee.neg ieee.lt ieee.le ieee.of_int ieee.to_signed
compounding_0 = refl

compounding_1 : price_from_yield (on 100) (leg (465 ∷ 830 ∷ 830 ∷ []) (0 ∷ 0 ∷ 1 ∷ []) ((float 5) ∷ (float 5) ∷ (float 100) ∷ [])) 1 2 (of_bits binary64 0x3fa5c28f5c28f5c3) ≡ Ok (record { price = (of_bits binary64 0x405954b9270fd2af); derivative = (of_bits binary64 0xc0683792539b00a3) })
unfolding price_from_yield with_code on_price exp_at on_outcome on_check lowest rounded ieee.of_bits ieee.add ieee.sub ieee.mul ieee.div ieee.neg ieee.lt ieee.le ieee.of_int ieee.to_signed
compounding_1 = refl

compounding_2 : price_from_yield (on 100) (leg (465 ∷ 830 ∷ 830 ∷ []) (0 ∷ 0 ∷ 1 ∷ []) ((float 5) ∷ (float 5) ∷ (float 100) ∷ [])) 2 0 (of_bits binary64 0x3fa5c28f5c28f5c3) ≡ Ok (record { price = (of_bits binary64 0x40594f166668d302); derivative = (of_bits binary64 0xc068b5beba00714d) })
unfolding price_from_yield with_code on_price exp_at on_outcome on_check lowest rounded ieee.of_bits ieee.add ieee.sub ieee.mul ieee.div ieee.neg ieee.lt ieee.le ieee.of_int ieee.to_signed
compounding_2 = refl

compounding_3 : price_from_yield (on 100) (leg (465 ∷ 830 ∷ 830 ∷ []) (0 ∷ 0 ∷ 1 ∷ []) ((float 5) ∷ (float 5) ∷ (float 100) ∷ [])) 3 1 (of_bits binary64 0x3fa5c28f5c28f5c3) ≡ Ok (record { price = (of_bits binary64 0x40595a3592d00376); derivative = (of_bits binary64 0xc067be6669bea9d0) })
unfolding price_from_yield with_code on_price exp_at on_outcome on_check lowest rounded ieee.of_bits ieee.add ieee.sub ieee.mul ieee.div ieee.neg ieee.lt ieee.le ieee.of_int ieee.to_signed
compounding_3 = refl

compounding_4 : price_from_yield (on 100) (leg (465 ∷ 830 ∷ 830 ∷ []) (0 ∷ 0 ∷ 1 ∷ []) ((float 5) ∷ (float 5) ∷ (float 100) ∷ [])) 4 1 (of_bits binary64 0x3fa5c28f5c28f5c3) ≡ Ok (record { price = (of_bits binary64 0x40596480b90b44a9); derivative = (of_bits binary64 0xc066df8f5453f2a9) })
unfolding price_from_yield with_code on_price exp_at on_outcome on_check lowest rounded ieee.of_bits ieee.add ieee.sub ieee.mul ieee.div ieee.neg ieee.lt ieee.le ieee.of_int ieee.to_signed
compounding_4 = refl

price_9 : price_from_yield (on 100) (leg (465 ∷ 830 ∷ 830 ∷ []) (0 ∷ 0 ∷ 1 ∷ []) ((float 5) ∷ (float 5) ∷ (float 100) ∷ [])) 3 5 (of_bits binary64 0x3fa47ae147ae147b) ≡ Err (record { reason = reason.Rate; place = 0 })
unfolding price_from_yield with_code on_price exp_at on_outcome on_check lowest rounded ieee.of_bits ieee.add ieee.sub ieee.mul ieee.div ieee.neg ieee.lt ieee.le ieee.of_int ieee.to_signed
price_9 = refl

price_9_code : price_from_yield (on 100) (leg (465 ∷ 830 ∷ 830 ∷ []) (0 ∷ 0 ∷ 1 ∷ []) ((float 5) ∷ (float 5) ∷ (float 100) ∷ [])) 5 1 (of_bits binary64 0x3fa47ae147ae147b) ≡ Err (record { reason = reason.Rate; place = 0 })
unfolding price_from_yield with_code on_price exp_at on_outcome on_check lowest rounded ieee.of_bits ieee.add ieee.sub ieee.mul ieee.div ieee.neg ieee.lt ieee.le ieee.of_int ieee.to_signed
price_9_code = refl

price_4 : price_from_yield (on 100) (leg (465 ∷ 830 ∷ 830 ∷ []) (0 ∷ 0 ∷ 1 ∷ []) ((float 5) ∷ (float 5) ∷ (float 100) ∷ [])) 0 1 (float 1000001) ≡ Err (record { reason = reason.Number; place = 0 })
unfolding price_from_yield with_code on_price exp_at on_outcome on_check lowest rounded ieee.of_bits ieee.add ieee.sub ieee.mul ieee.div ieee.neg ieee.lt ieee.le ieee.of_int ieee.to_signed
price_4 = refl

price_28 : price_from_yield (on 100) (leg (465 ∷ 830 ∷ 830 ∷ []) (0 ∷ 0 ∷ 1 ∷ []) ((float 5) ∷ (float 5) ∷ (float 100) ∷ [])) 1 2 (of_bits binary64 0xc000000000000000) ≡ Err (record { reason = reason.YieldBase; place = 0 })
unfolding price_from_yield with_code on_price exp_at on_outcome on_check lowest rounded ieee.of_bits ieee.add ieee.sub ieee.mul ieee.div ieee.neg ieee.lt ieee.le ieee.of_int ieee.to_signed
price_28 = refl

yield : yield_from_price (on 100) (leg (465 ∷ 830 ∷ 830 ∷ []) (0 ∷ 0 ∷ 1 ∷ []) ((float 5) ∷ (float 5) ∷ (float 100) ∷ [])) 0 1 (of_bits binary64 0x4059e00000000000) ≡ found_root (of_bits binary64 0x3fa07669e83d199b) 42
unfolding yield_from_price with_code on_price exp_at on_outcome on_check lowest rounded ieee.of_bits ieee.add ieee.sub ieee.mul ieee.div ieee.neg ieee.lt ieee.le ieee.of_int ieee.to_signed
yield = refl

yield_29 : yield_from_price (on 0) (leg (365 ∷ []) (1 ∷ []) ((float 1) ∷ [])) 0 1 (of_bits binary64 0xbff0000000000000) ≡ no_root (record { reason = reason.NoBracket; place = 0 }) 66
unfolding yield_from_price with_code on_price exp_at on_outcome on_check lowest rounded ieee.of_bits ieee.add ieee.sub ieee.mul ieee.div ieee.neg ieee.lt ieee.le ieee.of_int ieee.to_signed
yield_29 = refl

yield_28 : yield_from_price (on 0) (leg (365 ∷ []) (1 ∷ []) ((float 1) ∷ [])) 0 1 (float 1000000) ≡ no_root (record { reason = reason.YieldBase; place = 0 }) 7
unfolding yield_from_price with_code on_price exp_at on_outcome on_check lowest rounded ieee.of_bits ieee.add ieee.sub ieee.mul ieee.div ieee.neg ieee.lt ieee.le ieee.of_int ieee.to_signed
yield_28 = refl

yield_28_first : yield_from_price (on 0) (leg (10950 ∷ []) (1 ∷ []) ((float 1) ∷ [])) 0 1 (float 1) ≡ no_root (record { reason = reason.YieldBase; place = 0 }) 1
unfolding yield_from_price with_code on_price exp_at on_outcome on_check lowest rounded ieee.of_bits ieee.add ieee.sub ieee.mul ieee.div ieee.neg ieee.lt ieee.le ieee.of_int ieee.to_signed
yield_28_first = refl

-- An objective that jumps from 1 to −1 at 1000 is never within 1e-12 of 0, and no bracket there is as narrow as 1e-14.
yield_30 :
    bracketed_root (λ x. Ok (cond (lt x (float 1000)) one (of_bits binary64 0xbff0000000000000))) first_lower first_upper (of_bits binary64 0xc024000000000000)
    ≡ no_root (record { reason = reason.NotConverged; place = 0 }) 272
unfolding bracketed_root on_outcome ieee.of_bits ieee.add ieee.lt ieee.div ieee.of_int
yield_30 = refl

yield_4 : yield_from_price (on 0) (leg (365 ∷ 701 ∷ []) (0 ∷ 1 ∷ []) ((of_bits binary64 0x426d1a94a2000000) ∷ (of_bits binary64 0x42645f680b000000) ∷ [])) 0 1 (of_bits binary64 0x431c6bf526340000) ≡ no_root (record { reason = reason.Number; place = 0 }) 0
unfolding yield_from_price with_code on_price exp_at on_outcome on_check lowest rounded ieee.of_bits ieee.add ieee.sub ieee.mul ieee.div ieee.neg ieee.lt ieee.le ieee.of_int ieee.to_signed
yield_4 = refl

spread : spread_from_price (quoted 0 (leg (365 ∷ []) (1 ∷ []) ((float 105) ∷ [])) (float 100) (steps 1 512) (float 0) ((float 0) ∷ []) ((float 0) ∷ []) (float 100) (pillars (0 ∷ 365 ∷ []) ((float 1) ∷ (float 1) ∷ []))) (calls ([]) ([]) ([])) (room 4 6 1 1) ≡ found_root (of_bits binary64 0x3fa8fb063ef2cccd) 40
unfolding spread_from_price on_tree_value tree_value paid_into raw_step curve_over exp_at exp_m1_at ln_at sqrt_at on_outcome on_check lowest rounded ieee.of_bits ieee.add ieee.sub ieee.mul ieee.div ieee.neg ieee.lt ieee.le ieee.of_int ieee.to_signed
spread = refl

-- Called at once at −0.05: worth the strike there.
spread-called : spread_from_price (quoted 100 (leg (465 ∷ 830 ∷ 830 ∷ []) (0 ∷ 0 ∷ 1 ∷ []) ((float 5) ∷ (float 5) ∷ (float 100) ∷ [])) (float 100) (steps 1 512) (of_bits binary64 0x3fb999999999999a) ((float 0) ∷ (float 1) ∷ []) ((of_bits binary64 0x3f847ae147ae147b) ∷ (of_bits binary64 0x3f889374bc6a7efa) ∷ []) (float 101) (pillars (100 ∷ 465 ∷ 900 ∷ []) ((float 1) ∷ (of_bits binary64 0x3fef0a3d70a3d70a) ∷ (of_bits binary64 0x3fedc28f5c28f5c3) ∷ []))) (calls (100 ∷ []) (465 ∷ []) ((float 101) ∷ [])) (room 64 96 9 9) ≡ found_root (of_bits binary64 0xbfa999999999999a) 2
unfolding spread_from_price on_tree_value tree_value paid_into raw_step curve_over exp_at exp_m1_at ln_at sqrt_at on_outcome on_check lowest rounded ieee.of_bits ieee.add ieee.sub ieee.mul ieee.div ieee.neg ieee.lt ieee.le ieee.of_int ieee.to_signed
spread-called = refl

pub spread_4 : spread_from_price (quoted 0 (leg (365 ∷ []) (1 ∷ []) ((float 105) ∷ [])) (float 100) (steps 1 512) (float 0) ((float 0) ∷ []) ((float 0) ∷ []) (of_bits binary64 0x430c6bf526340001) (pillars (0 ∷ 365 ∷ []) ((float 1) ∷ (float 1) ∷ []))) (calls ([]) ([]) ([])) (room 4 6 1 1) ≡ no_root (record { reason = reason.Number; place = 0 }) 0
unfolding spread_from_price on_tree_value tree_value paid_into raw_step curve_over exp_at exp_m1_at ln_at sqrt_at on_outcome on_check lowest rounded ieee.of_bits ieee.add ieee.sub ieee.mul ieee.div ieee.neg ieee.lt ieee.le ieee.of_int ieee.to_signed
spread_4 = refl

spread-limit : spread_from_price (quoted 0 (leg (365 ∷ []) (1 ∷ []) ((float 105) ∷ [])) (float 100) (steps 1 512) (float 0) ((float 0) ∷ []) ((float 0) ∷ []) (of_bits binary64 0x430c6bf526340000) (pillars (0 ∷ 365 ∷ []) ((float 1) ∷ (float 1) ∷ []))) (calls ([]) ([]) ([])) (room 4 6 1 1) ≡ no_root (record { reason = reason.NoBracket; place = 0 }) 7
unfolding spread_from_price on_tree_value tree_value paid_into raw_step curve_over exp_at exp_m1_at ln_at sqrt_at on_outcome on_check lowest rounded ieee.of_bits ieee.add ieee.sub ieee.mul ieee.div ieee.neg ieee.lt ieee.le ieee.of_int ieee.to_signed
spread-limit = refl

-- Met at the first spread.
pub spread_20 : spread_from_price (quoted 100 (leg (465 ∷ 830 ∷ 830 ∷ []) (0 ∷ 0 ∷ 1 ∷ []) ((float 5) ∷ (float 5) ∷ (float 100) ∷ [])) (float 100) (steps 1 512) (of_bits binary64 0x3fb999999999999a) ((float 0) ∷ (float 1) ∷ []) ((of_bits binary64 0x3f847ae147ae147b) ∷ (of_bits binary64 0x3f889374bc6a7efa) ∷ []) (float 100) (pillars (100 ∷ 465 ∷ 900 ∷ []) ((float 1) ∷ (of_bits binary64 0x3fef0a3d70a3d70a) ∷ (of_bits binary64 0x3fedc28f5c28f5c3) ∷ []))) (calls (830 ∷ []) (830 ∷ []) ((float 101) ∷ [])) (room 64 96 9 9) ≡ no_root (record { reason = reason.NoPrincipal; place = 0 }) 1
unfolding spread_from_price on_tree_value tree_value paid_into raw_step curve_over exp_at exp_m1_at ln_at sqrt_at on_outcome on_check lowest rounded ieee.of_bits ieee.add ieee.sub ieee.mul ieee.div ieee.neg ieee.lt ieee.le ieee.of_int ieee.to_signed
spread_20 = refl

pub spread_21 : spread_from_price (quoted 0 (leg (365 ∷ []) (1 ∷ []) ((float 105) ∷ [])) (float 100) (steps 1 512) (float 0) ((float 0) ∷ []) ((float 0) ∷ []) (float 100) (pillars (0 ∷ 365 ∷ []) ((float 1) ∷ (float 1) ∷ []))) (calls ([]) ([]) ([])) (room 3 6 1 1) ≡ no_root (record { reason = reason.NoRoom; place = 1 }) 1
unfolding spread_from_price on_tree_value tree_value paid_into raw_step curve_over exp_at exp_m1_at ln_at sqrt_at on_outcome on_check lowest rounded ieee.of_bits ieee.add ieee.sub ieee.mul ieee.div ieee.neg ieee.lt ieee.le ieee.of_int ieee.to_signed
spread_21 = refl

-- Met at the fifth spread, −0.47.
pub spread_26 : spread_from_price (quoted 0 (leg (7300 ∷ 14600 ∷ []) (0 ∷ 1 ∷ []) ((float 0) ∷ (float 1) ∷ [])) (float 100) (steps 1 2) (float 0) ((float 0) ∷ []) ((float 0) ∷ []) (float 1000000) (pillars (0 ∷ 7300 ∷ 14600 ∷ []) ((float 1) ∷ (of_bits binary64 0x13b6e3d22865634) ∷ (float 1) ∷ []))) (calls ([]) ([]) ([])) (room 6 9 1 1) ≡ no_root (record { reason = reason.Outside; place = 1 }) 5
unfolding spread_from_price on_tree_value tree_value paid_into raw_step curve_over exp_at exp_m1_at ln_at sqrt_at on_outcome on_check lowest rounded ieee.of_bits ieee.add ieee.sub ieee.mul ieee.div ieee.neg ieee.lt ieee.le ieee.of_int ieee.to_signed
spread_26 = refl

pub spread_29 : spread_from_price (quoted 0 (leg (365 ∷ []) (1 ∷ []) ((float 105) ∷ [])) (float 100) (steps 1 512) (float 0) ((float 0) ∷ []) ((float 0) ∷ []) (float 1000000) (pillars (0 ∷ 365 ∷ []) ((float 1) ∷ (float 1) ∷ []))) (calls ([]) ([]) ([])) (room 4 6 1 1) ≡ no_root (record { reason = reason.NoBracket; place = 0 }) 7
unfolding spread_from_price on_tree_value tree_value paid_into raw_step curve_over exp_at exp_m1_at ln_at sqrt_at on_outcome on_check lowest rounded ieee.of_bits ieee.add ieee.sub ieee.mul ieee.div ieee.neg ieee.lt ieee.le ieee.of_int ieee.to_signed
spread_29 = refl

pub spread_36 : spread_from_price (quoted 0 (leg (365 ∷ []) (1 ∷ []) ((float 105) ∷ [])) (float 100) (steps 1 512) (float 0) ((float 0) ∷ []) ((float 0) ∷ []) (float 1) (pillars (0 ∷ 365 ∷ []) ((float 1) ∷ (float 1) ∷ []))) (calls ([]) ([]) ([])) (room 4 6 1 1) ≡ no_root (record { reason = reason.SpreadAbove; place = 0 }) 6
unfolding spread_from_price on_tree_value tree_value paid_into raw_step curve_over exp_at exp_m1_at ln_at sqrt_at on_outcome on_check lowest rounded ieee.of_bits ieee.add ieee.sub ieee.mul ieee.div ieee.neg ieee.lt ieee.le ieee.of_int ieee.to_signed
spread_36 = refl

pub spread_44 : spread_from_price (quoted 0 (leg (365 ∷ []) (1 ∷ []) ((float 105) ∷ [])) (float 100) (steps 1 512) (float 0) ((float 0) ∷ []) ((float 0) ∷ []) (float 100) (pillars (0 ∷ 365 ∷ []) ((float 1) ∷ (float 0) ∷ []))) (calls ([]) ([]) ([])) (room 4 6 1 1) ≡ no_root (record { reason = reason.FactorNotPositive; place = 1 }) 0
unfolding spread_from_price on_tree_value tree_value paid_into raw_step curve_over exp_at exp_m1_at ln_at sqrt_at on_outcome on_check lowest rounded ieee.of_bits ieee.add ieee.sub ieee.mul ieee.div ieee.neg ieee.lt ieee.le ieee.of_int ieee.to_signed
spread_44 = refl
