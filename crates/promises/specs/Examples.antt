-- The starred examples of document 01, proved together by computation.
use Rattle.floats.specs.Reasons.{refusal_number}
use Rattle.std.specs.Prelude.{ℕ, ◌≡◌, refl, List, [], ◌∷◌, ◌++◌, map, replicate, ℤ, pos, Float, Ok, Err}
use Rattle.std.specs.Float.{binary64}
use Rattle.std.specs.Float.Ieee.{of_bits}
use Rattle.std.specs.Float.Ieee as ieee
use Rattle.floats.specs.Answers.{plus_zero, one, on_outcome, Outcome}
use Rattle.floats.specs.Whole.{round_alone, rounded}
use Rattle.rounded.specs.Root.{sqrt_at}
use Rattle.elementary.specs.Exponential.{exp_alone, exp_at}
use Rattle.elementary.specs.Logarithm.{ln_alone, ln_at}
use Rattle.rounded.specs.Fused.{mul_add_alone, mul_add}
use Rattle.terms.specs.declared.Settlement.{Settlement}
use Rattle.terms.specs.Terms.{CallSchedule, Bond, TimeGrid, HullWhite, Market, no_entries}
use Rattle.terms.specs.Numbers.{float, epsilon}
use Rattle.terms.specs.Checks.{lowest, on_check}
use Rattle.bondevents.specs.Steps.{Axis, step_of, raw_step, paid_into}
use Rattle.bondevents.specs.Calls.{new_step}
use Rattle.bondevents.specs.Grid.{grid_answer, axis_of}
use Rattle.hullwhite.specs.Variance.{piecewise_variance, variance_over}
use Rattle.lattice.specs.Lattice.{Layer, Lattice, lattice}
use Rattle.treebasedbondpricer.specs.Tree.{tree_value, Lent, room_of, lent_after, zeroed}
use Rattle.floats.specs.declared.Reason.TheVariants as reason

-- Doubles of the examples: −0.5, −1, −701, 1 + 2^−52, 1 − 2^−52, −2^−104, 0.5, 5, 99, 100.
abbrev pub minus_half : Float
minus_half = of_bits binary64 0xbfe0_0000_0000_0000

abbrev pub minus_one : Float
minus_one = of_bits binary64 0xbff0_0000_0000_0000

abbrev pub minus701 : Float
minus701 = of_bits binary64 0xc085_e800_0000_0000

abbrev pub one_plus : Float
one_plus = of_bits binary64 0x3ff0_0000_0000_0001

abbrev pub one_less : Float
one_less = of_bits binary64 0x3fef_ffff_ffff_fffe

abbrev pub tiny : Float
tiny = of_bits binary64 0xb970_0000_0000_0000

abbrev pub half : Float
half = of_bits binary64 0x3fe0_0000_0000_0000

-- ---- terms

-- One coupon of 5 and a redemption of 100 on a day; units 100.
abbrev pub bond_on : ℕ → Bond
bond_on day =
    record {
      leg = record { days = day ∷ day ∷ []; kinds = 0 ∷ 1 ∷ []; amounts = float 5 ∷ float 100 ∷ [] };
      units = float 100;
      puts = no_entries;
    }

-- Day 0, times by Actual/365.
abbrev pub settled : Settlement
settled = record { day = 0; code = 0 }

abbrev pub no_calls : CallSchedule
no_calls = record { starts = []; ends = []; strikes = [] }

abbrev pub call_from : ℕ → ℕ → CallSchedule
call_from start end = record { starts = start ∷ []; ends = end ∷ []; strikes = float 99 ∷ [] }

abbrev pub steps : ℕ → ℕ → TimeGrid
steps per_year maximum = record { per_year = per_year; maximum = maximum }

abbrev pub steps_for : ℕ → TimeGrid → ℕ
steps_for day controls = (grid_answer settled (bond_on day) no_calls controls).grid.steps

abbrev pub year_axis : Axis
year_axis = axis_of settled (bond_on 365).leg (steps 12 512)

abbrev pub model : List Float → List Float → HullWhite
model times sigmas = record { alpha = plus_zero; sigma = record { times = times; sigmas = sigmas } }

-- The nodes of each layer, the last one included.
abbrev pub nodes_of : Outcome Lattice → List (List ℤ)
nodes_of (Ok t) = map (λ (l : Layer). l.nodes) t.layers ++ t.final ∷ []
nodes_of (Err r) = []

-- Factors 1, spread 0.
abbrev pub market_on : ℕ → TimeGrid → HullWhite → Market
market_on day controls m =
    record {
      settlement = settled;
      bond = bond_on day;
      controls = controls;
      model = m;
      spread = plus_zero;
      pillars = record { days = 0 ∷ day ∷ []; factors = one ∷ one ∷ [] };
    }

-- Lent slices with something in them.
abbrev pub lent : Lent
lent =
    record {
      nodes = replicate 8 (pos 7);
      probabilities = replicate 12 half;
      first = replicate 3 half;
      second = replicate 3 half;
    }

abbrev pub market99 : Market
market99 = market_on 365 (steps 1 512) (model (plus_zero ∷ []) (plus_zero ∷ []))

pub record Starred : Type 0 where
  -- 365 days, 12 per year: 12 steps. 366 days, 1 per year: 2; maximum 1: 1.
  pub twelve-steps : steps_for 365 (steps 12 512) ≡ 12
  pub two_steps : steps_for 366 (steps 1 512) ≡ 2
  pub one_step : steps_for 366 (steps 1 1) ≡ 1
  -- 12 steps over 365 days: day 15 falls in step 1, day 46 in 2.
  pub day_15 : step_of year_axis 15 ≡ 1
  pub day_46 : step_of year_axis 46 ≡ 2
  -- One step, discrete call between: no call price anywhere.
  pub call-between : (grid_answer settled (bond_on 365) (call_from 100 100) (steps 1 512)).grid.calls ≡ replicate 513 new_step
  pub call-accepted : (refusal_number (grid_answer settled (bond_on 365) (call_from 100 100) (steps 1 512)).refusal) ≡ 0
  -- Alpha 0, sigma (0.5, 0.5), (1.0, 1.0), from 0 to 1.25: 0.5.
  pub variance : piecewise_variance (model (half ∷ one ∷ []) (half ∷ one ∷ [])) plus_zero (of_bits binary64 0x3ff4_0000_0000_0000) 0 ≡ Ok half
  -- Variance 2^−52 on every step: one node per layer.
  pub flat : nodes_of (lattice (room_of lent) plus_zero one (epsilon ∷ epsilon ∷ [])) ≡ (pos 0 ∷ []) ∷ (pos 0 ∷ []) ∷ (pos 0 ∷ []) ∷ []
  -- Alpha 0, sigma (0, 0.5), (1, 0), two one-year steps: 22, place 1.
  pub no_variance :
      tree_value (market_on 730 (steps 1 512) (model (plus_zero ∷ one ∷ []) (half ∷ plus_zero ∷ []))) no_calls (room_of lent)
      ≡ Err (record { reason = reason.NoVariance; place = 1 })
  -- round(−0.5) = −1; exp(0) = 1; ln(1) = 0; exp(−701) = 0.
  pub round-half : round_alone minus_half ≡ Ok minus_one
  pub exp-zero : exp_alone plus_zero ≡ Ok one
  pub ln_one : ln_alone one ≡ Ok plus_zero
  pub exp-low : exp_alone minus701 ≡ Ok plus_zero
  -- mul_add(1 + 2^−52, 1 − 2^−52, −1) = −2^−104.
  pub fused : mul_add_alone one_plus one_less minus_one ≡ Ok tiny
  -- Redemption 100 and coupon 5 at 365 days, factors 1, sigma 0, one step, window from settlement to maturity, strike 99, units 100, spread 0: value 99, 2 nodes; the slices are left all zero.
  pub window : tree_value market99 (call_from 0 365) (room_of lent) ≡ Ok (record { value = (float 99); nodes = 2 })
  pub slices : lent_after market99 (call_from 0 365) lent ≡ zeroed lent

pub starred : Starred
unfolding grid_answer axis_of raw_step variance_over lattice tree_value lent_after rounded exp_at ln_at sqrt_at mul_add on_outcome on_check lowest paid_into ieee.of_bits ieee.add ieee.sub ieee.mul ieee.div ieee.neg ieee.lt ieee.le ieee.of_int ieee.to_unsigned
starred =
    record {
      twelve-steps = refl;
      two_steps = refl;
      one_step = refl;
      day_15 = refl;
      day_46 = refl;
      call-between = refl;
      call-accepted = refl;
      variance = refl;
      flat = refl;
      no_variance = refl;
      round-half = refl;
      exp-zero = refl;
      ln_one = refl;
      exp-low = refl;
      fused = refl;
      window = refl;
      slices = refl;
    }
