-- The walk by positions: what is done at one node, and one layer over the lent row that is written. Assumes nothing.
use Rattle.std.specs.Prelude.{ℕ, ◌+◌, Bool, List, [], ◌∷◌, get_or, set, ℤ, Float, Ok}
use Rattle.std.specs.Float.{binary64, nan}
use Rattle.std.specs.Float.Ieee.{add, mul, neg}
use Rattle.floats.specs.Answers.{Answer, plus_zero, follow, tested, when_finite, Outcome}
use Rattle.floats.specs.Extremes.{min_of, max_of}
use Rattle.elementary.specs.Exponential.{exp_at}
use Rattle.bondevents.specs.declared.CallStep.{CallStep}
use Rattle.lattice.specs.declared.reach.Reach.{Reach}
use Rattle.backwardinduction.specs.declared.walk.Rates.{Rates}
use Rattle.lattice.specs.Layers.{node_float}
use Rattle.backwardinduction.specs.Walk.{exercised}
use Rattle.lattice.specs.laws.Reaching.{reach}
use Rattle.lattice.specs.laws.Positions.{spot_at}

-- From 0: three values, each × its probability.
unfoldable pub sum_of : Float → Float → Float → Float → Float → Float → ℕ → Answer
unfolding add mul
sum_of low down mid middle high up place =
    when_finite (mul binary64 low down) place λ d.
    when_finite (add binary64 plus_zero d) place λ e.
    when_finite (mul binary64 mid middle) place λ m.
    when_finite (add binary64 e m) place λ e. when_finite (mul binary64 high up) place λ u. tested (add binary64 e u) place

-- exp((shift + spacing × node + spread) × −time_step).
unfoldable pub discount_with : Rates → Float → ℕ → Answer
unfolding add mul neg
discount_with r node place =
    when_finite (mul binary64 r.spacing node) place λ state.
    when_finite (add binary64 r.shift state) place λ rate.
    when_finite (add binary64 rate r.spread) place λ rate. when_finite (mul binary64 rate (neg r.dt)) place λ x. exp_at x place

-- Continuation, the lower of it and the call price, the higher of that and the put price, then the cashflow.
unfoldable pub worth_of : CallStep → Float → ℕ → Float → Float → Answer
unfolding min_of max_of add mul
worth_of call cashflow place e d =
    when_finite (mul binary64 e d) place λ continuation. tested (add binary64 (exercised call continuation) cashflow) place

-- A node's value from the next row.
unfoldable pub value_with : Rates → CallStep → Float → ℕ → Bool → ℕ → Float → Float → Float → Float → List Float → Answer
unfolding sum_of discount_with worth_of
value_with rates call cashflow place flat count node down middle up next =
    follow
    (sum_of
    (get_or next (spot_at flat count 3) nan)
    down
    (get_or next (spot_at flat count 2) nan)
    middle
    (get_or next (spot_at flat count 1) nan)
    up
    place)
    λ e.
    follow (discount_with rates node place) λ d. worth_of call cashflow place e d

-- A layer's nodes in turn, each value into the row.
unfoldable pub rolled_at : Rates → CallStep → Float → ℕ → Bool → List Float → Reach → ℕ → List ℤ → List Float → List Float → Outcome (List Float)
unfolding value_with reach
rolled_at rates call cashflow place flat next r i (n ∷ m ∷ nodes) (d ∷ p ∷ u ∷ probabilities) out =
    follow (value_with rates call cashflow place flat (reach r m).count (node_float n) d p u next) λ v.
    rolled_at rates call cashflow place flat next (reach r m) (i + 1) nodes probabilities (set out i v)
rolled_at rates call cashflow place flat next r i (n ∷ m ∷ nodes) (d ∷ p ∷ []) out = Ok out
rolled_at rates call cashflow place flat next r i (n ∷ m ∷ nodes) (d ∷ []) out = Ok out
rolled_at rates call cashflow place flat next r i (n ∷ m ∷ nodes) [] out = Ok out
rolled_at rates call cashflow place flat next r i (n ∷ []) probabilities out = Ok out
rolled_at rates call cashflow place flat next r i [] probabilities out = Ok out
