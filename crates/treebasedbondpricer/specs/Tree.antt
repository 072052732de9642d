-- Definitions only. lattice_value and the tree value entry, with what it leaves in the lent slices.
use Rattle.std.specs.Prelude.{ℕ, List, length, replicate, ℤ, pos, Float, Ok, Err}
use Rattle.std.specs.Float.{binary64}
use Rattle.std.specs.Float.Ieee.{div}
use Rattle.floats.specs.Reasons.{reason_number}
use Rattle.floats.specs.Answers.{Answer, plus_zero, Outcome, follow, on_outcome, when_finite}
use Rattle.terms.specs.Numbers.{float}
use Rattle.terms.specs.Terms.{CallSchedule, Market}
use Rattle.terms.specs.Times.{time_from}
use Rattle.terms.specs.Curve.{curve_at, curve_over}
use Rattle.terms.specs.Checks.{on_check}
use Rattle.terms.specs.Entries.{tree_checks}
use Rattle.bondevents.specs.declared.BondEventGrid.{BondEventGrid}
use Rattle.bondevents.specs.Grid.{event_grid}
use Rattle.hullwhite.specs.Variance.{transition_variances, variances_from}
use Rattle.treebasedbondpricer.specs.declared.TreeValue.{TreeValue}
use Rattle.lattice.specs.Layers.{value_at, Room}
use Rattle.lattice.specs.Lattice.{Lattice, lattice, count_of, node_count}
use Rattle.forwardinduction.specs.Fit.{fitted, shifts_from}
use Rattle.backwardinduction.specs.Walk.{walk_from}

-- The tree before the walk: time_step, layers and shifts. Nothing of it reads the calls or the cashflows.
pub record Fitted : Type 0 where
  pub dt : Float
  pub tree : Lattice
  pub shifts : List Float

-- time_step = T/steps; variances, transitions, then the fit to the curve, which ends entirely before the walk.
unfoldable pub fitted_tree_over : (Float → ℕ → Answer) → Market → Room → Float → ℕ → Outcome Fitted
unfolding variances_from lattice shifts_from div
fitted_tree_over curve m room maturity steps =
    when_finite (div binary64 maturity (float steps)) 0 λ dt.
    follow (transition_variances m.model steps dt) λ variances.
    follow (lattice room m.model.alpha dt variances) λ tree.
    follow (fitted curve dt tree.layers) λ shifts.
    Ok (record { dt = dt; tree = tree; shifts = shifts })

abbrev pub value_with : Float → BondEventGrid → Fitted → Outcome (Outcome TreeValue)
value_with spread grid f =
    follow
    (walk_from f.dt spread grid.cashflows grid.calls 0 f.tree.layers f.shifts f.tree.final)
    λ row. Ok (Ok (record { value = (value_at (pos 0) row); nodes = (node_count f.tree) }))

-- The root's value is the answer.
unfoldable pub lattice_value_over : (Float → ℕ → Answer) → Market → Room → BondEventGrid → Outcome (Outcome TreeValue)
unfolding fitted_tree_over walk_from value_at count_of
lattice_value_over curve m room grid =
    follow (fitted_tree_over curve m room grid.maturity_time grid.steps) λ f. value_with m.spread grid f

-- The terms are checked, the grid is built, then the tree.
unfoldable pub tree_value_over : (Float → ℕ → Answer) → Market → CallSchedule → Room → Outcome TreeValue
unfolding tree_checks event_grid lattice_value_over
tree_value_over curve m calls room =
    on_check (tree_checks m calls) Err
    (on_outcome
    (follow (event_grid m.settlement m.bond calls m.controls) λ grid. lattice_value_over curve m room grid)
    Err
    λ v. v)

-- ---- over the curve of the market's pillars

abbrev pub curve_of : Market → Float → ℕ → Answer
curve_of m = curve_at m.settlement m.pillars

abbrev pub fitted_tree : Market → Room → Float → ℕ → Outcome Fitted
fitted_tree m = fitted_tree_over (curve_of m) m

abbrev pub lattice_value : Market → Room → BondEventGrid → Outcome (Outcome TreeValue)
lattice_value m = lattice_value_over (curve_of m) m

unfoldable pub tree_value : Market → CallSchedule → Room → Outcome TreeValue
unfolding tree_value_over curve_over time_from
tree_value m = tree_value_over (curve_of m) m

-- ---- lent slices

-- The four lent slices.
pub record Lent : Type 0 where
  pub nodes : List ℤ
  pub probabilities : List Float
  pub first : List Float
  pub second : List Float

abbrev pub room_of : Lent → Room
room_of l =
    record {
      nodes = length l.nodes;
      probabilities = length l.probabilities;
      first = length l.first;
      second = length l.second;
    }

abbrev pub zeroed : Lent → Lent
zeroed l =
    record {
      nodes = replicate (length l.nodes) (pos 0);
      probabilities = replicate (length l.probabilities) plus_zero;
      first = replicate (length l.first) plus_zero;
      second = replicate (length l.second) plus_zero;
    }

-- Untouched after an input refusal; all zero after every other refusal and after every accepted call.
unfoldable pub lent_after : Market → CallSchedule → Lent → Lent
unfolding tree_checks
lent_after m calls l = on_check (tree_checks m calls) (λ r. l) (zeroed l)

-- ---- 01's number and values for each case

abbrev pub number_of : Outcome TreeValue → ℕ
number_of (Ok x) = 0
number_of (Err r) = reason_number r.reason

abbrev pub place_of : Outcome TreeValue → ℕ
place_of (Ok x) = 0
place_of (Err r) = r.place

-- A refusal has no value and no node count; 0 stands there.
abbrev pub value_of : Outcome TreeValue → Float
value_of (Ok v) = v.value
value_of (Err r) = plus_zero

abbrev pub counted_by : Outcome TreeValue → ℕ
counted_by (Ok v) = v.nodes
counted_by (Err r) = 0
