-- Definitions only. Walking back: continuation, then the lower of it and the call price, then the higher of that and the put price, then the step's cashflow.
use Rattle.std.specs.Prelude.{ℕ, suc, cond, List, [], ◌∷◌, get_or, ℤ, Float, Ok}
use Rattle.std.specs.Float.{binary64}
use Rattle.std.specs.Float.Ieee.{add, mul, neg}
use Rattle.floats.specs.Answers.{Answer, plus_zero, follow, tested, when_finite, Outcome}
use Rattle.floats.specs.Extremes.{min_of, max_of}
use Rattle.elementary.specs.Exponential.{exp_at}
use Rattle.bondevents.specs.declared.Exercise.{Exercise}
use Rattle.bondevents.specs.declared.CallStep.{CallStep}
use Rattle.bondevents.specs.Calls.{new_step}
use Rattle.lattice.specs.declared.Transition.{Transition}
use Rattle.lattice.specs.Layers.{At, value_at, node_float}
use Rattle.lattice.specs.Lattice.{Layer}

-- What a step of the walk reads beside the next row: spacing, time_step, shift, spread, the step's call and put, and the cashflow.
pub record Reads : Type 0 where
  pub spacing : Float
  pub dt : Float
  pub shift : Float
  pub spread : Float
  pub call : CallStep
  pub cashflow : Float

-- Expected: from 0, down, middle, up.
abbrev pub expected : Transition → List At → ℕ → Answer
expected t next place =
    when_finite (mul binary64 (value_at t.down next) t.probability_down) place λ d.
    when_finite (add binary64 plus_zero d) place λ e.
    when_finite (mul binary64 (value_at t.middle next) t.probability_middle) place λ m.
    when_finite (add binary64 e m) place λ e.
    when_finite (mul binary64 (value_at t.up next) t.probability_up) place λ u. tested (add binary64 e u) place

-- exp(short rate × −time_step); the spread joins the short rate only here.
abbrev pub discount_of : Reads → ℤ → ℕ → Answer
discount_of r node place =
    when_finite (mul binary64 r.spacing (node_float node)) place λ state.
    when_finite (add binary64 r.shift state) place λ rate.
    when_finite (add binary64 rate r.spread) place λ rate.
    when_finite (mul binary64 rate (neg r.dt)) place λ x. exp_at x place

-- The lower of continuation and call price.
abbrev pub called : Exercise → Float → Float
called c continuation = cond c.marked (min_of continuation c.price) continuation

-- The higher of that and the put price.
abbrev pub exercised : CallStep → Float → Float
exercised s continuation = cond s.put.marked (max_of (called s.call continuation) s.put.price) (called s.call continuation)

unfoldable pub node_value : Reads → ℤ → Transition → List At → ℕ → Answer
unfolding value_at min_of max_of add mul neg
node_value r node t next place =
    follow (expected t next place) λ e.
    follow (discount_of r node place) λ d.
    when_finite (mul binary64 e d) place λ continuation. tested (add binary64 (exercised r.call continuation) r.cashflow) place

-- One layer, nodes rising.
unfoldable pub rolled : Reads → List ℤ → List Transition → List At → ℕ → Outcome (List At)
unfolding node_value
rolled r (n ∷ ns) (t ∷ ts) next place =
    follow (node_value r n t next place) λ v.
    follow (rolled r ns ts next place) λ row. Ok (record { node = n; value = v } ∷ row)
rolled r (n ∷ ns) [] next place = Ok []
rolled r [] ts next place = Ok []

-- The last layer has the final cashflow everywhere.
unfoldable pub final_row : Float → List ℤ → List At
final_row cashflow [] = []
final_row cashflow (n ∷ ns) = record { node = n; value = cashflow } ∷ final_row cashflow ns

-- The row of step k, from the row of step k+1.
unfoldable pub walk_from : Float → Float → List Float → List CallStep → ℕ → List Layer → List Float → List ℤ → Outcome (List At)
unfolding rolled final_row
walk_from dt spread cashflows calls k (l ∷ layers) (shift ∷ shifts) final =
    follow (walk_from dt spread cashflows calls (suc k) layers shifts final) λ next.
    rolled
    (record {
      spacing = l.spacing;
      dt = dt;
      shift = shift;
      spread = spread;
      call = get_or calls k new_step;
      cashflow = get_or cashflows k plus_zero;
    })
    l.nodes
    l.transitions
    next
    k
walk_from dt spread cashflows calls k (l ∷ layers) [] final = Ok (final_row (get_or cashflows k plus_zero) final)
walk_from dt spread cashflows calls k [] shifts final = Ok (final_row (get_or cashflows k plus_zero) final)
