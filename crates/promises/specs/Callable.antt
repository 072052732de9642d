-- Definitions only. The bond without puts, as it was defined before there were any: its checks, its grid, the walk, the tree value, sizing and the spread. A step has a call alone.
use Rattle.std.specs.Prelude.{ℕ, zero, suc, true, false, cond, List, [], ◌∷◌, ◌++◌, length, get_or, replicate, ltb, ℤ, pos, Float, Ok, Err, Option, Some, None}
use Rattle.std.specs.Float.{binary64}
use Rattle.std.specs.Float.Ieee.{add, mul, sub, neg, lt}
use Rattle.floats.specs.Refusals.{Refusal}
use Rattle.floats.specs.Answers.{Answer, plus_zero, one, refusal, follow, tested, when_finite, Check, Outcome, on_outcome}
use Rattle.floats.specs.Extremes.{min_of}
use Rattle.elementary.specs.Exponential.{exp_at}
use Rattle.terms.specs.declared.Settlement.{Settlement}
use Rattle.terms.specs.Numbers.{float, target_limit}
use Rattle.terms.specs.Terms.{CallSchedule, Bond, TimeGrid, Market}
use Rattle.terms.specs.Checks.{on_check, first_of, leg_count, call_count, settlement_day, leg_days, call_days, pillar_days, units_range, amount_range, strike_range, call_order, sigma_order, any_paid, maturity_apart}
use Rattle.terms.specs.Entries.{setting_checks, model_counts, tree_fields, model_numbers, late_checks}
use Rattle.bondevents.specs.declared.Exercise.{Exercise}
use Rattle.bondevents.specs.Steps.{Axis, step_cashflows}
use Rattle.bondevents.specs.Calls.{Entry, eligible, call_price}
use Rattle.bondevents.specs.Grid.{axis_of}
use Rattle.lattice.specs.declared.Transition.{Transition}
use Rattle.lattice.specs.Layers.{At, value_at, node_float, Room}
use Rattle.lattice.specs.Lattice.{Layer, node_count}
use Rattle.backwardinduction.specs.Walk.{expected, final_row}
use Rattle.treebasedbondpricer.specs.declared.TreeValue.{TreeValue}
use Rattle.treebasedbondpricer.specs.Tree.{fitted_tree, Lent, zeroed}
use Rattle.sizing.specs.declared.Lengths.{Lengths}
use Rattle.sizing.specs.Sizing.{tree_widths, sizes_from}
use Rattle.brackets.specs.declared.Root.{Root}
use Rattle.brackets.specs.Brackets.{Searched, no_root, bracketed_root}
use Rattle.sought.specs.Objectives.{first_lower, first_upper}
use Rattle.spreads.specs.Spreads.{Quoted, at_spread, on_tree_value}
use Rattle.floats.specs.declared.Reason.TheVariants as reason

-- ---- the checks

unfoldable pub grid_checks : Settlement → Bond → CallSchedule → TimeGrid → Check
unfolding first_of
grid_checks settlement bond calls controls =
    first_of
    (setting_checks controls settlement.code
    ++ leg_count bond.leg ∷ call_count calls ∷ settlement_day settlement.day ∷ leg_days bond.leg ∷ call_days calls
    ∷ units_range bond.units ∷ amount_range bond.leg ∷ strike_range calls
    ∷ call_order calls ∷ any_paid settlement.day bond.leg ∷ maturity_apart settlement bond.leg ∷ [])

unfoldable pub market_checks : Float → Market → CallSchedule → Check
unfolding first_of
market_checks limit m calls =
    first_of
    (setting_checks m.controls m.settlement.code
    ++ leg_count m.bond.leg ∷ call_count calls ∷ []
    ++ model_counts m.model.sigma m.pillars
    ++ settlement_day m.settlement.day ∷ leg_days m.bond.leg ∷ call_days calls ∷ pillar_days m.pillars ∷ []
    ++ tree_fields limit m.bond.units m.model.alpha m.spread
    ++ amount_range m.bond.leg ∷ strike_range calls ∷ []
    ++ model_numbers m.model.sigma m.pillars
    ++ call_order calls ∷ sigma_order m.model.sigma ∷ any_paid m.settlement.day m.bond.leg ∷ []
    ++ late_checks m.settlement m.bond.leg m.pillars)

-- ---- the grid

-- The lowest per step is kept.
unfoldable pub keep_lowest : Exercise → Float → Exercise
unfolding min_of
keep_lowest c price = record { marked = true; price = cond c.marked (min_of c.price price) price }

-- One entry over the count steps from step on; a step that isn't eligible computes nothing.
unfoldable pub over_steps : Axis → Bond → Entry → ℕ → ℕ → List Exercise → Outcome (List Exercise)
unfolding eligible call_price keep_lowest
over_steps a bond e (suc count) step (c ∷ cs) =
    follow
    (cond (eligible a e step) (follow (call_price a bond e step) λ price. Ok (keep_lowest c price)) (Ok c))
    λ c. follow (over_steps a bond e count (suc step) cs) λ cs. Ok (c ∷ cs)
over_steps a bond e (suc count) step [] = Ok []
over_steps a bond e zero step cs = Ok cs

-- Entries ending before settlement are skipped; steps 0 to steps−1 are tried.
unfoldable pub with_entry : Axis → Bond → Entry → List Exercise → Outcome (List Exercise)
unfolding over_steps
with_entry a bond e cs = cond (ltb e.end a.settlement) (Ok cs) (over_steps a bond e a.steps 0 cs)

-- Entry 0 over all its steps, then entry 1.
unfoldable pub over_entries : Axis → Bond → List ℕ → List ℕ → List Float → List Exercise → Outcome (List Exercise)
unfolding with_entry
over_entries a bond (s ∷ starts) (e ∷ ends) (k ∷ strikes) cs =
    follow (with_entry a bond (record { start = s; end = e; strike = k }) cs) λ cs. over_entries a bond starts ends strikes cs
over_entries a bond (s ∷ starts) (e ∷ ends) [] cs = Ok cs
over_entries a bond (s ∷ starts) [] strikes cs = Ok cs
over_entries a bond [] ends strikes cs = Ok cs

-- A step without a call.
abbrev pub uncalled : Exercise
uncalled = record { marked = false; price = plus_zero }

abbrev pub call_steps : Axis → Bond → CallSchedule → Outcome (List Exercise)
call_steps a bond calls = over_entries a bond calls.starts calls.ends calls.strikes (replicate 513 uncalled)

-- T, steps, cashflows and calls.
pub record Grid : Type 0 where
  pub maturity : Float
  pub steps : ℕ
  pub cashflows : List Float
  pub calls : List Exercise

unfoldable pub event_grid : Settlement → Bond → CallSchedule → TimeGrid → Outcome Grid
unfolding axis_of over_entries
event_grid settlement bond calls controls =
    let a = axis_of settlement bond.leg controls in
    follow (call_steps a bond calls) λ cs.
    Ok (record { maturity = a.maturity; steps = a.steps; cashflows = step_cashflows a bond.leg; calls = cs })

-- A refused grid is all zero.
pub record GridAnswer : Type 0 where
  pub refusal : Option Refusal
  pub grid : Grid

abbrev pub zero_grid : Grid
zero_grid = record { maturity = plus_zero; steps = 0; cashflows = replicate 513 plus_zero; calls = replicate 513 uncalled }

unfoldable pub grid_answer : Settlement → Bond → CallSchedule → TimeGrid → GridAnswer
unfolding grid_checks event_grid
grid_answer settlement bond calls controls =
    on_check (grid_checks settlement bond calls controls) (λ r. record { refusal = Some r; grid = zero_grid })
    (on_outcome (event_grid settlement bond calls controls) (λ r. record { refusal = Some r; grid = zero_grid })
    λ g. record { refusal = None; grid = g })

-- ---- the walk

-- What a step of the walk reads beside the next row.
pub record Reads : Type 0 where
  pub spacing : Float
  pub dt : Float
  pub shift : Float
  pub spread : Float
  pub call : Exercise
  pub cashflow : Float

-- exp(short rate × −time_step); the spread joins the short rate only here.
abbrev pub discount_of : Reads → ℤ → ℕ → Answer
discount_of r node place =
    when_finite (mul binary64 r.spacing (node_float node)) place λ state.
    when_finite (add binary64 r.shift state) place λ rate.
    when_finite (add binary64 rate r.spread) place λ rate.
    when_finite (mul binary64 rate (neg r.dt)) place λ x. exp_at x place

-- The lower of continuation and call price.
abbrev pub called : Exercise → Float → Float
called c continuation = cond c.marked (min_of continuation c.price) continuation

-- Continuation, then the lower of it and the call price, then the cashflow.
unfoldable pub node_value : Reads → ℤ → Transition → List At → ℕ → Answer
unfolding value_at min_of add mul neg
node_value r node t next place =
    follow (expected t next place) λ e.
    follow (discount_of r node place) λ d.
    when_finite (mul binary64 e d) place λ continuation. tested (add binary64 (called r.call continuation) r.cashflow) place

-- One layer, nodes rising.
unfoldable pub rolled : Reads → List ℤ → List Transition → List At → ℕ → Outcome (List At)
unfolding node_value
rolled r (n ∷ ns) (t ∷ ts) next place =
    follow (node_value r n t next place) λ v.
    follow (rolled r ns ts next place) λ row. Ok (record { node = n; value = v } ∷ row)
rolled r (n ∷ ns) [] next place = Ok []
rolled r [] ts next place = Ok []

-- The row of step k, from the row of step k+1.
unfoldable pub walk_from : Float → Float → List Float → List Exercise → ℕ → List Layer → List Float → List ℤ → Outcome (List At)
unfolding rolled final_row
walk_from dt spread cashflows calls k (l ∷ layers) (shift ∷ shifts) final =
    follow (walk_from dt spread cashflows calls (suc k) layers shifts final) λ next.
    rolled
    (record {
      spacing = l.spacing;
      dt = dt;
      shift = shift;
      spread = spread;
      call = get_or calls k uncalled;
      cashflow = get_or cashflows k plus_zero;
    })
    l.nodes
    l.transitions
    next
    k
walk_from dt spread cashflows calls k (l ∷ layers) [] final = Ok (final_row (get_or cashflows k plus_zero) final)
walk_from dt spread cashflows calls k [] shifts final = Ok (final_row (get_or cashflows k plus_zero) final)

-- ---- the tree value, over the curve of the market's pillars

-- The root's value is the answer.
unfoldable pub lattice_value : Market → Room → Grid → Outcome (Outcome TreeValue)
unfolding walk_from
lattice_value m room grid =
    follow (fitted_tree m room grid.maturity grid.steps) λ f.
    follow
    (walk_from f.dt m.spread grid.cashflows grid.calls 0 f.tree.layers f.shifts f.tree.final)
    λ row. Ok (Ok (record { value = (value_at (pos 0) row); nodes = (node_count f.tree) }))

-- The terms are checked, the grid is built, then the tree.
unfoldable pub tree_value : Market → CallSchedule → Room → Outcome TreeValue
unfolding market_checks event_grid lattice_value
tree_value m calls room =
    on_check (market_checks (float 1) m calls) Err
    (on_outcome (follow (event_grid m.settlement m.bond calls m.controls) λ grid. lattice_value m room grid) Err λ v. v)

-- Untouched after an input refusal; all zero after everything else.
unfoldable pub lent_after : Market → CallSchedule → Lent → Lent
unfolding market_checks
lent_after m calls l = on_check (market_checks (float 1) m calls) (λ r. l) (zeroed l)

-- ---- sizing

unfoldable pub sizes_of : Market → CallSchedule → ℕ → Outcome Lengths
unfolding market_checks tree_widths
sizes_of m calls room = on_check (market_checks (float 1) m calls) Err (on_outcome (tree_widths m room) Err sizes_from)

unfoldable pub nodes_after : Market → CallSchedule → List ℤ → List ℤ
unfolding market_checks
nodes_after m calls nodes = on_check (market_checks (float 1) m calls) (λ r. nodes) (replicate (length nodes) (pos 0))

-- ---- spread from price: a target in the spread's place

-- Tree value less target. 36: a spread tried above 1.
unfoldable pub spread_objective : Quoted → CallSchedule → Room → Float → Answer
unfolding tree_value on_tree_value sub lt
spread_objective q calls room s =
    cond (lt one s) (refusal reason.SpreadAbove 0)
    (on_tree_value (tree_value (at_spread q s) calls room) Err λ x. tested (sub binary64 x q.target) 0)

-- The spread and the number of spreads tried, 0 where the input is refused.
unfoldable pub spread_from_price : Quoted → CallSchedule → Room → Searched Root
unfolding market_checks bracketed_root spread_objective
spread_from_price q calls room =
    on_check (market_checks target_limit (at_spread q q.target) calls) (λ r. no_root r 0)
    (bracketed_root (spread_objective q calls room) first_lower first_upper (neg one))

unfoldable pub lent_after_spread : Quoted → CallSchedule → Lent → Lent
unfolding market_checks
lent_after_spread q calls l = on_check (market_checks target_limit (at_spread q q.target) calls) (λ r. l) (zeroed l)
