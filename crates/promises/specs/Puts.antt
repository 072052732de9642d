-- Definitions only. Bonds that the holder can put back, as a C caller meets them: what put lists may change, what call lists may change beside any puts, both whatever the curve, and that without puts every answer is the old one.
use Rattle.std.specs.Prelude.{ℕ, ◌≡◌, List, map, T, ℤ}
use Rattle.std.specs.Float.Ieee.{le}
use Rattle.terms.specs.declared.Settlement.{Settlement}
use Rattle.terms.specs.Terms.{CallSchedule, Bond, TimeGrid, Market, no_entries, bond_with_puts, with_puts}
use Rattle.terms.specs.CallLists.{MadeFrom, LoweredFrom, Reordered}
use Rattle.bondevents.specs.declared.Exercise.{Exercise}
use Rattle.bondevents.specs.declared.CallStep.{CallStep}
use Rattle.bondevents.specs.declared.GridAnswer.{GridAnswer}
use Rattle.bondevents.specs.Calls.{none}
use Rattle.bondevents.specs.Grid.{grid_answer}
use Rattle.lattice.specs.Layers.{Room}
use Rattle.treebasedbondpricer.specs.Tree.{tree_value, Lent, room_of, lent_after}
use Rattle.treebasedbondpricer.specs.CallLists.{AnyCurveRule}
use Rattle.treebasedbondpricer.specs.PutLists.{AnyCurvePutRule}
use Rattle.closingsheet.specs.Sheet.{by_number, sheet_of}
use Rattle.sizing.specs.Sizing.{sizes_of, nodes_after}
use Rattle.spreads.specs.Spreads.{Quoted, spread_from_price}
use Rattle.spreads.specs.Spreads as spreads
use Rattle.promises.specs.Callable as callable
use Rattle.promises.specs.HostCallLists.{GridCall, TreeCall, Unchanged, HostCallListRule, HostReorderingRule}

-- ---- put lists

-- No list made by reordering or dropping puts or lowering their strikes raises the value, other inputs equal, each working slice as long and both accepted.
abbrev pub HostPutListRule : Type 0
HostPutListRule =
    (m : Market) (calls first second : CallSchedule)
    → LoweredFrom first second
    → (a : TreeCall (with_puts m first) calls) (b : TreeCall (with_puts m second) calls)
    → room_of b.lent ≡ room_of a.lent
    → a.number ≡ 0
    → b.number ≡ 0
    → T (le b.value a.value)

-- Whenever the grid accepts, reordering the puts changes nothing.
abbrev pub HostPutReorderingRule : Type 0
HostPutReorderingRule =
    (m : Market) (calls first second : CallSchedule)
    → Reordered first second
    → (g : GridCall (with_puts m first) calls)
    → g.number ≡ 0
    → Unchanged (with_puts m first) calls (with_puts m second) calls

-- ---- call lists beside any fixed puts

-- The rule for calls as it stands: the puts are in the market's bond, the same in both calls.
pub record CallsWithPuts : Type 0 where
  pub dropped_or_raised : HostCallListRule
  pub reordered : HostReorderingRule

-- A put above the call never appears when calls are dropped or raised.
abbrev pub Never38 : Type 0
Never38 =
    (m : Market) (first second : CallSchedule)
    → MadeFrom first second
    → (a : TreeCall m first) (b : TreeCall m second)
    → room_of b.lent ≡ room_of a.lent
    → a.number ≡ 0
    → b.number ≡ 38
    → ⊥

-- Nor in the grid's own answer.
abbrev pub GridNever38 : Type 0
GridNever38 =
    (m : Market) (first second : CallSchedule)
    → MadeFrom first second
    → (a : GridCall m first) (b : GridCall m second)
    → a.number ≡ 0
    → b.number ≡ 38
    → ⊥

-- ---- whatever the curve

-- Whatever a curve gives at each time, the rules of call lists and of put lists hold of the tree value over it.
pub record ListsOverCurves : Type 0 where
  pub call-lists : AnyCurveRule
  pub put-lists : AnyCurvePutRule

-- ---- without puts

-- The old grid in the new record: its put marks are false and its put prices 0.
abbrev pub unput : Exercise → CallStep
unput c = record { call = c; put = none }

abbrev pub as_grid : callable.GridAnswer → GridAnswer
as_grid g =
    record {
      refusal = g.refusal;
      grid = record {
        maturity_time = g.grid.maturity;
        steps = g.grid.steps;
        cashflows = g.grid.cashflows;
        calls = map unput g.grid.calls;
      };
    }

-- What spread from price takes, with another put list.
abbrev pub asked_with_puts : Quoted → CallSchedule → Quoted
asked_with_puts q puts =
    record {
      settlement = q.settlement;
      bond = bond_with_puts q.bond puts;
      controls = q.controls;
      model = q.model;
      target = q.target;
      pillars = q.pillars;
    }

-- Without puts the answer is the old one, bit for bit: the grid's, the tree value's, the spread's with its tries, the sheet's line, the sizes, and what is left in the lent slices.
pub record WithoutPuts : Type 0 where
  pub grids : (settlement : Settlement) (bond : Bond) (calls : CallSchedule) (controls : TimeGrid) → grid_answer settlement (bond_with_puts bond no_entries) calls controls ≡ as_grid (callable.grid_answer settlement bond calls controls)
  pub values : (m : Market) (calls : CallSchedule) (room : Room) → tree_value (with_puts m no_entries) calls room ≡ callable.tree_value m calls room
  pub slices : (m : Market) (calls : CallSchedule) (lent : Lent) → lent_after (with_puts m no_entries) calls lent ≡ callable.lent_after m calls lent
  pub roots : (asked : Quoted) (calls : CallSchedule) (room : Room) → spread_from_price (asked_with_puts asked no_entries) calls room ≡ callable.spread_from_price asked calls room
  pub spread-slices : (asked : Quoted) (calls : CallSchedule) (lent : Lent) → spreads.lent_after (asked_with_puts asked no_entries) calls lent ≡ callable.lent_after_spread asked calls lent
  pub lines : (bond : ℕ) (m : Market) (calls : CallSchedule) (room : Room) → sheet_of bond (by_number (tree_value (with_puts m no_entries) calls room)) ≡ sheet_of bond (by_number (callable.tree_value m calls room))
  pub sizes : (m : Market) (calls : CallSchedule) (room : ℕ) → sizes_of (with_puts m no_entries) calls room ≡ callable.sizes_of m calls room
  pub node-slice : (m : Market) (calls : CallSchedule) (nodes : List ℤ) → nodes_after (with_puts m no_entries) calls nodes ≡ callable.nodes_after m calls nodes
