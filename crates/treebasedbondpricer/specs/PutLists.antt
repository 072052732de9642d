-- Definitions only. The put-list rule: what a second put list made from a first may change, all else the same, calls included.
use Rattle.std.specs.Prelude.{ℕ, ◌≡◌, T, Float, Ok}
use Rattle.std.specs.Float.Ieee.{le}
use Rattle.floats.specs.Reasons.{refusal_number}
use Rattle.floats.specs.Answers.{Answer}
use Rattle.terms.specs.Terms.{CallSchedule, Market, bond_with_puts, with_puts}
use Rattle.terms.specs.CallLists.{LoweredFrom, Reordered}
use Rattle.bondevents.specs.Grid.{grid_answer}
use Rattle.lattice.specs.Layers.{Room}
use Rattle.treebasedbondpricer.specs.Tree.{tree_value_over, tree_value, Lent, lent_after}

-- No list made by reordering or dropping puts or lowering their strikes raises the value, other inputs equal and both accepted.
abbrev pub PutListRule : Type 0
PutListRule =
    (m : Market) (calls : CallSchedule) (room : Room) (first second : CallSchedule) (x y : Float) (n k : ℕ)
    → LoweredFrom first second
    → tree_value (with_puts m first) calls room ≡ Ok (record { value = x; nodes = n })
    → tree_value (with_puts m second) calls room ≡ Ok (record { value = y; nodes = k })
    → T (le y x)

-- Whenever the grid accepts, reordering the puts changes no bit of any answer: the grid's, the tree value's, and what is left in the lent slices.
pub record SamePutAnswers (m : Market) (calls first second : CallSchedule) : Type 0 where
  pub grids : grid_answer m.settlement (bond_with_puts m.bond second) calls m.controls ≡ grid_answer m.settlement (bond_with_puts m.bond first) calls m.controls
  pub values : (room : Room) → tree_value (with_puts m second) calls room ≡ tree_value (with_puts m first) calls room
  pub slices : (lent : Lent) → lent_after (with_puts m second) calls lent ≡ lent_after (with_puts m first) calls lent

abbrev pub PutReorderingRule : Type 0
PutReorderingRule =
    (m : Market) (calls first second : CallSchedule)
    → Reordered first second
    → refusal_number (grid_answer m.settlement (bond_with_puts m.bond first) calls m.controls).refusal ≡ 0
    → SamePutAnswers m calls first second

-- Both stand over any curve.
pub record PutsOverCurve (curve : Float → ℕ → Answer) : Type 0 where
  pub dropped_or_lowered :
      (m : Market) (calls : CallSchedule) (room : Room) (first second : CallSchedule) (x y : Float) (n k : ℕ)
      → LoweredFrom first second
      → tree_value_over curve (with_puts m first) calls room ≡ Ok (record { value = x; nodes = n })
      → tree_value_over curve (with_puts m second) calls room ≡ Ok (record { value = y; nodes = k })
      → T (le y x)
  pub reordered :
      (m : Market) (calls first second : CallSchedule)
      → Reordered first second
      → refusal_number (grid_answer m.settlement (bond_with_puts m.bond first) calls m.controls).refusal ≡ 0
      → (room : Room) → tree_value_over curve (with_puts m second) calls room ≡ tree_value_over curve (with_puts m first) calls room

abbrev pub AnyCurvePutRule : Type 0
AnyCurvePutRule = (curve : Float → ℕ → Answer) → PutsOverCurve curve
