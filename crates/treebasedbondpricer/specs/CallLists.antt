-- Definitions only. The call-list rule (demand 3): what a second list made from an accepted one may change.
use Rattle.std.specs.Prelude.{ℕ, ◌≡◌, ◌↔◌, T, Float, Ok, Err}
use Rattle.std.specs.Float.Ieee.{le}
use Rattle.floats.specs.Reasons.{refusal_number}
use Rattle.floats.specs.Answers.{Answer, Outcome}
use Rattle.terms.specs.Terms.{CallSchedule, Market}
use Rattle.terms.specs.CallLists.{MadeFrom, Reordered, StrikeAbove}
use Rattle.bondevents.specs.Grid.{grid_answer}
use Rattle.treebasedbondpricer.specs.declared.TreeValue.{TreeValue}
use Rattle.lattice.specs.Layers.{Room}
use Rattle.treebasedbondpricer.specs.Tree.{tree_value_over, tree_value, Lent, lent_after, number_of}
use Rattle.floats.specs.declared.Reason.TheVariants as reason

-- Accepted with a value no lower than x, as numbers, both zeros equal; or refused with 27.
pub data NoLowerOr27 (x : Float) : Outcome TreeValue → Type 0 where
  accepted : {y : Float} {n : ℕ} → T (le x y) → NoLowerOr27 x (Ok (record { value = y; nodes = n }))
  refused_27 : {place : ℕ} → NoLowerOr27 x (Err (record { reason = reason.NotFinite; place = place }))

-- The second is refused with 4 exactly when one of its strikes is above 1,000,000. Otherwise it is accepted, and its tree value is no lower than the first's, or refused with 27.
pub record Thinned (x : Float) (second : CallSchedule) (answer : Outcome TreeValue) : Type 0 where
  pub with_4 : (number_of answer ≡ 4) ↔ StrikeAbove second
  pub otherwise : (StrikeAbove second → ⊥) → NoLowerOr27 x answer

-- Any call list that the tree value accepts, and any second one made from it by reordering entries, dropping any and raising any strikes, all else the same and each working slice as long.
-- The rule doesn't lean on which redemptions count as principal: with the repaid ones gone (bondevents, Repaid.antt) the call list may still be reordered or thinned without lowering the value.
abbrev pub CallListRule : Type 0
CallListRule =
    (m : Market) (room : Room) (first second : CallSchedule) (x : Float) (n : ℕ)
    → MadeFrom first second
    → tree_value m first room ≡ Ok (record { value = x; nodes = n })
    → Thinned x second (tree_value m second room)

-- Whenever the grid accepts a list, reordering it changes no bit of any answer: the grid's, the tree value's, and what is left in the lent slices.
pub record SameAnswers (m : Market) (first second : CallSchedule) : Type 0 where
  pub grids : grid_answer m.settlement m.bond second m.controls ≡ grid_answer m.settlement m.bond first m.controls
  pub values : (room : Room) → tree_value m second room ≡ tree_value m first room
  pub slices : (lent : Lent) → lent_after m second lent ≡ lent_after m first lent

abbrev pub ReorderingRule : Type 0
ReorderingRule =
    (m : Market) (first second : CallSchedule)
    → Reordered first second
    → refusal_number (grid_answer m.settlement m.bond first m.controls).refusal ≡ 0
    → SameAnswers m first second

-- Nothing that is promised of call lists leans on the shape of the curve: whatever the curve gives at each time, both rules hold of the tree value over it. The tree value itself is that over the curve of the market's pillars.
pub record OverCurve (curve : Float → ℕ → Answer) : Type 0 where
  pub dropped_or_raised :
      (m : Market) (room : Room) (first second : CallSchedule) (x : Float) (n : ℕ)
      → MadeFrom first second
      → tree_value_over curve m first room ≡ Ok (record { value = x; nodes = n })
      → Thinned x second (tree_value_over curve m second room)
  pub reordered :
      (m : Market) (first second : CallSchedule)
      → Reordered first second
      → refusal_number (grid_answer m.settlement m.bond first m.controls).refusal ≡ 0
      → (room : Room) → tree_value_over curve m second room ≡ tree_value_over curve m first room

abbrev pub AnyCurveRule : Type 0
AnyCurveRule = (curve : Float → ℕ → Answer) → OverCurve curve
