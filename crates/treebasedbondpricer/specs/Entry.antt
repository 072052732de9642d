-- Definitions only. What the tree value entry promises: the value or refusal, and the end content of the four lent slices.
use Rattle.std.specs.Prelude.{ℕ, ◌≡◌, Float, Ok}
use Rattle.terms.specs.Terms.{CallSchedule, Market}
use Rattle.terms.specs.CallLists.{MadeFrom, Reordered}
use Rattle.bondevents.specs.declared.GridAnswer.{GridAnswer}
use Rattle.bondevents.specs.Grid.{grid_answer}
use Rattle.treebasedbondpricer.specs.declared.TreeValue.{TreeValue}
use Rattle.floats.specs.Reasons.{refusal_number}
use Rattle.floats.specs.Answers.{Outcome}
use Rattle.treebasedbondpricer.specs.Tree.{tree_value, Lent, room_of, lent_after}
use Rattle.treebasedbondpricer.specs.CallLists.{Thinned}

-- The answer is the tree value, and the slices are left as 01 says.
pub record Entered (m : Market) (calls : CallSchedule) (answer : Outcome TreeValue) (before after : Lent) : Type 0 where
  pub value : answer ≡ tree_value m calls (room_of before)
  pub slices : after ≡ lent_after m calls before

-- ---- demand 3, of what the running entries answer

-- Any call list that the tree value accepts, and any second one made from it, all else the same and each working slice as long: what the second call answers, whatever the slices held.
abbrev pub EntryCallListRule : Type 0
EntryCallListRule =
    (m : Market) (first second : CallSchedule)
    → MadeFrom first second
    → (x : Float) (n : ℕ) (a b : Outcome TreeValue) (lent-first lent-second left_first left_second : Lent)
    → Entered m first a lent-first left_first
    → Entered m second b lent-second left_second
    → room_of lent-second ≡ room_of lent-first
    → a ≡ Ok (record { value = x; nodes = n })
    → Thinned x second b

-- Whenever the grid accepts a list, reordering it changes no bit of any answer.
pub record Unmoved (m : Market) (second : CallSchedule) (g : GridAnswer) (a b : Outcome TreeValue) (lent-first lent-second left_first left_second : Lent) : Type 0 where
  pub grid : (h : GridAnswer) → h ≡ grid_answer m.settlement m.bond second m.controls → h ≡ g
  pub value : room_of lent-second ≡ room_of lent-first → b ≡ a
  pub slices : lent-second ≡ lent-first → left_second ≡ left_first

abbrev pub EntryReorderingRule : Type 0
EntryReorderingRule =
    (m : Market) (first second : CallSchedule)
    → Reordered first second
    → (g : GridAnswer)
    → g ≡ grid_answer m.settlement m.bond first m.controls
    → refusal_number g.refusal ≡ 0
    → (a b : Outcome TreeValue) (lent-first lent-second left_first left_second : Lent)
    → Entered m first a lent-first left_first
    → Entered m second b lent-second left_second
    → Unmoved m second g a b lent-first lent-second left_first left_second
