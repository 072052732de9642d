-- Definitions only. Demand 3 of spread from price, which takes a call list too: reordering a list that the grid accepts changes no bit of its answer (beside `SameAnswers` and `Unmoved` of treebasedbondpricer).
use Rattle.floats.specs.Reasons.{refusal_number}
use Rattle.std.specs.Prelude.{◌≡◌}
use Rattle.terms.specs.Terms.{CallSchedule}
use Rattle.terms.specs.CallLists.{Reordered}
use Rattle.bondevents.specs.declared.GridAnswer.{GridAnswer}
use Rattle.bondevents.specs.Grid.{grid_answer}
use Rattle.lattice.specs.Layers.{Room}
use Rattle.treebasedbondpricer.specs.Tree.{Lent, room_of}
use Rattle.brackets.specs.declared.Root.{Root}
use Rattle.brackets.specs.Brackets.{Searched}
use Rattle.spreads.specs.Spreads.{Quoted, spread_from_price, lent_after, Solved}

-- The spread, the tries or the refusal with its place, and what is left in the lent slices, of terms with a call list and of others with their own.
pub record SameSpread (asked : Quoted) (first : CallSchedule) (again : Quoted) (second : CallSchedule) : Type 0 where
  pub roots : (room : Room) → spread_from_price again second room ≡ spread_from_price asked first room
  pub slices : (lent : Lent) → lent_after again second lent ≡ lent_after asked first lent

abbrev pub SpreadReorderingRule : Type 0
SpreadReorderingRule =
    (asked : Quoted) (first second : CallSchedule)
    → Reordered first second
    → (refusal_number (grid_answer asked.settlement asked.bond first asked.controls).refusal) ≡ 0
    → SameSpread asked first asked second

-- ---- of what the running entry answers

pub record UnmovedSpread (a b : Searched Root) (lent-first lent-second left_first left_second : Lent) : Type 0 where
  pub root : room_of lent-second ≡ room_of lent-first → b ≡ a
  pub slices : lent-second ≡ lent-first → left_second ≡ left_first

abbrev pub EntrySpreadReorderingRule : Type 0
EntrySpreadReorderingRule =
    (asked : Quoted) (first second : CallSchedule)
    → Reordered first second
    → (g : GridAnswer)
    → g ≡ grid_answer asked.settlement asked.bond first asked.controls
    → (refusal_number g.refusal) ≡ 0
    → (a b : Searched Root) (lent-first lent-second left_first left_second : Lent)
    → Solved asked first a lent-first left_first
    → Solved asked second b lent-second left_second
    → UnmovedSpread a b lent-first lent-second left_first left_second
