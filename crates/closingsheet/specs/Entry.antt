-- Definitions only. What the closing sheet entry promises.
use Rattle.std.specs.Prelude.{ℕ, ◌≡◌}
use Rattle.terms.specs.Terms.{CallSchedule, Market}
use Rattle.treebasedbondpricer.specs.Tree.{tree_value, Lent, room_of, lent_after}
use Rattle.closingsheet.specs.declared.ClosingLine.{ClosingLine}
use Rattle.closingsheet.specs.Sheet.{by_number, sheet_of}

-- The line is that of the tree value or its refusal, and the slices are left as it leaves them.
pub record Filed (bond : ℕ) (m : Market) (calls : CallSchedule) (answer : ClosingLine) (before after : Lent) : Type 0 where
  pub sheet : answer ≡ sheet_of bond (by_number (tree_value m calls (room_of before)))
  pub slices : after ≡ lent_after m calls before
