-- Definitions only. What a C caller is handed of a bond's line of the closing sheet: the refusal number as the result, 0 where a value is shown, the place, and the 35 bytes.
use Rattle.std.specs.Prelude.{ℕ, ◌≡◌, List}
use Rattle.terms.specs.Terms.{CallSchedule, Market}
use Rattle.treebasedbondpricer.specs.Tree.{tree_value, Lent, room_of, lent_after}
use Rattle.closingsheet.specs.declared.ClosingLine.{ClosingLine}
use Rattle.closingsheet.specs.Sheet.{by_number, sheet_number, sheet_place, sheet_of}

pub record HandedLine (answer : ClosingLine) (result place : ℕ) (line : List ℕ) : Type 0 where
  pub number_is : result ≡ sheet_number answer.refusal
  pub place_is : place ≡ sheet_place answer.refusal
  pub line_is : line ≡ answer.line

-- Of the entry: the line of the tree value's answer, and the end content of the four lent slices.
pub record HandedSheet (bond : ℕ) (m : Market) (calls : CallSchedule) (before after : Lent) (result place : ℕ) (line : List ℕ) : Type 0 where
  pub handed : HandedLine (sheet_of bond (by_number (tree_value m calls (room_of before)))) result place line
  pub slices : after ≡ lent_after m calls before
