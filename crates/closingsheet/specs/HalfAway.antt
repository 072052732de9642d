-- Definitions only. The closing sheet as it once was, with a half away from zero: no code has this any more.
use Rattle.std.specs.Prelude.{ℕ, ◌+◌, ◌*◌, ◌/◌, ◌≡◌, Bool, cond, ltb, take, drop, Float}
use Rattle.std.specs.Float.{nan, inf, fin}
use Rattle.std.specs.Float.Ieee.{up, down}
use Rattle.std.specs.Prelude.{Option, Some, None}
use Rattle.decimal.specs.declared.Rounded.{Rounded}
use Rattle.decimal.specs.Writing.{in_units}
use Rattle.terms.specs.Terms.{CallSchedule, Market}
use Rattle.treebasedbondpricer.specs.Tree.{tree_value, Lent, room_of, lent_after}
use Rattle.closingsheet.specs.declared.ClosingLine.{ClosingLine}
use Rattle.closingsheet.specs.Cells.{ValueCell, cell_of}
use Rattle.closingsheet.specs.Sheet.{NumberedAnswer, by_number, sheet_by}

-- a / c to a whole number, a half going away from zero; the sign stands apart.
abbrev pub half_away : ℕ → ℕ → ℕ
half_away a c = (2 * a + c) / (2 * c)

-- Nothing beyond ±999,999,999,999.99 after rounding is printed.
unfoldable pub in_cents : Bool → ℕ → Option Rounded
in_cents negative cents = cond (ltb 99999999999999 cents) None (Some (in_units negative 2 cents))

-- A value is rounded to cents from the exact value of the double; an infinity or a NaN has none.
unfoldable pub printed_away : Float → Option Rounded
unfolding in_cents
printed_away nan = None
printed_away (inf s) = None
printed_away (fin s m e) = in_cents s (half_away (100 * (m * up e)) (down e))

abbrev pub away_cell : Float → ValueCell
away_cell x = cell_of (printed_away x)

abbrev pub away_sheet : ℕ → NumberedAnswer → ClosingLine
away_sheet bond answer = sheet_by away_cell bond answer

-- What the entry promised then.
pub record FiledAway (bond : ℕ) (m : Market) (calls : CallSchedule) (answer : ClosingLine) (before after : Lent) : Type 0 where
  pub sheet : answer ≡ away_sheet bond (by_number (tree_value m calls (room_of before)))
  pub slices : after ≡ lent_after m calls before

-- ---- what the two sheets have in common

-- The same refusal with its place, and the same bytes in columns 1 to 6 and 23 to 35: bond number, count, refusal and newline.
pub record Alike (a b : ClosingLine) : Type 0 where
  pub refusal : a.refusal ≡ b.refusal
  pub before : take 6 a.line ≡ take 6 b.line
  pub behind : drop 22 a.line ≡ drop 22 b.line
