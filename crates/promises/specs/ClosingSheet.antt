-- Definitions only. What is promised of a bond's line of the closing sheet.
use Rattle.std.specs.Prelude.{ℕ, ◌+◌, ◌*◌, ◌%◌, ◌≤◌, ◌<◌, ◌≡◌, ◌↔◌, ◌⊎◌, Bool, true, false, cond, List, [], ◌∷◌, ◌++◌, take, drop, replicate, ℤ, Float, Ok, Err, Some, None}
use Rattle.std.specs.Float.{fin}
use Rattle.std.specs.Float.Ieee.{up, down}
use Rattle.decimal.specs.Examples.{bytes}
use Rattle.terms.specs.Terms.{CallSchedule, Market}
use Rattle.terms.specs.CallLists.{MadeFrom, StrikeAbove}
use Rattle.lattice.specs.Layers.{Room}
use Rattle.lattice.specs.laws.Proper.{Each}
use Rattle.treebasedbondpricer.specs.Tree.{tree_value, Lent, room_of, lent_after, zeroed}
use Rattle.closingsheet.specs.declared.NumberedRefusal.{NumberedRefusal}
use Rattle.closingsheet.specs.declared.ClosingLine.{ClosingLine}
use Rattle.closingsheet.specs.Cells.{value_cell}
use Rattle.closingsheet.specs.Sheet.{NumberedAnswer, at, by_number, sheet_number, sheet_of}
use Rattle.closingsheet.specs.Entry.{Filed}
use Rattle.closingsheet.specs.HalfAway.{away_sheet, FiledAway, Alike}
use Rattle.closingsheet.specs.Shown.{ValueColumns, RefusedColumns, Decimal, read_back, above, below, HalfCent, NoLower}
use Rattle.promises.specs.RefusalNumbers.{Among, tree_refusals}
use Rattle.promises.specs.Examples.{market99, call_from, lent}
use Rattle.promises.specs.HostCallLists.{SheetCall}

-- Columns 7 to 22 of a line, and the decimal that they hold.
abbrev pub value_columns : List ℕ → List ℕ
value_columns line = take 16 (drop 6 line)

abbrev pub value_shown : List ℕ → Decimal
value_shown line = read_back (value_columns line)

-- ---- every input

-- 31 stands for a value and for a refusal, and leaves the 35 bytes zero.
pub record NoLine (r : ClosingLine) : Type 0 where
  pub refusal : r.refusal ≡ Some (at 31 0)
  pub line : r.line ≡ replicate 35 0

-- A refusal's number in its columns, value and count blank, and its place handed up.
pub record RefusalShown (bond : ℕ) (q : NumberedRefusal) (r : ClosingLine) : Type 0 where
  pub refusal : r.refusal ≡ Some q
  pub line : RefusedColumns bond q.number r.line

-- The value in its columns, within half a cent of the double once it is read back, and the count in its own.
pub record ValueShown (bond : ℕ) (x : Float) (count : ℕ) (r : ClosingLine) : Type 0 where
  pub refusal : r.refusal ≡ None
  pub line : ValueColumns bond count (value_cell x).cell r.line
  pub near : HalfCent x (value_shown r.line)

-- By the bond number, then by what the tree value answers.
pub record Line (bond : ℕ) (answer : NumberedAnswer) (r : ClosingLine) : Type 0 where
  pub out_of_range : (bond < 1) ⊎ (999999 < bond) → NoLine r
  pub refused : 1 ≤ bond → bond ≤ 999999 → (q : NumberedRefusal) → answer ≡ Err q → RefusalShown bond q r
  pub too_wide : 1 ≤ bond → bond ≤ 999999 → (x : Float) (n : ℕ) → answer ≡ Ok (record { value = x; nodes = n }) → ((value_cell x).wide ≡ true) ⊎ (99999999 < n) → RefusalShown bond (at 32 0) r
  pub shown : 1 ≤ bond → bond ≤ 999999 → (x : Float) (n : ℕ) → answer ≡ Ok (record { value = x; nodes = n }) → (value_cell x).wide ≡ false → n ≤ 99999999 → ValueShown bond x n r

-- Whatever is lent and given: the line is that of the tree value's answer, and the slices are left as it leaves them.
abbrev pub EveryLine : Type 0
EveryLine =
    (bond : ℕ) (m : Market) (calls : CallSchedule) (r : ClosingLine) (before after : Lent)
    → Filed bond m calls r before after
    → Line bond (by_number (tree_value m calls (room_of before))) r × (after ≡ lent_after m calls before)

-- ---- 01's last example with a value, as bond 1

-- 99.00 ends in column 22, 2 in column 30, and the slices are left all zero.
abbrev pub LastExample : Type 0
LastExample =
    Filed 1 market99 (call_from 0 365)
    (record { refusal = None; line = bytes "     1           99.00       2    " ++ (10 ∷ []) })
    lent (zeroed lent)

-- ---- which numbers a line ends in

-- The tree value's, a bond number out of range, and what is too wide.
abbrev pub sheet_refusals : List ℕ
sheet_refusals = 31 ∷ 32 ∷ tree_refusals

-- 0 where a value is shown.
abbrev pub LineNumbers : Type 0
LineNumbers = (bond : ℕ) (m : Market) (calls : CallSchedule) (room : Room) → Among (0 ∷ sheet_refusals) (sheet_number (sheet_of bond (by_number (tree_value m calls room))).refusal)

-- Terms whose line ends in this number.
pub record MetOnSheet (number : ℕ) : Type 0 where
  pub bond : ℕ
  pub market : Market
  pub calls : CallSchedule
  pub room : Room
  pub ends_in : sheet_number (sheet_of bond (by_number (tree_value market calls room))).refusal ≡ number

-- None stands there in vain.
abbrev pub EachMetOnSheet : Type 0
EachMetOnSheet = Each MetOnSheet sheet_refusals

-- ---- the call-list rule

-- The second line shows 4 exactly when one of its strikes is above 1,000,000. Otherwise it shows a value, whose cents are no lower than the first's where that shows one, or 27 or 32.
pub record ThinnedLine (bond : ℕ) (second : CallSchedule) (first-number : ℕ) (first-line : List ℕ) (number : ℕ) (line : List ℕ) : Type 0 where
  pub with_4 : (number ≡ 4) ↔ StrikeAbove second
  pub otherwise : (StrikeAbove second → ⊥) → ((number ≡ 0) × (first-number ≡ 0 → NoLower (value_shown first-line) (value_shown line))) ⊎ ((number ≡ 27) ⊎ (number ≡ 32))
  pub in_columns : (number ≡ 0 → ⊥) → RefusedColumns bond number line

-- Any line that shows a value or 32, and any second one of the same bond whose call list is made from the first's, each working slice as long.
abbrev pub LineCallListRule : Type 0
LineCallListRule =
    (bond : ℕ) (m : Market) (first second : CallSchedule)
    → MadeFrom first second
    → (a : SheetCall bond m first) (b : SheetCall bond m second)
    → room_of b.lent ≡ room_of a.lent
    → (a.number ≡ 0) ⊎ (a.number ≡ 32)
    → ThinnedLine bond second a.number a.line b.number b.line

-- ---- halves to even

-- A value of k and a half cents exactly, below zero too, is shown as the even one of k and k + 1.
abbrev pub HalfToEven : Type 0
HalfToEven =
    (s : Bool) (m : ℕ) (e : ℤ) (k : ℕ)
    → 2 * (100 * (m * up e)) ≡ (2 * k + 1) * down e
    → (value_cell (fin s m e)).wide ≡ false
    → (above (read_back (value_cell (fin s m e)).cell) ≡ cond s 0 (k + k % 2)) × (below (read_back (value_cell (fin s m e)).cell) ≡ cond s (k + k % 2) 0)

-- Against the sheet with a half away from zero nothing but the printed value is affected: for every bond number and all terms, those of 32 included, refusal, place, bond number, count, newline and slices are the same.
abbrev pub OnlyTheValue : Type 0
OnlyTheValue =
    (bond : ℕ) (m : Market) (calls : CallSchedule) (old new : ClosingLine) (before after-old after-new : Lent)
    → FiledAway bond m calls old before after-old
    → Filed bond m calls new before after-new
    → Alike old new × (after-new ≡ after-old)

-- So it is with the line of any answer, one that no tree value gives included.
abbrev pub OnlyTheValueOf : Type 0
OnlyTheValueOf = (bond : ℕ) (answer : NumberedAnswer) → Alike (away_sheet bond answer) (sheet_of bond answer)
