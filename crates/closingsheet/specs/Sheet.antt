-- Definitions only. A bond's line of the closing sheet, by what the tree value answers.
use Rattle.std.specs.Prelude.{ℕ, cond, List, [], ◌∷◌, ltb, take, replicate, Float, Option, Some, None, Result, Ok, Err}
use Rattle.floats.specs.Refusals.{Refusal}
use Rattle.floats.specs.Reasons.{reason_number}
use Rattle.bondreport.specs.Columns.{blank_line, put_at}
use Rattle.bondreport.specs.Numbers.{byte_left, digits_left, whole_left}
use Rattle.bondreport.specs.Figures.{put_whole, point_left, minus_left}
use Rattle.treebasedbondpricer.specs.declared.TreeValue.{TreeValue}
use Rattle.floats.specs.Answers.{Outcome}
use Rattle.closingsheet.specs.declared.NumberedRefusal.{NumberedRefusal}
use Rattle.closingsheet.specs.declared.ClosingLine.{ClosingLine}
use Rattle.closingsheet.specs.Cells.{ValueCell, printed_of, value_cell}

abbrev pub at : ℕ → ℕ → NumberedRefusal
at number place = record { number = number; place = place }

-- What a line is made from: a value, or a refusal of any number.
abbrev pub NumberedAnswer : Type 0
NumberedAnswer = Result TreeValue NumberedRefusal

-- What the tree value answers, with the number of the reason in its place.
abbrev pub with_number : Refusal → NumberedRefusal
with_number q = at (reason_number q.reason) q.place

abbrev pub by_number : Outcome TreeValue → NumberedAnswer
by_number (Ok v) = Ok v
by_number (Err q) = Err (with_number q)

-- Of a line: the number of its refusal and the place, both 0 where a value is shown.
abbrev pub sheet_number : Option NumberedRefusal → ℕ
sheet_number None = 0
sheet_number (Some q) = q.number

abbrev pub sheet_place : Option NumberedRefusal → ℕ
sheet_place None = 0
sheet_place (Some q) = q.place

-- The bond number ends in column 6, and column 35 is a newline.
abbrev pub numbered : ℕ → List ℕ
numbered bond = put_at (put_whole blank_line 6 bond) 34 (10 ∷ [])

-- A refusal's number ends in column 34.
abbrev pub number_line : List ℕ → ℕ → List ℕ
number_line line number = take 35 (put_whole line 34 number)

abbrev pub refused_on : List ℕ → NumberedRefusal → ClosingLine
refused_on line q = record { refusal = Some q; line = number_line line q.number }

-- Value and count are blank beside it.
abbrev pub refused_sheet : ℕ → NumberedRefusal → ClosingLine
refused_sheet bond q = refused_on (numbered bond) q

-- The value's 16 columns start at column 7, and the node count ends in column 30.
abbrev pub shown_sheet : ℕ → ℕ → List ℕ → ClosingLine
shown_sheet bond count cell = record { refusal = None; line = take 35 (put_at (put_whole (numbered bond) 30 count) 6 cell) }

-- A value that is too wide, or a count above 99,999,999, is 32.
abbrev pub value_sheet : ℕ → ValueCell → ℕ → ClosingLine
value_sheet bond value count =
    cond
    value.wide
    (refused_sheet bond (at 32 0))
    (cond (ltb 99999999 count) (refused_sheet bond (at 32 0)) (shown_sheet bond count value.cell))

-- The tree value's answer is printed, or its refusal; how a value fills its columns is given.
unfoldable pub answer_sheet : (Float → ValueCell) → ℕ → NumberedAnswer → ClosingLine
unfolding put_at byte_left digits_left whole_left point_left minus_left printed_of
answer_sheet cell bond (Ok v) = value_sheet bond (cell v.value) v.nodes
answer_sheet cell bond (Err q) = refused_sheet bond q

-- 31 leaves the line zero.
abbrev pub no_sheet : ClosingLine
no_sheet = record { refusal = Some (at 31 0); line = replicate 35 0 }

-- A bond number outside 1 to 999,999 is 31, whatever the tree value answered.
unfoldable pub sheet_by : (Float → ValueCell) → ℕ → NumberedAnswer → ClosingLine
unfolding answer_sheet
sheet_by cell bond answer = cond (ltb bond 1) no_sheet (cond (ltb 999999 bond) no_sheet (answer_sheet cell bond answer))

abbrev pub sheet_of : ℕ → NumberedAnswer → ClosingLine
sheet_of bond answer = sheet_by value_cell bond answer
