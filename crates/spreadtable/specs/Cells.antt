-- Definitions only. A cell of 16 characters, by what a single call answers.
use Rattle.std.specs.Prelude.{ℕ, cond, List, take, Float, Ok, Err}
use Rattle.floats.specs.Reasons.{reason_number}
use Rattle.floats.specs.Answers.{Answer, Outcome}
use Rattle.bondreport.specs.Columns.{blank_line}
use Rattle.bondreport.specs.Numbers.{byte_left, whole_left}
use Rattle.bondreport.specs.Figures.{before}
use Rattle.treebasedbondpricer.specs.declared.TreeValue.{TreeValue}
use Rattle.closingsheet.specs.Cells.{value_cell}

-- A refusal number right behind a hash sign, right-justified.
unfoldable pub hash_cell : ℕ → List ℕ
unfolding byte_left whole_left
hash_cell number = take 16 (byte_left (whole_left (before blank_line 16) number) 35).line

-- Printed as values on the closing sheet are; a value that would be 32 there, whatever its count, shows that number.
abbrev pub value_text : Float → List ℕ
value_text x = cond (value_cell x).wide (hash_cell 32) (value_cell x).cell

-- A single call's answer: its value, or the number that it is refused with.
unfoldable pub cell_text : Outcome TreeValue → List ℕ
unfolding hash_cell
cell_text (Ok v) = value_text v.value
cell_text (Err q) = hash_cell (reason_number q.reason)

-- The same of an answer without its count.
unfoldable pub answer_text : Answer → List ℕ
unfolding hash_cell
answer_text (Ok x) = value_text x
answer_text (Err q) = hash_cell (reason_number q.reason)
