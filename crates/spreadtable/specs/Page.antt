-- Definitions only. Cells as rows, and rows as a page.
use Rattle.std.specs.Prelude.{ℕ, ◌-◌, List, [], ◌∷◌, ◌++◌, length, replicate, Float, Some, None}
use Rattle.floats.specs.declared.Reason.{Reason}
use Rattle.floats.specs.Refusals.{Refusal}
use Rattle.spreadtable.specs.declared.SpreadTable.{SpreadTable}
use Rattle.floats.specs.declared.Reason.TheVariants as reason

-- A cell for each spread, and a newline.
unfoldable pub row_text : (Float → List ℕ) → List Float → List ℕ
row_text cell [] = 10 ∷ []
row_text cell (s ∷ spreads) = cell s ++ row_text cell spreads

-- A row for each shift.
unfoldable pub page_text : (Float → Float → List ℕ) → List Float → List Float → List ℕ
unfolding row_text
page_text cell spreads [] = []
page_text cell spreads (h ∷ shifts) = row_text (cell h) spreads ++ page_text cell spreads shifts

-- 16 rows of 257 bytes at the most.
abbrev pub no_page : List ℕ
no_page = replicate 4112 0

abbrev pub at : Reason → ℕ → Refusal
at why place = record { reason = why; place = place }

-- A text with its length, zero past it.
abbrev pub printed : List ℕ → SpreadTable
printed text = record { refusal = None; length = length text; page = text ++ replicate (4112 - length text) 0 }

-- 45 writes no page.
abbrev pub no_table : SpreadTable
no_table = record { refusal = Some (at reason.TableSize 0); length = 0; page = no_page }
