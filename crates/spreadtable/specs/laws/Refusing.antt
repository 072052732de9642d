-- Definitions only. A cell by the checks of its single call, and by its whole answer.
use Rattle.std.specs.Prelude.{ℕ, Float, Ok, Err}
use mathlib.Core.List.{List}
use Rattle.floats.specs.Reasons.{reason_number}
use Rattle.floats.specs.Answers.{Check}
use Rattle.terms.specs.Terms.{CallSchedule, Market, with_spread}
use Rattle.terms.specs.Entries.{tree_checks}
use Rattle.lattice.specs.Layers.{Room}
use Rattle.treebasedbondpricer.specs.Tree.{tree_value}
use Rattle.spreadtable.specs.Cells.{hash_cell, cell_text}

-- A check's number. One that passed isn't asked.
unfoldable pub check_text : Check → List ℕ
unfolding hash_cell
check_text (Ok tt) = hash_cell 0
check_text (Err q) = hash_cell (reason_number q.reason)

-- A cell by the checks of its single call, and by its whole answer.
abbrev pub check_cell : Market → CallSchedule → Float → List ℕ
check_cell m calls s = check_text (tree_checks (with_spread m s) calls)

abbrev pub single_cell : Market → CallSchedule → Room → Float → List ℕ
single_cell m calls room s = cell_text (tree_value (with_spread m s) calls room)
