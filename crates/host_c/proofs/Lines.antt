-- What is handed over of a line is handed over of the definition that it equals. Assumes nothing.
use Prim.Native.Nat.{ℕ}
use mathlib.Core.List.{List}
use Rattle.terms.specs.Terms.{CallSchedule, Market}
use Rattle.treebasedbondpricer.specs.Tree.{Lent}
use Rattle.closingsheet.specs.declared.ClosingLine.{ClosingLine}
use Rattle.closingsheet.specs.Entry.{Filed}
use Rattle.host.specs.Sheets.{HandedLine, HandedSheet}

pub sheet_as : {bond : ℕ} {m : Market} {calls : CallSchedule} {a : ClosingLine} {before after : Lent} {result place : ℕ} {line : List ℕ} → Filed bond m calls a before after → HandedLine a result place line → HandedSheet bond m calls before after result place line
sheet_as e h = record { handed = rw (← e.sheet) h; slices = e.slices }
