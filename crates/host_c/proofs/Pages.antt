-- What is handed over of a table is handed over of the definition that it equals. Assumes nothing.
use Prim.Native.Nat.{ℕ}
use mathlib.Core.List.{List}
use lib.Ieee.{Float}
use Rattle.terms.specs.Terms.{CallSchedule, Market}
use Rattle.treebasedbondpricer.specs.Tree.{Lent}
use Rattle.spreadtable.specs.declared.SpreadTable.{SpreadTable}
use Rattle.spreadtable.specs.Table.{Tabled}
use Rattle.host.specs.Tables.{HandedPage, HandedTable}

pub table_as : {m : Market} {calls : CallSchedule} {spreads shifts : List Float} {a : SpreadTable} {before after : Lent} {result place long : ℕ} {page : List ℕ} → Tabled m calls spreads shifts a before after → HandedPage a result place long page → HandedTable m calls spreads shifts before after result place long page
table_as e h = record { handed = rw (← e.table) h; slices = e.slices }
