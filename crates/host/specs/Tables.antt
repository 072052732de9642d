-- Definitions only. What a C caller is handed of a spread by sigma table: the refusal number as the result, 0 where there is a page, the place, the length and the 4,112 bytes.
use Rattle.std.specs.Prelude.{ℕ, ◌≡◌, List, Float}
use Rattle.floats.specs.Reasons.{refusal_number, refusal_place}
use Rattle.terms.specs.Terms.{CallSchedule, Market}
use Rattle.treebasedbondpricer.specs.Tree.{Lent, room_of}
use Rattle.spreadtable.specs.declared.SpreadTable.{SpreadTable}
use Rattle.spreadtable.specs.Table.{table_of, lent_after}

pub record HandedPage (answer : SpreadTable) (result place long : ℕ) (page : List ℕ) : Type 0 where
  pub number_is : result ≡ refusal_number answer.refusal
  pub place_is : place ≡ refusal_place answer.refusal
  pub length_is : long ≡ answer.length
  pub page_is : page ≡ answer.page

-- Of the entry: the table cell by cell, and the end content of the four lent slices.
pub record HandedTable (m : Market) (calls : CallSchedule) (spreads shifts : List Float) (before after : Lent) (result place long : ℕ) (page : List ℕ) : Type 0 where
  pub handed : HandedPage (table_of m calls (room_of before) spreads shifts) result place long page
  pub slices : after ≡ lent_after spreads shifts before
