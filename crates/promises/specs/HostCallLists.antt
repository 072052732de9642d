-- Definitions only. Demand 3 as a C caller meets it: what two calls hand back whose call lists differ, all else the same. The number is the result of the call, 0 where it is accepted.
use Rattle.std.specs.Prelude.{ℕ, ◌≡◌, ◌↔◌, ◌⊎◌, List, T, length, ℤ, Float}
use Rattle.std.specs.Float.Ieee.{le}
use Rattle.terms.specs.Terms.{CallSchedule, Market}
use Rattle.terms.specs.CallLists.{MadeFrom, Reordered, StrikeAbove}
use Rattle.bondevents.specs.Grid.{grid_answer}
use Rattle.treebasedbondpricer.specs.Tree.{Lent, room_of}
use Rattle.spreads.specs.Spreads.{quoting}
use Rattle.host.specs.Handed.{HandedGrid, HandedTree, HandedSpread, HandedSizes}
use Rattle.bookchecks.specs.Book.{Book}
use Rattle.host.specs.Sheets.{HandedSheet}
use Rattle.host.specs.Books.{HandedBook}
use Rattle.host.specs.Tables.{HandedTable}

-- ---- one call of each function: what is lent, what is left there, and what is handed back

-- gutirapeo_grid
pub record GridCall (m : Market) (calls : CallSchedule) : Type 0 where
  pub number : ℕ
  pub place : ℕ
  pub maturity : Float
  pub steps : ℕ
  pub cashflows : List Float
  pub marks : List ℕ
  pub prices : List Float
  pub put-marks : List ℕ
  pub put-prices : List Float
  pub handed : HandedGrid (grid_answer m.settlement m.bond calls m.controls) number place maturity steps cashflows marks prices put-marks put-prices

-- gutirapeo_tree_value
pub record TreeCall (m : Market) (calls : CallSchedule) : Type 0 where
  pub lent : Lent
  pub left : Lent
  pub number : ℕ
  pub place : ℕ
  pub value : Float
  pub nodes : ℕ
  pub handed : HandedTree m calls lent left number place value nodes

-- gutirapeo_spread_from_price, with a target in place of the spread
pub record SpreadCall (m : Market) (target : Float) (calls : CallSchedule) : Type 0 where
  pub lent : Lent
  pub left : Lent
  pub number : ℕ
  pub place : ℕ
  pub spread : Float
  pub tried : ℕ
  pub handed : HandedSpread (quoting m target) calls lent left number place spread tried

-- gutirapeo_closing_line
pub record SheetCall (bond : ℕ) (m : Market) (calls : CallSchedule) : Type 0 where
  pub lent : Lent
  pub left : Lent
  pub number : ℕ
  pub place : ℕ
  pub line : List ℕ
  pub handed : HandedSheet bond m calls lent left number place line

-- gutirapeo_sizes
pub record SizesCall (m : Market) (calls : CallSchedule) : Type 0 where
  pub lent : List ℤ
  pub left : List ℤ
  pub number : ℕ
  pub place : ℕ
  pub nodes : ℕ
  pub probabilities : ℕ
  pub row : ℕ
  pub count : ℕ
  pub handed : HandedSizes m calls lent left number place nodes probabilities row count

-- gutirapeo_spread_table; the terms' own spread isn't read
pub record TableCall (m : Market) (spreads shifts : List Float) (calls : CallSchedule) : Type 0 where
  pub lent : Lent
  pub left : Lent
  pub number : ℕ
  pub place : ℕ
  pub size : ℕ
  pub page : List ℕ
  pub handed : HandedTable m calls spreads shifts lent left number place size page

-- gutirapeo_book_value
pub record BookCall (b : Book) : Type 0 where
  pub lent : Lent
  pub left : Lent
  pub number : ℕ
  pub place : ℕ
  pub bond : ℕ
  pub values : List Float
  pub sum : Float
  pub counts : List ℕ
  pub handed : HandedBook b lent left number place bond values sum counts

-- ---- the call-list rule

-- Refused with 4 exactly when a strike of the second list is above 1,000,000. Otherwise accepted, with a value no lower than x as numbers, or refused with 27.
pub record ThinnedCall (x : Float) (second : CallSchedule) (number : ℕ) (value : Float) : Type 0 where
  pub with_4 : (number ≡ 4) ↔ StrikeAbove second
  pub otherwise : (StrikeAbove second → ⊥) → ((number ≡ 0) × T (le x value)) ⊎ (number ≡ 27)

-- Any call that is accepted, and any second one whose list is made from the first's, each working slice as long.
abbrev pub HostCallListRule : Type 0
HostCallListRule =
    (m : Market) (first second : CallSchedule)
    → MadeFrom first second
    → (a : TreeCall m first) (b : TreeCall m second)
    → room_of b.lent ≡ room_of a.lent
    → a.number ≡ 0
    → ThinnedCall a.value second b.number b.value

-- ---- reordering

pub record SameGrids {m n : Market} {first second : CallSchedule} (a : GridCall m first) (b : GridCall n second) : Type 0 where
  pub number : b.number ≡ a.number
  pub place : b.place ≡ a.place
  pub maturity : b.maturity ≡ a.maturity
  pub steps : b.steps ≡ a.steps
  pub cashflows : b.cashflows ≡ a.cashflows
  pub marks : b.marks ≡ a.marks
  pub prices : b.prices ≡ a.prices
  pub put-marks : b.put-marks ≡ a.put-marks
  pub put-prices : b.put-prices ≡ a.put-prices

-- With slices as long; where they also hold the same before, they hold the same afterwards.
pub record SameValues {m n : Market} {first second : CallSchedule} (a : TreeCall m first) (b : TreeCall n second) : Type 0 where
  pub number : b.number ≡ a.number
  pub place : b.place ≡ a.place
  pub value : b.value ≡ a.value
  pub nodes : b.nodes ≡ a.nodes
  pub slices : b.lent ≡ a.lent → b.left ≡ a.left

pub record SameSpreads {m n : Market} {target : Float} {first second : CallSchedule} (a : SpreadCall m target first) (b : SpreadCall n target second) : Type 0 where
  pub number : b.number ≡ a.number
  pub place : b.place ≡ a.place
  pub spread : b.spread ≡ a.spread
  pub tried : b.tried ≡ a.tried
  pub slices : b.lent ≡ a.lent → b.left ≡ a.left

pub record SameLines {bond : ℕ} {m n : Market} {first second : CallSchedule} (a : SheetCall bond m first) (b : SheetCall bond n second) : Type 0 where
  pub number : b.number ≡ a.number
  pub place : b.place ≡ a.place
  pub line : b.line ≡ a.line
  pub slices : b.lent ≡ a.lent → b.left ≡ a.left

-- With a node slice as long; where it also holds the same before, it holds the same afterwards.
pub record SameSizes {m n : Market} {first second : CallSchedule} (a : SizesCall m first) (b : SizesCall n second) : Type 0 where
  pub number : b.number ≡ a.number
  pub place : b.place ≡ a.place
  pub nodes : b.nodes ≡ a.nodes
  pub probabilities : b.probabilities ≡ a.probabilities
  pub row : b.row ≡ a.row
  pub count : b.count ≡ a.count
  pub slice : b.lent ≡ a.lent → b.left ≡ a.left

pub record SameTables {m n : Market} {spreads shifts : List Float} {first second : CallSchedule} (a : TableCall m spreads shifts first) (b : TableCall n spreads shifts second) : Type 0 where
  pub number : b.number ≡ a.number
  pub place : b.place ≡ a.place
  pub size : b.size ≡ a.size
  pub page : b.page ≡ a.page
  pub slices : b.lent ≡ a.lent → b.left ≡ a.left

-- Between a market with a call list and another with its own: no bit of what any of the six hands back.
pub record Unchanged (m : Market) (first : CallSchedule) (n : Market) (second : CallSchedule) : Type 0 where
  pub grids : (a : GridCall m first) (b : GridCall n second) → SameGrids a b
  pub values : (a : TreeCall m first) (b : TreeCall n second) → room_of b.lent ≡ room_of a.lent → SameValues a b
  pub spreads : (target : Float) (a : SpreadCall m target first) (b : SpreadCall n target second) → room_of b.lent ≡ room_of a.lent → SameSpreads a b
  pub lines : (bond : ℕ) (a : SheetCall bond m first) (b : SheetCall bond n second) → room_of b.lent ≡ room_of a.lent → SameLines a b
  pub sizes : (a : SizesCall m first) (b : SizesCall n second) → length b.lent ≡ length a.lent → SameSizes a b
  pub tables : (spreads shifts : List Float) (a : TableCall m spreads shifts first) (b : TableCall n spreads shifts second) → room_of b.lent ≡ room_of a.lent → SameTables a b

-- Whenever the grid accepts a list, reordering it changes nothing.
abbrev pub HostReorderingRule : Type 0
HostReorderingRule =
    (m : Market) (first second : CallSchedule)
    → Reordered first second
    → (g : GridCall m first)
    → g.number ≡ 0
    → Unchanged m first m second

-- ---- sizing, which makes no call prices

-- Refused with 4 exactly when a strike of the second list is above 1,000,000. Otherwise the same answer bit for bit.
pub record ThinnedSizes {m : Market} {first second : CallSchedule} (a : SizesCall m first) (b : SizesCall m second) : Type 0 where
  pub with_4 : (b.number ≡ 4) ↔ StrikeAbove second
  pub otherwise : (StrikeAbove second → ⊥) → SameSizes a b

-- Where the value call accepts the first list, in whatever slices, and the second is made from it.
abbrev pub HostSizesRule : Type 0
HostSizesRule =
    (m : Market) (first second : CallSchedule)
    → MadeFrom first second
    → (v : TreeCall m first)
    → v.number ≡ 0
    → (a : SizesCall m first) (b : SizesCall m second)
    → length b.lent ≡ length a.lent
    → ThinnedSizes a b
