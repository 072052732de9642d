-- Definitions only. What is promised of a spread by sigma table, as a C caller meets it.
use Rattle.std.specs.Prelude.{ℕ, ◌+◌, ◌-◌, ◌*◌, ◌<◌, ◌≡◌, ◌↔◌, Bool, true, false, not, List, [], ◌∷◌, ◌++◌, T, length, get_or, take, drop, replicate, Float}
use Rattle.floats.specs.Answers.{plus_zero, Outcome}
use Rattle.decimal.specs.Examples.{bytes}
use Rattle.terms.specs.Numbers.{float}
use Rattle.terms.specs.Terms.{CallSchedule, Market, with_spread, with_puts}
use Rattle.terms.specs.CallLists.{MadeFrom, LoweredFrom}
use Rattle.terms.specs.Entries.{tree_checks}
use Rattle.lattice.specs.Layers.{Room}
use Rattle.lattice.specs.Lattice.{Lattice}
use Rattle.treebasedbondpricer.specs.Tree.{room_of, zeroed}
use Rattle.closingsheet.specs.Cells.{value_cell}
use Rattle.closingsheet.specs.Shown.{read_back, NoLower}
use Rattle.sizing.specs.declared.Lengths.{Lengths}
use Rattle.spreadtable.specs.Cells.{hash_cell, value_text}
use Rattle.spreadtable.specs.Page.{printed}
use Rattle.spreadtable.specs.Table.{shifted, with_shift, any_outside, wrong_count, table_of}
use Rattle.promises.specs.RefusalNumbers.{member}
use Rattle.promises.specs.Examples.{market99, call_from, lent}
use Rattle.promises.specs.HostCallLists.{TreeCall, SizesCall, TableCall}
use Rattle.promises.specs.Sizing.{AsLong, Shorter, before_fit, Stops, lengths_in, Answered}

-- ---- where things stand on the page

-- Each row has 16 characters for a spread, and a newline.
abbrev pub row_start : List Float → ℕ → ℕ
row_start spreads i = i * (16 * length spreads + 1)

-- The cell of row i and column j.
abbrev pub cell_in : List Float → ℕ → ℕ → List ℕ → List ℕ
cell_in spreads i j page = take 16 (drop (16 * j) (drop (row_start spreads i) page))

-- The terms of that cell: the row's shift added to every sigma, and the column's spread.
abbrev pub cell_terms : Market → List Float → List Float → ℕ → ℕ → Market
cell_terms m spreads shifts i j = with_spread (with_shift m (get_or shifts i plus_zero)) (get_or spreads j plus_zero)

-- A row and a column of the table.
pub record On (spreads shifts : List Float) (i j : ℕ) : Type 0 where
  pub row : i < length shifts
  pub column : j < length spreads

-- ---- 45

-- No spreads or shifts, or more than 16 of either: 45 at place 0, no page, and the slices untouched.
pub record NoPage {m : Market} {calls : CallSchedule} {spreads shifts : List Float} (a : TableCall m spreads shifts calls) : Type 0 where
  pub number : a.number ≡ 45
  pub place : a.place ≡ 0
  pub size : a.size ≡ 0
  pub page : a.page ≡ replicate 4112 0
  pub slices : a.left ≡ a.lent

-- ---- every page

-- Otherwise the table itself isn't refused: its length, a newline after each row, zero past the length, and the slices all zero.
pub record Paged {m : Market} {calls : CallSchedule} {spreads shifts : List Float} (a : TableCall m spreads shifts calls) : Type 0 where
  pub number : a.number ≡ 0
  pub place : a.place ≡ 0
  pub size : a.size ≡ row_start spreads (length shifts)
  pub newline : (i : ℕ) → i < length shifts → get_or (drop (row_start spreads i) a.page) (16 * length spreads) 0 ≡ 10
  pub past : drop a.size a.page ≡ replicate (4112 - a.size) 0
  pub slices : a.left ≡ zeroed a.lent

abbrev pub EveryPage : Type 0
EveryPage =
    (m : Market) (calls : CallSchedule) (spreads shifts : List Float) (a : TableCall m spreads shifts calls)
    → (wrong_count spreads shifts ≡ true → NoPage a) × (wrong_count spreads shifts ≡ false → Paged a)

-- ---- 01's last example with a value, at two spreads and two shifts

-- A spread of 2 is out of its range, and so is a sigma of 20.
abbrev pub LastTable : Type 0
LastTable =
    table_of market99 (call_from 0 365) (room_of lent) (plus_zero ∷ float 2 ∷ []) (plus_zero ∷ float 20 ∷ [])
    ≡ printed (bytes "           99.00              #4" ++ 10 ∷ bytes "             #46             #46" ++ 10 ∷ [])

-- ---- each cell is the value of a single call

-- A cell without a hash sign shows a value.
abbrev pub ShowsValue : List ℕ → Type 0
ShowsValue cell = T (not (member 35 cell))

-- 46 ahead of everything. Else the number of the single call's refusal behind a hash sign, or its value as the sheet prints it, 32 where that is too wide, whatever the count.
pub record Single {m : Market} {calls : CallSchedule} (outside : Bool) (b : TreeCall m calls) (cell : List ℕ) : Type 0 where
  pub with_46 : outside ≡ true → cell ≡ hash_cell 46
  pub refused : outside ≡ false → (b.number ≡ 0 → ⊥) → cell ≡ hash_cell b.number
  pub valued : outside ≡ false → b.number ≡ 0 → cell ≡ value_text b.value
  pub shows : ShowsValue cell ↔ ((outside ≡ false) × (b.number ≡ 0) × ((value_cell b.value).wide ≡ false))

-- Any table, and any single call with a cell's terms, each working slice as long.
abbrev pub EachCell : Type 0
EachCell =
    (m : Market) (calls : CallSchedule) (spreads shifts : List Float) (a : TableCall m spreads shifts calls)
    → a.number ≡ 0
    → (i j : ℕ) → On spreads shifts i j
    → (b : TreeCall (cell_terms m spreads shifts i j) calls)
    → room_of b.lent ≡ room_of a.lent
    → Single (any_outside (shifted (get_or shifts i plus_zero) m.model.sigma.sigmas)) b (cell_in spreads i j a.page)

-- ---- the other cells don't change for a refused one

-- Two tables of the same terms, each working slice as long: where a row's shift and a column's spread are the same, so is the cell, whatever the others are.
abbrev pub OtherCells : Type 0
OtherCells =
    (m : Market) (calls : CallSchedule) (spreads shifts others moves : List Float)
    → (a : TableCall m spreads shifts calls) (b : TableCall m others moves calls)
    → room_of b.lent ≡ room_of a.lent
    → a.number ≡ 0
    → b.number ≡ 0
    → (i j k l : ℕ) → On spreads shifts i j → On others moves k l
    → get_or moves k plus_zero ≡ get_or shifts i plus_zero
    → get_or others l plus_zero ≡ get_or spreads j plus_zero
    → cell_in others k l b.page ≡ cell_in spreads i j a.page

-- ---- the call-list rule, and the put-list rule

-- In a cell that shows a value both times, dropping calls, reordering them or raising strikes can't lower it.
abbrev pub CellCallListRule : Type 0
CellCallListRule =
    (m : Market) (first second : CallSchedule)
    → MadeFrom first second
    → (spreads shifts : List Float) (a : TableCall m spreads shifts first) (b : TableCall m spreads shifts second)
    → room_of b.lent ≡ room_of a.lent
    → a.number ≡ 0
    → (i j : ℕ) → On spreads shifts i j
    → ShowsValue (cell_in spreads i j a.page)
    → ShowsValue (cell_in spreads i j b.page)
    → NoLower (read_back (cell_in spreads i j a.page)) (read_back (cell_in spreads i j b.page))

-- In a cell that shows a value both times, dropping puts, reordering them or lowering their strikes can't raise it.
abbrev pub CellPutListRule : Type 0
CellPutListRule =
    (m : Market) (calls first second : CallSchedule)
    → LoweredFrom first second
    → (spreads shifts : List Float) (a : TableCall (with_puts m first) spreads shifts calls) (b : TableCall (with_puts m second) spreads shifts calls)
    → room_of b.lent ≡ room_of a.lent
    → a.number ≡ 0
    → (i j : ℕ) → On spreads shifts i j
    → ShowsValue (cell_in spreads i j a.page)
    → ShowsValue (cell_in spreads i j b.page)
    → NoLower (read_back (cell_in spreads i j b.page)) (read_back (cell_in spreads i j a.page))

-- ---- how large the slices must be

-- In slices no shorter than sizing gives for a row's shifted terms, no cell of that row shows 21. So slices each as long as the longest over all rows serve the whole table.
abbrev pub RowSized : Type 0
RowSized =
    (m : Market) (calls : CallSchedule) (spreads shifts : List Float) (a : TableCall m spreads shifts calls)
    → a.number ≡ 0
    → (i j : ℕ) → On spreads shifts i j
    → (s : SizesCall (with_shift m (get_or shifts i plus_zero)) calls)
    → s.number ≡ 0
    → AsLong (lengths_in s) (room_of a.lent)
    → cell_in spreads i j a.page ≡ hash_cell 21
    → ⊥

-- A cell that stops for want of room, or before it: a number behind a hash sign, never a value.
pub record ShortCell (l : Lengths) (before : Room → Outcome Lattice) (cell : List ℕ) : Type 0 where
  pub no_value : ShowsValue cell → ⊥
  pub refusal : Answered
  pub shows : cell ≡ hash_cell refusal.number
  pub stops : Stops l before refusal

-- With any one slice shorter than sizing gives for a row's shifted terms, each cell of that row shows 21, or the number that its checks, grid, variances or layers give in ample slices.
abbrev pub RowShort : Type 0
RowShort =
    (m : Market) (calls : CallSchedule) (spreads shifts : List Float) (a : TableCall m spreads shifts calls)
    → a.number ≡ 0
    → (i j : ℕ) → On spreads shifts i j
    → (s : SizesCall (with_shift m (get_or shifts i plus_zero)) calls)
    → s.number ≡ 0
    → Shorter (lengths_in s) (room_of a.lent)
    → ShortCell (lengths_in s) (before_fit (tree_checks (cell_terms m spreads shifts i j) calls) (cell_terms m spreads shifts i j) calls) (cell_in spreads i j a.page)
