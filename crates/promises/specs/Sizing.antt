-- Definitions only. How large must the slices be: what sizing promises a C caller of the tree value, of a closing line, of spread from price and of a book, and which numbers it ends in.
use Rattle.std.specs.Prelude.{ℕ, ◌≤◌, ◌<◌, ◌≡◌, ◌⊎◌, List, [], ◌∷◌, Float, Err}
use Rattle.std.specs.Float.{binary64}
use Rattle.std.specs.Float.Ieee.{div}
use Rattle.floats.specs.Reasons.{reason_number}
use Rattle.floats.specs.Refusals.{Refusal}
use Rattle.floats.specs.Answers.{Check, Outcome, follow, when_finite}
use Rattle.terms.specs.Numbers.{float}
use Rattle.terms.specs.Terms.{CallSchedule, Market, with_spread}
use Rattle.terms.specs.Checks.{on_check}
use Rattle.terms.specs.Entries.{tree_checks, spread_checks}
use Rattle.bondevents.specs.Grid.{event_grid}
use Rattle.hullwhite.specs.Variance.{transition_variances, variances_from}
use Rattle.lattice.specs.Layers.{Room}
use Rattle.lattice.specs.Lattice.{Lattice, lattice}
use Rattle.treebasedbondpricer.specs.Tree.{Lent, room_of}
use Rattle.bookchecks.specs.Book.{Book, size_of, market_at, calls_at}
use Rattle.bookchecks.specs.Checks.{book_checks, Passed}
use Rattle.sizing.specs.declared.Lengths.{Lengths}
use Rattle.promises.specs.RefusalNumbers.{Among}
use Rattle.promises.specs.HostCallLists.{TreeCall, SpreadCall, SheetCall, SizesCall, BookCall}

-- ---- lengths

-- Slices of the lengths given, or longer ones.
pub record AsLong (l : Lengths) (room : Room) : Type 0 where
  pub nodes : l.nodes ≤ room.nodes
  pub probabilities : l.probabilities ≤ room.probabilities
  pub first : l.row ≤ room.first
  pub second : l.row ≤ room.second

-- Any one of them is shorter.
pub data Shorter (l : Lengths) (room : Room) : Type 0 where
  fewer-nodes : room.nodes < l.nodes → Shorter l room
  fewer-probabilities : room.probabilities < l.probabilities → Shorter l room
  shorter_first : room.first < l.row → Shorter l room
  shorter-second : room.second < l.row → Shorter l room

-- ---- what a call with these terms answers

-- What stands before the fit: the checks, then grid, time_step, variances and layers.
unfoldable pub before_fit : Check → Market → CallSchedule → Room → Outcome Lattice
unfolding event_grid variances_from lattice div
before_fit checks m calls room =
    on_check checks Err
    (follow (event_grid m.settlement m.bond calls m.controls) λ grid.
    when_finite (div binary64 grid.maturity_time (float grid.steps)) 0 λ dt.
    follow (transition_variances m.model grid.steps dt) λ variances. lattice room m.model.alpha dt variances)

-- The number and the place of a refusal, as a call hands them back.
pub record Answered : Type 0 where
  pub number : ℕ
  pub place : ℕ

abbrev pub answered : Refusal → Answered
answered q = record { number = reason_number q.reason; place = q.place }

-- 21; or, for another cause, the very refusal that checks, grid, variances or layers give in ample slices. Never 0, so never accepted.
pub data Stops (l : Lengths) (before : Room → Outcome Lattice) : Answered → Type 0 where
  with_21 : {k : ℕ} → Stops l before (record { number = 21; place = k })
  earlier : {q : Refusal} → (reason_number q.reason ≡ 21 → ⊥) → (reason_number q.reason ≡ 0 → ⊥) → ((ample : Room) → AsLong l ample → before ample ≡ Err q) → Stops l before (answered q)

-- Of all calls of one function: what was lent, and the refusal that it hands back, number 0 where accepted.
pub record RightLengths (l : Lengths) (before : Room → Outcome Lattice) (Call : Type 0) (lent : Call → Lent) (refusal : Call → Answered) : Type 0 where
  -- With slices of the lengths given the call never answers 21.
  pub never_21 : (c : Call) → AsLong l (room_of (lent c)) → (refusal c).number ≡ 21 → ⊥
  -- With any one of them shorter it does, unless it stops earlier for another cause.
  pub shorter : (c : Call) → Shorter l (room_of (lent c)) → Stops l before (refusal c)
  -- What refuses before the fit is what the call answers.
  pub first_cause : (c : Call) (q : Refusal) → before (room_of (lent c)) ≡ Err q → refusal c ≡ answered q

-- ---- the promise

abbrev pub lengths_in : {m : Market} {calls : CallSchedule} → SizesCall m calls → Lengths
lengths_in s = record { nodes = s.nodes; probabilities = s.probabilities; row = s.row; count = s.count }

-- Of the bond that was sized, whatever the spread of the call; spread from price has a target in its place.
pub record Sized (m : Market) (calls : CallSchedule) (l : Lengths) : Type 0 where
  pub values :
      (spread : Float)
      → RightLengths l (before_fit (tree_checks (with_spread m spread) calls) m calls)
      (TreeCall (with_spread m spread) calls) (λ c. c.lent) (λ c. record { number = c.number; place = c.place })
  -- The count given is the one that the value call reports.
  pub counts : (spread : Float) (c : TreeCall (with_spread m spread) calls) → c.number ≡ 0 → c.nodes ≡ l.count
  -- A line of the closing sheet, for a bond number in range.
  pub lines :
      (bond : ℕ) (spread : Float)
      → 1 ≤ bond
      → bond ≤ 999999
      → RightLengths l (before_fit (tree_checks (with_spread m spread) calls) m calls)
      (SheetCall bond (with_spread m spread) calls) (λ c. c.lent) (λ c. record { number = c.number; place = c.place })
  pub spreads :
      (target : Float)
      → RightLengths l (before_fit (spread_checks (with_spread m target) calls) m calls)
      (SpreadCall m target calls) (λ c. c.lent) (λ c. record { number = c.number; place = c.place })

-- Whatever sizing accepts, in whatever node slice.
abbrev pub SizingRule : Type 0
SizingRule = (m : Market) (calls : CallSchedule) (s : SizesCall m calls) → s.number ≡ 0 → Sized m calls (lengths_in s)

-- ---- a book

abbrev pub BookSizes : Book → Type 0
BookSizes b = (i : ℕ) → SizesCall (market_at b i) (calls_at b i)

-- Sizing accepts each bond.
abbrev pub AllSized : (b : Book) → BookSizes b → Type 0
AllSized b sizes = (i : ℕ) → i < size_of b.fields → (sizes i).number ≡ 0

-- Each slice is as long as the longest that is given for a bond, or longer.
abbrev pub AmpleFor : (b : Book) → BookSizes b → Room → Type 0
AmpleFor b sizes room = (i : ℕ) → i < size_of b.fields → AsLong (lengths_in (sizes i)) room

-- With slices at least as long as is given for each of its bonds, a book is never refused with 21.
abbrev pub BookSizingRule : Type 0
BookSizingRule = (b : Book) (c : BookCall b) (sizes : BookSizes b) → AllSized b sizes → AmpleFor b sizes (room_of c.lent) → c.number ≡ 21 → ⊥

-- What stands before the fit of a bond of the book.
abbrev pub bond_before_fit : Book → ℕ → Room → Outcome Lattice
bond_before_fit b i room = before_fit (tree_checks (market_at b i) (calls_at b i)) (market_at b i) (calls_at b i) room

-- Of a book with a bond for which a slice is too short.
pub record ShortBook (b : Book) (c : BookCall b) (sizes : BookSizes b) (bond : ℕ) : Type 0 where
  pub never-accepted : c.number ≡ 0 → ⊥
  -- 21; or the very refusal, with its place and bond, that every call of the book has in ample slices.
  pub refused : (c.number ≡ 21) ⊎ ((ample : BookCall b) → AmpleFor b sizes (room_of ample.lent) → (ample.number ≡ c.number) × (ample.place ≡ c.place) × (ample.bond ≡ c.bond))
  -- Behind the book's checks it names that bond or one before it.
  pub no_later : book_checks b ≡ Passed → c.bond ≤ bond
  -- A bond that it names, and for which a slice is too short, stops as it does alone: never by fit or walk.
  pub stops :
      book_checks b ≡ Passed
      → Shorter (lengths_in (sizes c.bond)) (room_of c.lent)
      → Stops (lengths_in (sizes c.bond)) (bond_before_fit b c.bond) (record { number = c.number; place = c.place })

-- With any one slice shorter than the longest that is given for a bond: shorter than is given for some bond.
abbrev pub BookShort : Type 0
BookShort =
    (b : Book) (c : BookCall b) (sizes : BookSizes b)
    → AllSized b sizes
    → (bond : ℕ) → bond < size_of b.fields
    → Shorter (lengths_in (sizes bond)) (room_of c.lent)
    → ShortBook b c sizes bond

-- ---- its refusals

-- All input checks; it makes no prices of calls or puts and reads no curve, so it never answers 20, 25 or 38.
abbrev pub sizing_refusals : List ℕ
sizing_refusals = 1 ∷ 2 ∷ 3 ∷ 4 ∷ 5 ∷ 6 ∷ 7 ∷ 8 ∷ 21 ∷ 22 ∷ 23 ∷ 26 ∷ 27 ∷ 33 ∷ 34 ∷ 35 ∷ 37 ∷ 44 ∷ []

abbrev pub SizingNumbers : Type 0
SizingNumbers = (m : Market) (calls : CallSchedule) (s : SizesCall m calls) → Among (0 ∷ sizing_refusals) s.number
