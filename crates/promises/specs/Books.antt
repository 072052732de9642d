-- Definitions only. A book in one go, as a C caller meets it: all or none, each bond as alone, and what call lists and put lists may change, whatever the curve.
use Rattle.std.specs.Prelude.{ℕ, ◌<◌, ◌≡◌, false, ◌⊎◌, List, T, get_or, replicate, Float, Ok}
use Rattle.std.specs.Float.Ieee.{le}
use Rattle.floats.specs.Answers.{Answer, plus_zero, Outcome}
use Rattle.floats.specs.Reasons.{reason_number, refusal_number}
use Rattle.floats.specs.Refusals.{Refusal}
use Rattle.terms.specs.Terms.{CallSchedule, Market, bond_with_puts, with_puts}
use Rattle.terms.specs.CallLists.{MadeFrom, LoweredFrom, Reordered, StrikeAbove}
use Rattle.terms.specs.Entries.{tree_checks}
use Rattle.bondevents.specs.Grid.{grid_answer}
use Rattle.lattice.specs.Layers.{Room}
use Rattle.treebasedbondpricer.specs.declared.TreeValue.{TreeValue}
use Rattle.treebasedbondpricer.specs.Tree.{tree_value_over, number_of, value_of, room_of}
use Rattle.bookchecks.specs.Book.{Book, size_of, holding, market_at, calls_at}
use Rattle.bookchecks.specs.Checks.{leg_lengths, entry_lengths, cut_amiss, bond_check, first_refused, book_checks, Passed}
use Rattle.bookvalue.specs.declared.BookAnswer.{BookAnswer}
use Rattle.bookvalue.specs.Values.{placed, sum_check, desk_of, refused_book, accepted_book, book_by}
use Rattle.promises.specs.HostCallLists.{TreeCall, BookCall}
use Rattle.promises.specs.OneCount.{total_to}

abbrev pub size : Book → ℕ
size b = size_of b.fields

-- ---- all or none

-- No fields missing and nothing left over: the bond's cut adds up.
pub record AddsUp (b : Book) (i : ℕ) : Type 0 where
  pub set : (holding b i).unset ≡ false
  pub whole : cut_amiss (holding b i) (leg_lengths b.lists.leg) (entry_lengths b.lists.calls) (entry_lengths b.lists.puts) ≡ false

-- Where it does, the bond is checked as if it were alone.
abbrev pub CheckedAlone : Type 0
CheckedAlone = (b : Book) (i : ℕ) → AddsUp b i → bond_check b.shared b.lists (holding b i) ≡ tree_checks (market_at b i) (calls_at b i)

-- Beside a refusal there are no values, no sum and no counts.
pub record NoValues {b : Book} (c : BookCall b) : Type 0 where
  pub values : c.values ≡ replicate 32 plus_zero
  pub sum : c.sum ≡ plus_zero
  pub counts : c.counts ≡ replicate 8 0

-- A value is that of the bond alone, with slices as long; with any others the bond alone has it too, or finds no room.
pub record Alone {b : Book} (c : BookCall b) (i : ℕ) : Type 0 where
  pub same_slices : (t : TreeCall (market_at b i) (calls_at b i)) → room_of t.lent ≡ room_of c.lent → (t.number ≡ 0) × (t.value ≡ get_or c.values i plus_zero)
  pub any_slices : (t : TreeCall (market_at b i) (calls_at b i)) → ((t.number ≡ 0) × (t.value ≡ get_or c.values i plus_zero)) ⊎ (t.number ≡ 21)

pub record AllOrNone {b : Book} (c : BookCall b) : Type 0 where
  pub refused : (c.number ≡ 0 → ⊥) → NoValues c
  pub accepted : c.number ≡ 0 → (i : ℕ) → i < size b → Alone c i
  -- The eight counts together are the one count: the sum of the counts of the bonds alone, in whatever slices.
  pub counts : c.number ≡ 0 → (alone : (i : ℕ) → TreeCall (market_at b i) (calls_at b i)) → ((i : ℕ) → i < size b → (alone i).number ≡ 0) → total_to c.counts 8 ≡ total_to (placed 0 (λ i. (alone i).nodes) (size b)) (size b)

abbrev pub BookRule : Type 0
BookRule = (b : Book) (c : BookCall b) → AllOrNone c

-- ---- whatever the curve

-- Each bond valued over a curve of its own, any function at all. The book's answer is that over the curves of the shared pillars, timed by each bond's day count.
abbrev pub over_curves : (ℕ → Float → ℕ → Answer) → Book → Room → ℕ → Outcome TreeValue
over_curves curves b room i = tree_value_over (curves i) (market_at b i) (calls_at b i) room

abbrev pub book_over : (ℕ → Float → ℕ → Answer) → Book → Room → BookAnswer
book_over curves b room = book_by (over_curves curves b room) b

-- An accepted book: each bond has a value, and their sum is finite.
pub record Accepted (curves : ℕ → Float → ℕ → Answer) (b : Book) (room : Room) : Type 0 where
  pub checked : book_checks b ≡ Passed
  pub values : ℕ → Float
  pub counts : ℕ → ℕ
  pub valued : (i : ℕ) → i < size b → over_curves curves b room i ≡ Ok (record { value = (values i); nodes = (counts i) })
  pub summed : first_refused (sum_check (placed plus_zero (λ i. value_of (over_curves curves b room i)) (size b))) (size b) 0 ≡ Passed

-- The answer of an accepted book holds its values and counts. Any other has a refusal, and beside it no values, no sum and no counts.
pub data AllOrNoneOver (curves : ℕ → Float → ℕ → Answer) (b : Book) (room : Room) : BookAnswer → Type 0 where
  all_given : (a : Accepted curves b room) → AllOrNoneOver curves b room (accepted_book (placed plus_zero a.values (size b)) (desk_of b) (placed 0 a.counts (size b)) (size b))
  none-given : {bond : ℕ} {q : Refusal} → (Accepted curves b room → ⊥) → AllOrNoneOver curves b room (refused_book bond q)

-- ---- call lists

-- A second book whose bonds have call lists made from those of the first, each from its own, all else the same, and which adds up.
pub record CallsMade (first second : Book) : Type 0 where
  pub same_size : size second ≡ size first
  pub same_terms : (i : ℕ) → i < size first → market_at second i ≡ market_at first i
  pub same_desks : (i : ℕ) → i < size first → desk_of second i ≡ desk_of first i
  pub made : (i : ℕ) → i < size first → MadeFrom (calls_at first i) (calls_at second i)
  pub adds_up : (i : ℕ) → i < size first → AddsUp second i

-- The lowest bond with a strike above 1,000,000.
pub record LowestAbove (b : Book) (bond : ℕ) : Type 0 where
  pub of_book : bond < size b
  pub above : StrikeAbove (calls_at b bond)
  pub lowest : (i : ℕ) → i < bond → StrikeAbove (calls_at b i) → ⊥

-- Accepted with each value no lower, or refused with 27, a bond's or the sum's.
pub data NoLowerBook (values : ℕ → Float) (n : ℕ) : BookAnswer → Type 0 where
  accepted : (ys : List Float) (desk : ℕ → ℕ) (counts : List ℕ) → ((i : ℕ) → i < n → T (le (values i) (get_or ys i plus_zero))) → NoLowerBook values n (accepted_book ys desk counts n)
  refused_27 : {bond : ℕ} {q : Refusal} → reason_number q.reason ≡ 27 → NoLowerBook values n (refused_book bond q)

-- Refused with 4, naming that bond, where there is one; else no lower.
pub record ThinnedBook (values : ℕ → Float) (second : Book) (answer : BookAnswer) : Type 0 where
  pub with_4 : (bond : ℕ) → LowestAbove second bond → (refusal_number answer.refusal ≡ 4) × (answer.bond ≡ bond)
  pub otherwise : ((bond : ℕ) → LowestAbove second bond → ⊥) → NoLowerBook values (size second) answer

-- The same of what two calls hand back: 4 naming the lowest bond with a strike above 1,000,000, exactly then. Otherwise accepted with each value no lower, or 27.
pub record ThinnedCall {first second : Book} (a : BookCall first) (c : BookCall second) : Type 0 where
  pub with_4 : (bond : ℕ) → LowestAbove second bond → (c.number ≡ 4) × (c.bond ≡ bond)
  pub only_then : c.number ≡ 4 → LowestAbove second c.bond
  pub otherwise : ((bond : ℕ) → LowestAbove second bond → ⊥) → ((c.number ≡ 0) × ((i : ℕ) → i < size second → T (le (get_or a.values i plus_zero) (get_or c.values i plus_zero)))) ⊎ (c.number ≡ 27)

abbrev pub BookCallListRule : Type 0
BookCallListRule =
    (first second : Book)
    → CallsMade first second
    → (a : BookCall first) (c : BookCall second)
    → room_of c.lent ≡ room_of a.lent
    → a.number ≡ 0
    → ThinnedCall a c

-- ---- put lists

abbrev pub puts_at : Book → ℕ → CallSchedule
puts_at b i = (market_at b i).bond.puts

-- A second book whose bonds have put lists made from those of the first, each from its own, all else the same.
pub record PutsMade (first second : Book) : Type 0 where
  pub same_size : size second ≡ size first
  pub same_terms : (i : ℕ) → i < size first → market_at second i ≡ with_puts (market_at first i) (puts_at second i)
  pub same_calls : (i : ℕ) → i < size first → calls_at second i ≡ calls_at first i
  pub lowered : (i : ℕ) → i < size first → LoweredFrom (puts_at first i) (puts_at second i)

-- Where both are accepted, no value rises.
abbrev pub BookPutListRule : Type 0
BookPutListRule =
    (first second : Book)
    → PutsMade first second
    → (a : BookCall first) (c : BookCall second)
    → room_of c.lent ≡ room_of a.lent
    → a.number ≡ 0
    → c.number ≡ 0
    → (i : ℕ) → i < size first → T (le (get_or c.values i plus_zero) (get_or a.values i plus_zero))

-- ---- reordering

-- A bond that stays as it is, or whose calls or puts, which the grid accepts, come in another order.
pub data Moved : Market → CallSchedule → Market → CallSchedule → Type 0 where
  kept : {m : Market} {calls : CallSchedule} → Moved m calls m calls
  calls_moved : {m : Market} {first second : CallSchedule} → Reordered first second → refusal_number (grid_answer m.settlement m.bond first m.controls).refusal ≡ 0 → Moved m first m second
  puts_moved :
      (m : Market) (calls first second : CallSchedule)
      → Reordered first second
      → refusal_number (grid_answer m.settlement (bond_with_puts m.bond first) calls m.controls).refusal ≡ 0
      → Moved (with_puts m first) calls (with_puts m second) calls

-- Entries change places inside a bond's own part of the lists, so that all counts and lengths stay.
pub record BondsMoved (first second : Book) : Type 0 where
  pub same_fields : second.fields ≡ first.fields
  pub same_leg : leg_lengths second.lists.leg ≡ leg_lengths first.lists.leg
  pub same_calls : entry_lengths second.lists.calls ≡ entry_lengths first.lists.calls
  pub same_puts : entry_lengths second.lists.puts ≡ entry_lengths first.lists.puts
  pub moved : (i : ℕ) → i < size first → Moved (market_at first i) (calls_at first i) (market_at second i) (calls_at second i)

-- No bit of what is handed back, with slices as long; where they also hold the same before, they hold the same afterwards.
pub record SameBooks {first second : Book} (a : BookCall first) (c : BookCall second) : Type 0 where
  pub number : c.number ≡ a.number
  pub place : c.place ≡ a.place
  pub bond : c.bond ≡ a.bond
  pub values : c.values ≡ a.values
  pub sum : c.sum ≡ a.sum
  pub counts : c.counts ≡ a.counts
  pub slices : c.lent ≡ a.lent → c.left ≡ a.left

abbrev pub BookReorderingRule : Type 0
BookReorderingRule =
    (first second : Book)
    → BondsMoved first second
    → (a : BookCall first) (c : BookCall second)
    → room_of c.lent ≡ room_of a.lent
    → SameBooks a c

-- All of it over any curves.
pub record BooksOverCurves (curves : ℕ → Float → ℕ → Answer) : Type 0 where
  pub all_or_none : (b : Book) (room : Room) → AllOrNoneOver curves b room (book_over curves b room)
  -- The bond alone has its value and count in any other slices too, or finds no room.
  pub alone :
      (b : Book) (room : Room)
      → (a : Accepted curves b room)
      → (i : ℕ) → i < size b
      → (other : Room) → (over_curves curves b other i ≡ Ok (record { value = (a.values i); nodes = (a.counts i) })) ⊎ (number_of (over_curves curves b other i) ≡ 21)
  pub counts :
      (b : Book) (room : Room)
      → (a : Accepted curves b room)
      → total_to (book_over curves b room).counts 8 ≡ total_to (placed 0 a.counts (size b)) (size b)
  pub dropped_or_raised :
      (first second : Book) (room : Room)
      → CallsMade first second
      → (a : Accepted curves first room)
      → ThinnedBook a.values second (book_over curves second room)
  pub lowered :
      (first second : Book) (room : Room)
      → PutsMade first second
      → (a : Accepted curves first room) (c : Accepted curves second room)
      → (i : ℕ) → i < size first → T (le (c.values i) (a.values i))
  pub reordered :
      (first second : Book)
      → BondsMoved first second
      → (room : Room) → book_over curves second room ≡ book_over curves first room

abbrev pub AnyCurveBooks : Type 0
AnyCurveBooks = (curves : ℕ → Float → ℕ → Answer) → BooksOverCurves curves
