-- Definitions only. A book in one go: each value, their sum in book order and each desk's node count, or the first refused bond and no values.
use Rattle.std.specs.Prelude.{ℕ, zero, suc, ◌+◌, ◌-◌, cond, eqb, List, [], ◌∷◌, ◌++◌, get_or, replicate, Float, Some, None, Ok, Err}
use Rattle.std.specs.Float.{binary64}
use Rattle.std.specs.Float.Ieee.{add}
use Rattle.floats.specs.Refusals.{Refusal}
use Rattle.floats.specs.Answers.{plus_zero, not_finite, Check, Outcome}
use Rattle.terms.specs.Checks.{single}
use Rattle.lattice.specs.Layers.{Room}
use Rattle.treebasedbondpricer.specs.declared.TreeValue.{TreeValue}
use Rattle.treebasedbondpricer.specs.Tree.{tree_value, value_of, counted_by}
use Rattle.bookchecks.specs.Book.{Book, size_of, market_at, calls_at}
use Rattle.bookchecks.specs.Checks.{first_refused, on_book, book_checks}
use Rattle.bookvalue.specs.declared.BookAnswer.{BookAnswer}
use Rattle.floats.specs.declared.Reason.TheVariants as reason

-- A bond's tree value, as if it were alone with the slices.
abbrev pub bond_value : Book → Room → ℕ → Outcome TreeValue
bond_value b room i = tree_value (market_at b i) (calls_at b i) room

-- What a tree value refuses; a value refuses nothing.
abbrev pub refused_tree : Outcome TreeValue → Check
refused_tree (Ok x) = Ok tt
refused_tree (Err r) = Err r

-- ---- values, sum and counts

-- What a rule says of bonds 0 to n − 1.
unfoldable pub each : {A : Type 0} → (ℕ → A) → ℕ → List A
each f zero = []
each f (suc n) = each f n ++ (f n ∷ [])

-- The same in 32 places, zero past the size.
abbrev pub placed : {A : Type 0} → A → (ℕ → A) → ℕ → List A
placed none f n = each f n ++ replicate (32 - n) none

-- The sum in book order, starting from 0.
unfoldable pub sum_to : List Float → ℕ → Float
unfolding add
sum_to values zero = plus_zero
sum_to values (suc n) = add binary64 (sum_to values n) (get_or values n plus_zero)

-- 27: a sum that isn't finite, of the first bond that makes it so, with place 0.
abbrev pub sum_check : List Float → ℕ → Check
sum_check values i = single reason.NotFinite 0 (not_finite (sum_to values (suc i)))

-- A desk's count: the sum of the counts of its bonds.
unfoldable pub desk_to : (ℕ → ℕ) → ℕ → List ℕ → ℕ → ℕ
desk_to desk d counts zero = 0
desk_to desk d counts (suc n) = cond (eqb (desk n) d) (desk_to desk d counts n + get_or counts n 0) (desk_to desk d counts n)

-- Those of desks 0 to 7.
abbrev pub desk_counts : (ℕ → ℕ) → List ℕ → ℕ → List ℕ
desk_counts desk counts n = each (λ d. desk_to desk d counts n) 8

abbrev pub desk_of : Book → ℕ → ℕ
desk_of b i = get_or b.fields.desks i 0

-- ---- the answer

-- If any bond is refused, there are no values.
abbrev pub refused_book : ℕ → Refusal → BookAnswer
refused_book bond r = record { refusal = Some r; bond = bond; values = replicate 32 plus_zero; sum = plus_zero; counts = replicate 8 0 }

abbrev pub accepted_book : List Float → (ℕ → ℕ) → List ℕ → ℕ → BookAnswer
accepted_book values desk counts n =
    record { refusal = None; bond = 0; values = values; sum = sum_to values n; counts = desk_counts desk counts n }

-- The sum is tried once every bond is valued.
unfoldable pub summed_book : List Float → (ℕ → ℕ) → List ℕ → ℕ → BookAnswer
unfolding first_refused on_book sum_to each desk_to
summed_book values desk counts n = on_book (first_refused (sum_check values) n 0) refused_book (accepted_book values desk counts n)

-- The first bond refused while it is valued, or all values.
unfoldable pub valued_book : (ℕ → Outcome TreeValue) → (ℕ → ℕ) → ℕ → BookAnswer
unfolding summed_book each
valued_book value desk n =
    on_book (first_refused (λ i. refused_tree (value i)) n 0) refused_book
    (summed_book (placed plus_zero (λ i. value_of (value i)) n) desk (placed 0 (λ i. counted_by (value i)) n) n)

-- The checks run over the whole book before any bond is valued.
unfoldable pub book_by : (ℕ → Outcome TreeValue) → Book → BookAnswer
unfolding book_checks valued_book
book_by value b = on_book (book_checks b) refused_book (valued_book value (desk_of b) (size_of b.fields))

abbrev pub book_value : Book → Room → BookAnswer
book_value b room = book_by (bond_value b room) b
