-- Definitions only. The answer from its parts: the bonds valued, the sum and the count.
use Rattle.std.specs.Prelude.{ℕ, ◌*◌, ◌<◌, ◌^◌, List, get_or, Float, Ok, Err}
use Rattle.floats.specs.Answers.{plus_zero, Outcome}
use Rattle.lattice.specs.Layers.{Room}
use Rattle.treebasedbondpricer.specs.declared.TreeValue.{TreeValue}
use Rattle.treebasedbondpricer.specs.Tree.{tree_value, value_of, counted_by}
use Rattle.bookchecks.specs.declared.Holding.{Holding}
use Rattle.bookchecks.specs.Book.{Shared, Lists, market_of, calls_of}
use Rattle.bookchecks.specs.Checks.{BookOutcome, Refused, first_refused, on_book}
use Rattle.bookvalue.specs.declared.Valued.{Valued}
use Rattle.bookvalue.specs.declared.BookAnswer.{BookAnswer}
use Rattle.bookvalue.specs.Values.{refused_tree, each, placed, sum_to, sum_check, refused_book, summed_book}

abbrev pub all_values : (ℕ → Outcome TreeValue) → ℕ → Valued
all_values value n = record { values = placed plus_zero (λ i. value_of (value i)) n; counts = placed 0 (λ i. counted_by (value i)) n }

-- The first bond refused while it is valued, or all values.
unfoldable pub valued_by : (ℕ → Outcome TreeValue) → ℕ → BookOutcome Valued
unfolding first_refused on_book each
valued_by value n = on_book (first_refused (λ i. refused_tree (value i)) n 0) Refused (Ok (all_values value n))

-- The same of what the bonds hold.
abbrev pub tree_of : Shared → Lists → Room → Holding → Outcome TreeValue
tree_of s l room h = tree_value (market_of s l h) (calls_of l h) room

abbrev pub values_of : Shared → Lists → (ℕ → Holding) → Room → ℕ → BookOutcome Valued
values_of s l held room n = valued_by (λ i. tree_of s l room (held i)) n

unfoldable pub sum_of : List Float → ℕ → BookOutcome Float
unfolding first_refused on_book sum_to
sum_of values n = on_book (first_refused (sum_check values) n 0) Refused (Ok (sum_to values n))

unfoldable pub answer_of : BookOutcome Valued → (ℕ → ℕ) → ℕ → BookAnswer
unfolding summed_book
answer_of (Ok v) desk n = summed_book v.values desk v.counts n
answer_of (Err q) desk n = refused_book q.bond q.refusal

-- ---- the counts of 32 bonds fit 64 bits

pub record FewNodes (counts : List ℕ) : Type 0 where
  pub each : (i : ℕ) → 3 * get_or counts i 0 < 2 ^ 60

-- Those of what was valued, where no bond was refused.
abbrev pub FewCounted : BookOutcome Valued → Type 0
FewCounted (Ok v) = FewNodes v.counts
FewCounted (Err q) = Unit {0}
