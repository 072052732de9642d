-- Definitions only. The words of a line: the runs of bytes other than spaces, counted from 0.
use Rattle.std.specs.Prelude.{ℕ, zero, suc, ◌+◌, ◌-◌, Bool, cond, Option, Some, None, List, length, take, drop, ltb}
use Rattle.bondline.specs.declared.Span.{Span}
use Rattle.bondline.specs.Bytes.{is_space, is_other, run_end, same}

-- The word from an index on: past the spaces, up to the next space.
abbrev pub word_from : List ℕ → ℕ → Span
word_from line i = record { start = run_end is_space line i; end = run_end (is_other 32) line (run_end is_space line i) }

-- Where a word stands; where the line has no such word, an empty place at its end.
unfoldable pub span_of : List ℕ → ℕ → Span
span_of line zero = word_from line 0
span_of line (suc n) = word_from line (span_of line n).end

abbrev pub has_word : List ℕ → ℕ → Bool
has_word line n = ltb (span_of line n).start (length line)

abbrev pub between : ℕ → ℕ → List ℕ → List ℕ
between a e line = take (e - a) (drop a line)

abbrev pub word_at : List ℕ → ℕ → List ℕ
word_at line n = between (span_of line n).start (span_of line n).end line

-- A word's column, from 1.
abbrev pub column_of : List ℕ → ℕ → ℕ
column_of line n = (span_of line n).start + 1

-- The first word of a table from k on that is the word given; `left` words are tried.
unfoldable pub seek : List ℕ → List ℕ → ℕ → ℕ → Option ℕ
seek word table zero k = None
seek word table (suc left) k = cond (same word (word_at table k)) (Some k) (seek word table left (suc k))

-- A word's place among the n words of a table, if it is one of them.
abbrev pub place_in : List ℕ → List ℕ → ℕ → Option ℕ
place_in word table n = seek word table n 0
