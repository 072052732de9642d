-- Definitions only. What stands on a line of a file, as it was typed.
use Rattle.std.specs.Prelude.{ℕ, ◌-◌, ◌≤◌, ◌≡◌, List, [], map, length, get_or, drop, Ok}
use Rattle.decimal.specs.Decimal.{read_decimal}
use Rattle.bondline.specs.Words.{word_at}
use Rattle.bondline.specs.Lines.{uncommented}
use Rattle.bondfile.specs.Entries.{first_number}
use Rattle.bondfile.specs.File.{lines_of, entries_of, of_kind}

-- A line by its number, from 1, up to its comment; nothing where the file has fewer lines.
abbrev pub typed_line : List ℕ → ℕ → List ℕ
typed_line text line = uncommented (get_or (lines_of text) (line - 1) [])

-- Its words are counted from 0, its name.
abbrev pub typed_word : List ℕ → ℕ → ℕ → List ℕ
typed_word text line n = word_at (typed_line text line) n

-- From where a line begins on, the file has the lines from that one on.
pub record Begins (text : List ℕ) (line at : ℕ) : Type 0 where
  pub within : at ≤ length text
  pub lines : lines_of (drop at text) ≡ drop (line - 1) (lines_of text)

-- A promise: what stands in the report as the strike of a call, the fourth word of its line, reads back as the strike that is priced. 7: calls.
abbrev pub StrikesReadBack : List ℕ → Type 0
StrikesReadBack text =
    map (λ e. read_decimal (typed_word text e.line 3)) (of_kind 7 (entries_of text)) ≡ map (λ e. Ok (first_number e.entry)) (of_kind 7 (entries_of text))
