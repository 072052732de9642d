-- Definitions only. What a line says.
use Rattle.std.specs.Prelude.{ℕ, ◌+◌, cond, Err, List, length, get_or, ltb}
use Rattle.bondline.specs.declared.Cause.TheVariants.{Byte}
use Rattle.bondline.specs.Bytes.{is_allowed, is_commented, is_other, run_end}
use Rattle.bondline.specs.Words.{between}
use Rattle.bondline.specs.Values.{fault}
use Rattle.bondline.specs.Forms.{Said, body_entry}

-- Where the comment starts: at #.
abbrev pub comment_start : List ℕ → ℕ
comment_start line = run_end (is_other 35) line 0

-- The index of the first byte that may not stand in a line: what follows # is its comment.
abbrev pub first_bad : List ℕ → ℕ
first_bad line = cond (ltb (comment_start line) (run_end is_allowed line 0)) (run_end is_commented line (run_end is_allowed line 0)) (run_end is_allowed line 0)

-- A comment goes up to the line's end.
abbrev pub uncommented : List ℕ → List ℕ
uncommented line = between 0 (comment_start line) line

-- First its bytes, then its words.
unfoldable pub line_entry : List ℕ → Said
line_entry line =
    cond (ltb (first_bad line) (length line)) (Err (fault (first_bad line + 1) (Byte (get_or line (first_bad line) 0))))
    (body_entry (uncommented line))

-- The line that an index begins: up to the next line end.
abbrev pub line_at : List ℕ → ℕ → List ℕ
line_at text at = between at (run_end (is_other 10) text at) text

-- Where the next line begins.
abbrev pub next_line : List ℕ → ℕ → ℕ
next_line text at = cond (ltb (run_end (is_other 10) text at) (length text)) (run_end (is_other 10) text at + 1) (run_end (is_other 10) text at)
