-- Definitions only. Text in the columns of a line.
use Rattle.std.specs.Prelude.{ℕ, zero, suc, cond, List, [], ◌∷◌, eqb, get_or, set, replicate}

-- 80 blanks.
abbrev pub blank_line : List ℕ
blank_line = replicate 80 32

-- A text stands from a column on; what lies beyond the line is dropped.
unfoldable pub put_at : List ℕ → ℕ → List ℕ → List ℕ
put_at line at [] = line
put_at line at (byte ∷ text) = put_at (set line at byte) (suc at) text

-- Of the first columns, those up to the last that isn't blank.
unfoldable pub used_of : ℕ → List ℕ → ℕ
used_of zero line = 0
used_of (suc n) line = cond (eqb (get_or line n 0) 32) (used_of n line) (suc n)
