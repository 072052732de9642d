-- Definitions only. A bond file: its lines, and their entries in order.
use Rattle.std.specs.Prelude.{ℕ, suc, cond, Ok, List, [], ◌∷◌, drop, eqb}
use Rattle.bondline.specs.declared.Entry.TheVariants.{Blank}
use Rattle.bondline.specs.Forms.{Said}
use Rattle.bondline.specs.Lines.{line_entry}
use Rattle.bondfile.specs.Entries.{kind_of}

-- ---- lines

abbrev pub begun : ℕ → List (List ℕ) → List (List ℕ)
begun b [] = (b ∷ []) ∷ []
begun b (line ∷ lines) = (b ∷ line) ∷ lines

-- The lines of a file: each ends with byte 10, which the last may lack.
unfoldable pub lines_of : List ℕ → List (List ℕ)
lines_of [] = []
lines_of (b ∷ bs) = cond (eqb b 10) ([] ∷ lines_of bs) (begun b (lines_of bs))

-- ---- entries

-- A line's number, from 1, and what it says.
pub record Numbered : Type 0 where
  pub line : ℕ
  pub entry : Said

-- One entry for each line.
unfoldable pub numbered : ℕ → List (List ℕ) → List Numbered
numbered n [] = []
numbered n (line ∷ lines) = record { line = n; entry = line_entry line } ∷ numbered (suc n) lines

abbrev pub entries_of : List ℕ → List Numbered
entries_of text = numbered 1 (lines_of text)

-- The entries from an index on, at which a line of this number begins.
abbrev pub entries_from : List ℕ → ℕ → ℕ → List Numbered
entries_from text at n = numbered n (lines_of (drop at text))

-- What the first of some entries says; nothing where there is none.
abbrev pub first_entry : List Numbered → Said
first_entry [] = Ok Blank
first_entry (e ∷ es) = e.entry

-- The entries of a kind, in the order of their lines.
unfoldable pub of_kind : ℕ → List Numbered → List Numbered
of_kind k [] = []
of_kind k (e ∷ es) = cond (eqb (kind_of e.entry) k) (e ∷ of_kind k es) (of_kind k es)

-- What a file's first entry of a kind says.
abbrev pub field_of : ℕ → List ℕ → Said
field_of k text = first_entry (of_kind k (entries_of text))
