-- Each cell has 16 characters, each row 16 for a column and a newline. Assumes nothing.
use Rattle.std.specs.Prelude.{ℕ, suc, ◌+◌, ◌*◌, ◌≡◌, refl, Bool, true, false, cond, List, [], ◌∷◌, length, Float, Ok, Err}
use Rattle.std.proofs.Common.{◌∙◌, arith, length-append, length-take-le}
use Rattle.std.proofs.lemmas.List.{length-replicate}
use Rattle.bondreport.specs.Columns.{blank_line}
use Rattle.bondreport.specs.Numbers.{byte_left, whole_left}
use Rattle.bondreport.specs.Figures.{before}
use Rattle.terms.specs.Terms.{CallSchedule, Market}
use Rattle.lattice.specs.Layers.{Room}
use Rattle.treebasedbondpricer.specs.declared.TreeValue.{TreeValue}
use Rattle.floats.specs.Answers.{Outcome}
use Rattle.closingsheet.specs.laws.Columns.{byte-length, whole_length, cell-length}
use Rattle.spreadtable.specs.Cells.{hash_cell, cell_text}
use Rattle.spreadtable.specs.Page.{row_text}
use Rattle.spreadtable.specs.Table.{cell_at}

pub hash_wide : (n : ℕ) → length (hash_cell n) ≡ 16
unfolding hash_cell
hash_wide n = length-take-le 16 (byte_left (whole_left (before blank_line 16) n) 35).line (omega (arith, long))
  where
    long : length (byte_left (whole_left (before blank_line 16) n) 35).line ≡ 80
    long = byte-length (whole_left (before blank_line 16) n) 35 ∙ whole_length blank_line 16 n ∙ length-replicate {A = ℕ} 80 32

either-wide : (b : Bool) (xs ys : List ℕ) → length xs ≡ 16 → length ys ≡ 16 → length (cond b xs ys) ≡ 16
either-wide true xs ys e f = e
either-wide false xs ys e f = f

-- What a cell is made of.
ruleset widths = (either-wide, hash_wide, cell-length)

pub text-wide : (v : Outcome TreeValue) → length (cell_text v) ≡ 16
unfolding cell_text
text-wide (Ok x) = search widths
text-wide (Err q) = search widths

pub cell-wide : (m : Market) (calls : CallSchedule) (room : Room) (shift spread : Float) → length (cell_at m calls room shift spread) ≡ 16
unfolding cell_at
cell-wide m calls room shift spread = search (text-wide, widths)

pub row-wide : (cell : Float → List ℕ) → ((s : Float) → length (cell s) ≡ 16) → (spreads : List Float) → length (row_text cell spreads) ≡ 16 * length spreads + 1
unfolding row_text
row-wide cell e [] = refl
row-wide cell e (s ∷ spreads) = length-append (cell s) (row_text cell spreads) ∙ together (length (cell s)) (length (row_text cell spreads)) (length spreads) (e s) (row-wide cell e spreads)
  where
    together : (a b n : ℕ) → a ≡ 16 → b ≡ 16 * n + 1 → a + b ≡ 16 * suc n + 1
    together a b n f g = omega arith
