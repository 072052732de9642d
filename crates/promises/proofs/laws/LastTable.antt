-- 01's last example with a value, as a table of two spreads and two shifts. Assumes nothing.
use Rattle.std.specs.Prelude.{ℕ, ◌≡◌, refl, Bool, true, false, cond, List, [], ◌∷◌, ◌++◌, Float, Ok, Err}
use Rattle.std.proofs.Common.{ap, ◌∙◌}
use Rattle.std.specs.Float.Ieee as ieee
use Rattle.floats.specs.Answers.{plus_zero, Outcome, on_outcome}
use Rattle.floats.specs.Whole.{rounded}
use Rattle.decimal.specs.Examples.{bytes}
use Rattle.bondreport.specs.Numbers.{byte_left, digits_left, width_of, whole_left}
use Rattle.bondreport.specs.Figures.{point_left, minus_left}
use Rattle.terms.specs.Numbers.{float}
use Rattle.terms.specs.Terms.{Market, with_spread}
use Rattle.terms.specs.Checks.{lowest, on_check}
use Rattle.treebasedbondpricer.specs.declared.TreeValue.{TreeValue}
use Rattle.treebasedbondpricer.specs.Tree.{tree_value, room_of}
use Rattle.closingsheet.specs.Cells.{printed_of}
use Rattle.spreadtable.specs.Cells.{hash_cell, cell_text}
use Rattle.spreadtable.specs.Page.{row_text, page_text, printed}
use Rattle.spreadtable.specs.Table.{shifted, with_shift, any_outside, cell_at, table_of}
use Rattle.promises.specs.Examples.{market99, call_from, lent, starred}
use Rattle.promises.specs.SpreadTable.{LastTable}
use Rattle.floats.specs.declared.Reason.TheVariants as reason

abbrev spot : Float → Float → List ℕ
spot = cell_at market99 (call_from 0 365) (room_of lent)

abbrev worth : Float → Outcome TreeValue
worth s = tree_value (with_spread (with_shift market99 plus_zero) s) (call_from 0 365) (room_of lent)

abbrev columns : List Float
columns = plus_zero ∷ float 2 ∷ []

-- ---- what the tests and the single calls answer

-- A sigma of 0 with a shift of 0 is 0.
same_terms : with_spread (with_shift market99 plus_zero) plus_zero ≡ market99
unfolding ieee.add ieee.of_bits
same_terms = refl

in_range : any_outside (shifted plus_zero (plus_zero ∷ [])) ≡ false
unfolding any_outside ieee.of_bits ieee.of_int ieee.add ieee.neg ieee.lt ieee.le
in_range = refl

out_of_range : any_outside (shifted (float 20) (plus_zero ∷ [])) ≡ true
unfolding any_outside ieee.of_bits ieee.of_int ieee.add ieee.neg ieee.lt ieee.le
out_of_range = refl

too_high : worth (float 2) ≡ Err (record { reason = reason.Number; place = 0 })
unfolding tree_value rounded on_outcome on_check lowest ieee.of_bits ieee.add ieee.sub ieee.mul ieee.div ieee.neg ieee.lt ieee.le ieee.of_int
too_high = refl

-- ---- how they are printed

print_99 : cell_text (Ok (record { value = (float 99); nodes = 2 })) ≡ bytes "           99.00"
unfolding cell_text printed_of byte_left digits_left width_of whole_left point_left minus_left ieee.of_bits ieee.of_int
print_99 = refl

print_4 : cell_text (Err (record { reason = reason.Number; place = 0 })) ≡ bytes "              #4"
unfolding cell_text hash_cell byte_left digits_left width_of whole_left
print_4 = refl

print_46 : hash_cell 46 ≡ bytes "             #46"
unfolding hash_cell byte_left digits_left width_of whole_left
print_46 = refl

-- ---- cell by cell

inside : (s : Float) → spot plus_zero s ≡ cell_text (worth s)
unfolding cell_at
inside s = ap (λ (b : Bool). cond b (hash_cell 46) (cell_text (worth s))) in_range

shows_99 : spot plus_zero plus_zero ≡ bytes "           99.00"
shows_99 = inside plus_zero ∙ ap cell_text (ap (λ (m : Market). tree_value m (call_from 0 365) (room_of lent)) same_terms ∙ starred.window) ∙ print_99

shows_4 : spot plus_zero (float 2) ≡ bytes "              #4"
shows_4 = inside (float 2) ∙ ap cell_text too_high ∙ print_4

shows_46 : (s : Float) → spot (float 20) s ≡ bytes "             #46"
unfolding cell_at
shows_46 s =
    ap (λ (b : Bool). cond b (hash_cell 46) (cell_text (tree_value (with_spread (with_shift market99 (float 20)) s) (call_from 0 365) (room_of lent)))) out_of_range
    ∙ print_46

first_row : row_text (spot plus_zero) columns ≡ bytes "           99.00              #4" ++ 10 ∷ []
unfolding row_text
first_row =
    ap (λ (z : List ℕ). z ++ (spot plus_zero (float 2) ++ 10 ∷ [])) shows_99
    ∙ ap (λ (z : List ℕ). bytes "           99.00" ++ (z ++ 10 ∷ [])) shows_4

second-row : row_text (spot (float 20)) columns ≡ bytes "             #46             #46" ++ 10 ∷ []
unfolding row_text
second-row =
    ap (λ (z : List ℕ). z ++ (spot (float 20) (float 2) ++ 10 ∷ [])) (shows_46 plus_zero)
    ∙ ap (λ (z : List ℕ). bytes "             #46" ++ (z ++ 10 ∷ [])) (shows_46 (float 2))

page : page_text spot columns (plus_zero ∷ float 20 ∷ []) ≡ bytes "           99.00              #4" ++ 10 ∷ bytes "             #46             #46" ++ 10 ∷ []
unfolding page_text
page =
    ap (λ (z : List ℕ). z ++ (row_text (spot (float 20)) columns ++ [])) first_row
    ∙ ap (λ (z : List ℕ). (bytes "           99.00              #4" ++ 10 ∷ []) ++ (z ++ [])) second-row

pub last_table : LastTable
unfolding table_of
last_table = ap printed page
