-- A page that is filled row by row. Assumes nothing.
use Rattle.std.specs.Prelude.{ℕ, suc, ◌+◌, ◌-◌, ◌*◌, ◌≤◌, ◌<◌, ◌≡◌, refl, Bool, true, false, ◌||◌, ltb, get_or, drop, replicate, ℤ, pos, Float}
use Rattle.std.proofs.Math.Path.{sym, ap, subst}
use Rattle.std.proofs.Common.{◌∙◌, add-zero, add_comm, zero-mul, suc-mul, add-one, arith, ltb-false, length-append, drop_of_length-le, drop-cons}
use Rattle.std.proofs.Math.Bool.{cond}
use Rattle.std.proofs.lemmas.Bool.{false≢true}
use mathlib.Core.List.{List, [], ◌∷◌, ◌++◌}
use Rattle.std.proofs.Math.ListN.{length}
use Rattle.std.specs.Float.Ieee.{nan}
use Rattle.floats.specs.Answers.{plus_zero}
use Rattle.bondreport.specs.Columns.{put_at}
use Rattle.terms.specs.Terms.{CallSchedule, Market}
use Rattle.terms.specs.Checks.{outside}
use Rattle.treebasedbondpricer.specs.Tree.{Lent, room_of, zeroed}
use Rattle.spreadtable.specs.declared.SpreadTable.{SpreadTable}
use Rattle.spreadtable.specs.declared.Written.{Written}
use Rattle.spreadtable.specs.Page.{row_text, page_text, printed, no_table}
use Rattle.spreadtable.specs.Table.{cell_at, wrong_count, table_of, Tabled}
use Rattle.spreadtable.specs.laws.Writing.{appended, empty, as_table, twice, page_is}
use Rattle.spreadtable.proofs.laws.Widths.{row-wide, cell-wide}

pub record Stacking (cell : Float → Float → List ℕ) (spreads shifts : List Float) (rows : Written) (i : ℕ) : Type 0 where
  pub within : i ≤ length shifts
  pub narrow : length spreads ≤ 16
  pub wide : (h s : Float) → length (cell h s) ≡ 16
  pub room : rows.length + 257 * (length shifts - i) ≤ 4112
  pub rest : appended rows (page_text cell spreads (drop i shifts)) ≡ appended empty (page_text cell spreads shifts)

module _ (cell : Float → Float → List ℕ) (spreads shifts : List Float) where
  pub stack_begin : {rows : Written} → ((h s : Float) → length (cell h s) ≡ 16) → length spreads ≤ 16 → length shifts ≤ 16 → rows ≡ empty → Stacking cell spreads shifts rows 0
  stack_begin wide n k e =
      record {
        within = omega arith;
        narrow = n;
        wide = wide;
        room = subst (λ (w : Written). w.length + 257 * (length shifts - 0) ≤ 4112) (sym e) (omega arith);
        rest = ap (λ (w : Written). appended w (page_text cell spreads shifts)) e;
      }

  module _ (rows : Written) (i : ℕ) (p : Stacking cell spreads shifts rows i) where
    pub stack_room : i < length shifts → rows.length + 16 * length spreads + 1 ≤ 4112
    stack_room h = omega (arith, p.room, p.narrow)

    pub stack_turn : {next : Written} → i < length shifts → next ≡ appended rows (row_text (cell (get_or shifts i nan)) spreads) → Stacking cell spreads shifts next (i + 1)
    unfolding page_text
    stack_turn {next} h n =
        record {
          within = omega arith;
          narrow = p.narrow;
          wide = p.wide;
          room = subst (λ (w : Written). w.length + 257 * (length shifts - (i + 1)) ≤ 4112) (sym n) (omega (arith, p.room, p.narrow, row-wide (cell (get_or shifts i nan)) (p.wide (get_or shifts i nan)) spreads));
          rest =
              ap (λ (w : Written). appended w (page_text cell spreads (drop (i + 1) shifts))) n
              ∙ twice rows (row_text (cell (get_or shifts i nan)) spreads) (page_text cell spreads (drop (i + 1) shifts))
              ∙ ap (λ (j : ℕ). appended rows (row_text (cell (get_or shifts i nan)) spreads ++ page_text cell spreads (drop j shifts))) (add-one i)
              ∙ ap (λ (z : List Float). appended rows (page_text cell spreads z)) (sym (drop-cons shifts i nan h))
              ∙ p.rest;
        }

    pub stack_done : length shifts ≤ i → rows ≡ appended empty (page_text cell spreads shifts)
    unfolding page_text put_at
    stack_done h = nothing ∙ ap (λ (z : List Float). appended rows (page_text cell spreads z)) (sym (drop_of_length-le shifts h)) ∙ p.rest
      where
        nothing : rows ≡ appended rows []
        nothing = ap (λ (z : ℕ). record { page = rows.page; length = z }) (sym (add-zero rows.length))

-- At most 16 rows of 257 bytes.
pub page-wide : (cell : Float → Float → List ℕ) → ((h s : Float) → length (cell h s) ≡ 16) → (spreads shifts : List Float) → length spreads ≤ 16 → length (page_text cell spreads shifts) ≤ 257 * length shifts
unfolding page_text
page-wide cell e spreads [] n = omega arith
page-wide cell e spreads (h ∷ shifts) n =
    subst (λ (z : ℕ). z ≤ 257 * suc (length shifts)) (sym (length-append (row_text (cell h) spreads) (page_text cell spreads shifts)))
    (omega (arith, row-wide (cell h) (e h) spreads, page-wide cell e spreads shifts n))

-- Each row is 16 bytes for a column and a newline.
pub page-long : (cell : Float → Float → List ℕ) → ((h s : Float) → length (cell h s) ≡ 16) → (spreads shifts : List Float) → length (page_text cell spreads shifts) ≡ length shifts * (16 * length spreads + 1)
unfolding page_text
page-long cell e spreads [] = sym (zero-mul (16 * length spreads + 1))
page-long cell e spreads (h ∷ shifts) =
    length-append (row_text (cell h) spreads) (page_text cell spreads shifts)
    ∙ ap (λ (z : ℕ). z + length (page_text cell spreads shifts)) (row-wide (cell h) (e h) spreads)
    ∙ ap (λ (z : ℕ). 16 * length spreads + 1 + z) (page-long cell e spreads shifts)
    ∙ add_comm (16 * length spreads + 1) (length shifts * (16 * length spreads + 1))
    ∙ sym (suc-mul (length shifts) (16 * length spreads + 1))

-- ---- the entry

neither : (a b : Bool) → (a || b) ≡ false → (a ≡ false) × (b ≡ false)
neither true b e = absurd (false≢true (sym e))
neither false b e = (refl, e)

-- Where it isn't 45, there are at most 16 of either.
pub few_of : (spreads shifts : List Float) {b : Bool} → b ≡ wrong_count spreads shifts → b ≡ false → (length spreads ≤ 16) × (length shifts ≤ 16)
few_of spreads shifts e t =
    let both = neither (outside 1 16 (length spreads)) (outside 1 16 (length shifts)) (sym e ∙ t) in
    let columns = neither (ltb (length spreads) 1) (ltb 16 (length spreads)) both.0 in
    let rows = neither (ltb (length shifts) 1) (ltb 16 (length shifts)) both.1 in
    (ltb-false 16 (length spreads) columns.1, ltb-false 16 (length shifts) rows.1)

-- The rows fit a page.
pub rows_fit : (cell : Float → Float → List ℕ) → ((h s : Float) → length (cell h s) ≡ 16) → (spreads shifts : List Float) {rows : Written} → length spreads ≤ 16 → length shifts ≤ 16 → rows ≡ appended empty (page_text cell spreads shifts) → rows.length ≤ 4112
rows_fit cell e spreads shifts few rows_few p =
    subst (λ (w : Written). w.length ≤ 4112) (sym p) (omega (arith, page-wide cell e spreads shifts few))

module _ (m : Market) (calls : CallSchedule) (spreads shifts : List Float) (before : Lent) {b : Bool} (tested : b ≡ wrong_count spreads shifts) where
  pub table-refused : {v : SpreadTable} → b ≡ true → v ≡ no_table → Tabled m calls spreads shifts v before before
  unfolding table_of
  table-refused t e =
      record {
        table = e ∙ sym (ap (λ (c : Bool). cond c no_table (printed (page_text (cell_at m calls (room_of before)) spreads shifts))) (sym tested ∙ t));
        slices = sym (ap (λ (c : Bool). cond c before (zeroed before)) (sym tested ∙ t));
      }

  pub table-printed : {v : SpreadTable} {rows : Written} {nodes : List ℤ} {probabilities first second : List Float} {a c d e : ℕ} → b ≡ false
      → rows ≡ appended empty (page_text (cell_at m calls (room_of before)) spreads shifts)
      → nodes ≡ replicate a (pos 0) → probabilities ≡ replicate c plus_zero → first ≡ replicate d plus_zero → second ≡ replicate e plus_zero
      → a ≡ length before.nodes → c ≡ length before.probabilities → d ≡ length before.first → e ≡ length before.second
      → length spreads ≤ 16 → length shifts ≤ 16
      → v ≡ as_table rows
      → Tabled m calls spreads shifts v before (record { nodes = nodes; probabilities = probabilities; first = first; second = second })
  unfolding table_of
  table-printed {rows = rows} t p n o q s f g h i few rowsfew e =
      record {
        table =
            e
            ∙ ap as_table p
            ∙ page_is (page_text (cell_at m calls (room_of before)) spreads shifts) (omega (arith, page-wide (cell_at m calls (room_of before)) (cell-wide m calls (room_of before)) spreads shifts few))
            ∙ sym (ap (λ (z : Bool). cond z no_table (printed (page_text (cell_at m calls (room_of before)) spreads shifts))) (sym tested ∙ t));
        slices = rw (n, o, q, s, f, g, h, i) (sym (ap (λ (z : Bool). cond z before (zeroed before)) (sym tested ∙ t)));
      }
