-- Single calls that answer alike make one page. Assumes nothing.
use Rattle.std.specs.Prelude.{ℕ, ◌≡◌, refl, cond, List, [], ◌∷◌, ◌++◌, Float}
use Rattle.std.proofs.Common.{ap, ◌∙◌}
use Rattle.terms.specs.Terms.{CallSchedule, Market, with_spread}
use Rattle.lattice.specs.Layers.{Room}
use Rattle.treebasedbondpricer.specs.declared.TreeValue.{TreeValue}
use Rattle.floats.specs.Answers.{Outcome}
use Rattle.treebasedbondpricer.specs.Tree.{tree_value}
use Rattle.spreadtable.specs.Cells.{hash_cell, cell_text}
use Rattle.spreadtable.specs.Page.{row_text, page_text, printed, no_table}
use Rattle.spreadtable.specs.Table.{shifted, with_shift, any_outside, cell_at, wrong_count, table_of}
use Rattle.spreadtable.specs.laws.Filling.{same_cells}

same_pages : (f g : Float → Float → List ℕ) → ((h s : Float) → f h s ≡ g h s) → (spreads shifts : List Float) → page_text f spreads shifts ≡ page_text g spreads shifts
unfolding page_text
same_pages f g e spreads [] = refl
same_pages f g e spreads (h ∷ shifts) =
    ap (λ (z : List ℕ). z ++ page_text f spreads shifts) (same_cells (f h) (g h) (e h) spreads)
    ∙ ap (λ (z : List ℕ). row_text (g h) spreads ++ z) (same_pages f g e spreads shifts)

-- The market's own sigmas are read by the test for 46 alone.
pub same_table : (m n : Market) (first second : CallSchedule) (room : Room) → n.model.sigma.sigmas ≡ m.model.sigma.sigmas
    → ((h s : Float) → tree_value (with_spread (with_shift n h) s) second room ≡ tree_value (with_spread (with_shift m h) s) first room)
    → (spreads shifts : List Float) → table_of n second room spreads shifts ≡ table_of m first room spreads shifts
unfolding table_of cell_at
same_table m n first second room sigmas e spreads shifts =
    ap (λ (z : List ℕ). cond (wrong_count spreads shifts) no_table (printed z))
    (same_pages (cell_at n second room) (cell_at m first room)
    (λ h s.
    ap (λ (l : List Float). cond (any_outside (shifted h l)) (hash_cell 46) (cell_text (tree_value (with_spread (with_shift n h) s) second room))) sigmas
    ∙ ap (λ (v : Outcome TreeValue). cond (any_outside (shifted h m.model.sigma.sigmas)) (hash_cell 46) (cell_text v)) (e h s))
    spreads shifts)
