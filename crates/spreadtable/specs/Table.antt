-- Definitions only. The spread by sigma table, cell by cell.
use Rattle.std.specs.Prelude.{ℕ, ◌≡◌, Bool, false, cond, ◌||◌, List, [], ◌∷◌, map, length, Float}
use Rattle.std.specs.Float.{binary64}
use Rattle.std.specs.Float.Ieee.{add}
use Rattle.terms.specs.Numbers.{float}
use Rattle.terms.specs.Terms.{CallSchedule, Market, with_spread}
use Rattle.terms.specs.Checks.{outside, not_up_to}
use Rattle.lattice.specs.Layers.{Room}
use Rattle.treebasedbondpricer.specs.Tree.{tree_value, Lent, room_of, zeroed}
use Rattle.spreadtable.specs.declared.SpreadTable.{SpreadTable}
use Rattle.spreadtable.specs.Cells.{hash_cell, cell_text}
use Rattle.spreadtable.specs.Page.{page_text, printed, no_table}

-- The shift added to every sigma.
abbrev pub shifted : Float → List Float → List Float
shifted shift sigmas = map (λ s. add binary64 s shift) sigmas

-- The same terms with other sigmas.
abbrev pub with_sigmas : Market → List Float → Market
with_sigmas m sigmas =
    record {
      settlement = m.settlement;
      bond = m.bond;
      controls = m.controls;
      model = record { alpha = m.model.alpha; sigma = record { times = m.model.sigma.times; sigmas = sigmas } };
      spread = m.spread;
      pillars = m.pillars;
    }

abbrev pub with_shift : Market → Float → Market
with_shift m shift = with_sigmas m (shifted shift m.model.sigma.sigmas)

-- A sigma not finite or outside 0 to 10.
unfoldable pub any_outside : List Float → Bool
any_outside [] = false
any_outside (s ∷ sigmas) = not_up_to (float 10) s || any_outside sigmas

-- 46 ahead of any other refusal; else the value of a single call with that spread and with the shift added to every sigma.
unfoldable pub cell_at : Market → CallSchedule → Room → Float → Float → List ℕ
unfolding any_outside cell_text hash_cell tree_value add
cell_at m calls room shift spread =
    cond
    (any_outside (shifted shift m.model.sigma.sigmas))
    (hash_cell 46)
    (cell_text (tree_value (with_spread (with_shift m shift) spread) calls room))

-- 45: no spreads or shifts, or more than 16 of either.
abbrev pub wrong_count : List Float → List Float → Bool
wrong_count spreads shifts = outside 1 16 (length spreads) || outside 1 16 (length shifts)

-- A row for each shift and a column for each spread. The market's own spread isn't read.
unfoldable pub table_of : Market → CallSchedule → Room → List Float → List Float → SpreadTable
unfolding page_text cell_at
table_of m calls room spreads shifts = cond (wrong_count spreads shifts) no_table (printed (page_text (cell_at m calls room) spreads shifts))

-- 45 writes no slice; otherwise they are left all zero.
abbrev pub lent_after : List Float → List Float → Lent → Lent
lent_after spreads shifts l = cond (wrong_count spreads shifts) l (zeroed l)

-- What the table's entry promises: the page with its length, and the end content of the lent slices.
pub record Tabled (m : Market) (calls : CallSchedule) (spreads shifts : List Float) (answer : SpreadTable) (before after : Lent) : Type 0 where
  pub table : answer ≡ table_of m calls (room_of before) spreads shifts
  pub slices : after ≡ lent_after spreads shifts before
