-- Spread from price of terms whose widths are known: over a tree that is laid whole never 21, or 21 for want of room, or stopped before the fit for another cause. Assumes nothing.
use Rattle.floats.specs.Reasons.{reason_number}
use Rattle.std.specs.Prelude.{ℕ, ◌≡◌, List, Float, Ok, Err}
use Rattle.std.proofs.Common.{arith, ap, ◌∙◌}
use Rattle.std.proofs.Math.Path.{refl}
use Rattle.floats.specs.Refusals.{Refusal}
use Rattle.floats.specs.Answers.{Check, Outcome, follow, on_outcome}
use Rattle.terms.specs.Numbers.{target_limit}
use Rattle.terms.specs.Terms.{CallSchedule, Market, with_spread}
use Rattle.terms.specs.Checks.{on_check}
use Rattle.terms.specs.Entries.{spread_checks}
use Rattle.terms.specs.laws.Outcomes.{follow-refused}
use Rattle.bondevents.specs.declared.BondEventGrid.{BondEventGrid}
use Rattle.bondevents.specs.Grid.{event_grid}
use Rattle.lattice.specs.Layers.{Room}
use Rattle.lattice.specs.Lattice.{Lattice}
use Rattle.lattice.specs.laws.RoomTest.{Fitting}
use Rattle.treebasedbondpricer.specs.Tree.{tree_value, number_of, curve_of}
use Rattle.brackets.specs.declared.Root.{Root}
use Rattle.brackets.specs.Brackets.{Searched, no_root, root_number, root_place}
use Rattle.spreads.specs.Spreads.{Quoted, at_spread, quoted_checks, solve_spread, spread_from_price}
use Rattle.spreads.specs.laws.SpreadTree.{grid-refused-at_first, tree-refused-at_first}
use Rattle.widths.specs.Widths.{total, widest}
use Rattle.sizing.specs.Sizing.{tree_widths}
use Rattle.promises.specs.Sizing.{before_fit, Answered}
use Rattle.promises.proofs.laws.Converges.{Settles}
use Rattle.promises.proofs.laws.Numbers.{check_refusals, grid_refusals, OutcomeAmong, CheckAmong}
use Rattle.promises.proofs.laws.GridNumbers.{checks-number, grid_number_lem}
use Rattle.promises.proofs.laws.SpreadNumbers.{solved_with}
use Rattle.promises.proofs.laws.SizedLayers.{Sized, all_laid, no_room, stopped_by}
use Rattle.promises.proofs.laws.SizedValues.{layers_at, fit_of, fitted_from_layers, grid-sized, fits_from_none, fits_to_none, not_of_checks, not_of_grid, Ends, after-layers, without_room, before-layers, ends_not_21, tree-ends}

-- Number 0 where a spread is found.
abbrev pub root_refusal : Searched Root → Answered
root_refusal r = record { number = root_number r; place = root_place r }

abbrev Not21 : ℕ → Type 0
Not21 n = n ≡ 21 → ⊥

settled_not_21 : (r : Searched Root) → Settles Not21 r → root_number r ≡ 21 → ⊥
settled_not_21 (Ok x) h e = omega arith
settled_not_21 (Err q) h e = h e

-- No width rests on the spread.
pub widths_any_spread : (m : Market) (s : Float) (slice : ℕ) → tree_widths (with_spread m s) slice ≡ tree_widths m slice
unfolding tree_widths
widths_any_spread m s slice = refl

module _ (asked : Quoted) (calls : CallSchedule) (slice : ℕ) (room : Room) (ws : List ℕ) (e : tree_widths (at_spread asked asked.target) slice ≡ Ok ws) where
  abbrev m : Market
  m = at_spread asked asked.target

  abbrev solved : Searched Root
  solved = solve_spread asked calls room

  never : Fitting room (total ws) (widest ws) → (s : Float) (q : Refusal) → tree_value (at_spread asked s) calls room ≡ Err q → Not21 (reason_number q.reason)
  never f s q h n = ends_not_21 f (tree-ends (at_spread asked s) calls slice room ws (widths_any_spread m s slice ∙ e)) (ap number_of h ∙ n)

  laid_settles : Fitting room (total ws) (widest ws) → Settles Not21 solved
  laid_settles f = solved_with asked calls room Not21 (λ z. omega (arith, z)) (λ z. omega (arith, z)) (λ z. omega (arith, z)) (never f)

  module _ (passed : quoted_checks asked calls ≡ Ok tt) (g : BondEventGrid) (has-grid : event_grid m.settlement m.bond calls m.controls ≡ Ok g) where
    first_try : (q : Refusal) → layers_at m room g.maturity_time g.steps ≡ Err q → solved ≡ no_root q 1
    first_try q k =
        tree-refused-at_first asked calls room passed has-grid
        (fitted_from_layers (curve_of m) m g room ∙ follow-refused (layers_at m room g.maturity_time g.steps) (fit_of (curve_of m) m g room) k)

    on_layers : (o : Outcome Lattice) → layers_at m room g.maturity_time g.steps ≡ o → Sized room 0 ws o → Ends room ws o (root_refusal solved)
    on_layers (Ok t) k (all_laid p f) = after-layers (fits_from_none f) (settled_not_21 solved (laid_settles (fits_from_none f)))
    on_layers (Err q) k (no_room ne) = rw (first_try q k) (without_room λ f. ne (fits_to_none f))
    on_layers (Err q) k (stopped_by ne) = rw (first_try q k) (before-layers ne)

  on_grid : quoted_checks asked calls ≡ Ok tt → (o : Outcome BondEventGrid) → event_grid m.settlement m.bond calls m.controls ≡ o → OutcomeAmong grid_refusals o
      → Ends room ws (follow o λ g. layers_at m room g.maturity_time g.steps) (root_refusal solved)
  unfolding on_outcome
  on_grid passed (Ok g) h n = on_layers passed g h (layers_at m room g.maturity_time g.steps) refl (grid-sized m calls slice room ws g e h)
  on_grid passed (Err q) h n = rw (grid-refused-at_first asked calls room passed h) (before-layers (not_of_grid q n))

  checked : (c : Check) → quoted_checks asked calls ≡ c → CheckAmong check_refusals c
      → Ends room ws (on_check c Err (follow (event_grid m.settlement m.bond calls m.controls) λ g. layers_at m room g.maturity_time g.steps))
      (root_refusal (on_check c (λ r. no_root r 0) solved))
  unfolding on_check
  checked (Ok tt) p n = on_grid p (event_grid m.settlement m.bond calls m.controls) refl (grid_number_lem m.settlement m.bond calls m.controls).it
  checked (Err q) p n = before-layers (not_of_checks q n)

  pub spread-ends : Ends room ws (before_fit (quoted_checks asked calls) m calls room) (root_refusal (spread_from_price asked calls room))
  unfolding spread_from_price spread_checks before_fit
  spread-ends = checked (quoted_checks asked calls) refl (checks-number target_limit m calls).it
