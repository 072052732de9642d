-- The tree value, part by part: its checks, its grid and its tree. Assumes nothing.
use Rattle.std.specs.Prelude.{ℕ, Float, Ok, Err}
use Rattle.std.proofs.Math.Path.{◌≡◌, refl}
use Rattle.std.proofs.Common.{sym, ap, ◌∙◌, arith}
use Rattle.floats.specs.Refusals.{Refusal}
use Rattle.floats.specs.Answers.{Answer, Check, Outcome, follow, on_outcome}
use Rattle.terms.specs.Terms.{CallSchedule, Market}
use Rattle.terms.specs.Checks.{on_check}
use Rattle.terms.specs.Entries.{tree_checks}
use Rattle.bondevents.specs.declared.BondEventGrid.{BondEventGrid}
use Rattle.bondevents.specs.Grid.{event_grid}
use Rattle.treebasedbondpricer.specs.declared.TreeValue.{TreeValue}
use Rattle.lattice.specs.Layers.{Room}
use Rattle.treebasedbondpricer.specs.Tree.{lattice_value_over, tree_value_over}

-- The grid of a market's bond with these calls.
abbrev pub grid_for : Market → CallSchedule → Outcome BondEventGrid
grid_for m calls = event_grid m.settlement m.bond calls m.controls

-- The checks are passed, the grid is given, and the tree has this value.
pub record Valued (curve : Float → ℕ → Answer) (m : Market) (calls : CallSchedule) (room : Room) (x : Float) (n : ℕ) : Type 0 where
  pub checked : tree_checks m calls ≡ Ok tt
  pub grid : BondEventGrid
  pub has-grid : grid_for m calls ≡ Ok grid
  pub has_value : lattice_value_over curve m room grid ≡ Ok (Ok (record { value = x; nodes = n }))

module _ (curve : Float → ℕ → Answer) (m : Market) (calls : CallSchedule) (room : Room) where
  -- The answer, given its checks and the outcome of its grid.
  pub answer_is : (c : Check) (o : Outcome BondEventGrid) → tree_checks m calls ≡ c → grid_for m calls ≡ o
      → tree_value_over curve m calls room ≡ on_check c Err (on_outcome (follow o λ grid. lattice_value_over curve m room grid) Err λ v. v)
  unfolding tree_value_over
  answer_is c o e h = rw (e, h)

  pub valued_as : (x : Float) (n : ℕ) → tree_value_over curve m calls room ≡ Ok (record { value = x; nodes = n }) → Valued curve m calls room x n
  unfolding on_check on_outcome
  valued_as x n h =
      go (tree_checks m calls) (grid_for m calls) refl refl
      (sym (answer_is (tree_checks m calls) (grid_for m calls) refl refl) ∙ h)
    where
      never : {A : Type 0} (r : Refusal) → ◌≡◌ {A = Outcome TreeValue} (Err r) (Ok (record { value = x; nodes = n })) → A
      never r e = let z : ◌≡◌ {A = ℕ} 0 1 = cc in absurd (omega arith)

      last : (o : Outcome (Outcome TreeValue)) → on_outcome o Err (λ v. v) ≡ Ok (record { value = x; nodes = n }) → o ≡ Ok (Ok (record { value = x; nodes = n }))
      last (Ok v) e = ap Ok e
      last (Err r) e = never r e

      go : (c : Check) (o : Outcome BondEventGrid) → tree_checks m calls ≡ c → grid_for m calls ≡ o
          → on_check c Err (on_outcome (follow o λ grid. lattice_value_over curve m room grid) Err λ v. v) ≡ Ok (record { value = x; nodes = n })
          → Valued curve m calls room x n
      go (Err r) o e g k = never r k
      go (Ok tt) (Err r) e g k = never r k
      go (Ok tt) (Ok grid) e g k = record { checked = e; grid = grid; has-grid = g; has_value = last (lattice_value_over curve m room grid) k }
