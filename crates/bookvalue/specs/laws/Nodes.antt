-- The nodes of a tree, three times, fit the probability slice. Assumes nothing.
use Prim.Native.Nat.{ℕ, zero, suc, ◌+◌, ◌*◌, ◌≤◌}
use native.Mathlib.Omega.{arith}
use Rattle.std.specs.Prelude.{◌≡◌, refl, Bool, cond, ℤ, Float, Ok, Err}
use Rattle.std.proofs.Math.Bool.{true, false}
use mathlib.Core.List.{List, [], ◌∷◌}
use Rattle.std.proofs.Math.ListN.{length}
use Rattle.std.specs.Float.Ieee.{binary64, div}
use Rattle.floats.specs.Refusals.{Refusal}
use Rattle.floats.specs.Answers.{Answer, Check, Outcome, on_outcome, refusal}
use Rattle.terms.specs.Numbers.{float}
use Rattle.terms.specs.Terms.{CallSchedule, Market}
use Rattle.terms.specs.Checks.{on_check}
use Rattle.terms.specs.Entries.{tree_checks}
use Rattle.terms.specs.laws.Outcomes.{Gives, gives, nothing, gives-follow, gives-valued, gives-finite, gives-known}
use Rattle.bondevents.specs.declared.BondEventGrid.{BondEventGrid}
use Rattle.bondevents.specs.Grid.{event_grid}
use Rattle.hullwhite.specs.Variance.{transition_variances}
use Rattle.lattice.specs.Layers.{Room, fits}
use Rattle.lattice.specs.Lattice.{Lattice, root_layer, flat_layer, destinations, transitions_of, step_of, spacing_of, decay_of, grown, flat, curved, all_flat, lattice, count_of, node_count}
use Rattle.lattice.specs.laws.RoomTest.{fitting}
use Rattle.treebasedbondpricer.specs.declared.TreeValue.{TreeValue}
use Rattle.treebasedbondpricer.specs.Tree.{Fitted, fitted_tree_over, lattice_value_over, tree_value_over, tree_value, curve_of}
use Rattle.floats.specs.declared.Reason.TheVariants as reason

module _ (room : Room) where
  -- So many nodes before, and those of a tree behind them.
  abbrev Threes : ℕ → Lattice → Type 0
  Threes before t = 3 * (before + node_count t) ≤ room.probabilities

  in_room : (all layer k : ℕ) {A : Type 0} {P : A → Type 0} (o : Outcome A) → (3 * all ≤ room.probabilities → Gives P o) → Gives P (cond (fits room all layer) o (refusal reason.NoRoom k))
  in_room all layer k {A} {P} o h = go (fits room all layer) refl
    where
      go : (b : Bool) → fits room all layer ≡ b → Gives P (cond b o (refusal reason.NoRoom k))
      go true e = h (fitting room all layer e).threes
      go false e = nothing

  grown-threes : (decay spacing : Float) (before : ℕ) (nodes : List ℤ) (k : ℕ) (vs : List Float) → 3 * (before + length nodes) ≤ room.probabilities → Gives (Threes before) (grown room decay spacing before nodes k vs)
  unfolding grown count_of
  grown-threes decay spacing before nodes k [] h = let p : Threes before (record { layers = []; final = nodes }) = omega arith in gives p
  grown-threes decay spacing before nodes k (v ∷ vs) h =
      gives-known (step_of spacing decay v k) _ λ s _.
      gives-known (transitions_of s nodes) _ λ ts _.
      in_room (before + length nodes + length (destinations ts)) (length (destinations ts)) (suc k) _ λ m.
      gives-follow _ _ (grown-threes decay s.new_spacing (before + length nodes) (destinations ts) (suc k) vs m) λ rest p.
      let q : Threes before (record { layers = record { nodes = nodes; transitions = ts; spacing = spacing } ∷ rest.layers; final = rest.final }) = omega arith in gives q

  flat-threes : (k left : ℕ) → Gives (Threes k) (flat room k left)
  unfolding flat count_of
  flat-threes k zero = in_room (k + 1) 1 k _ λ m. let p : Threes k (record { layers = []; final = root_layer }) = omega arith in gives p
  flat-threes k (suc left) = in_room (k + 1) 1 k _ λ m. gives-follow _ _ (flat-threes (suc k) left) λ rest p. let q : Threes k (record { layers = flat_layer ∷ rest.layers; final = rest.final }) = omega arith in gives q

  curved-threes : (alpha dt v : Float) (vs : List Float) → Gives (Threes 0) (curved room alpha dt (v ∷ vs))
  unfolding curved
  curved-threes alpha dt v vs =
      gives-valued (decay_of alpha dt) _ λ decay.
      gives-valued (spacing_of v 0) _ λ spacing. in_room 1 1 0 _ λ m. grown-threes decay spacing 0 root_layer 0 (v ∷ vs) (omega arith)

  alone : (o : Outcome Lattice) → Gives (Threes 0) o → Gives (λ (t : Lattice). 3 * node_count t ≤ room.probabilities) o
  alone o (gives {x = t} p) = let q : 3 * node_count t ≤ room.probabilities = omega arith in gives q
  alone o nothing = nothing

  lattice-threes : (alpha dt : Float) (vs : List Float) → Gives (λ (t : Lattice). 3 * node_count t ≤ room.probabilities) (lattice room alpha dt vs)
  unfolding lattice all_flat
  lattice-threes alpha dt [] = alone _ (flat-threes 0 0)
  lattice-threes alpha dt (v ∷ vs) = go (all_flat (v ∷ vs))
    where
      go : (b : Bool) → Gives (λ (t : Lattice). 3 * node_count t ≤ room.probabilities) (cond b (flat room 0 (length (v ∷ vs))) (curved room alpha dt (v ∷ vs)))
      go true = alone _ (flat-threes 0 (length (v ∷ vs)))
      go false = alone _ (curved-threes alpha dt v vs)

  -- A value's count.
  pub data Counted : Outcome TreeValue → Type 0 where
    few : {x : Float} {n : ℕ} → 3 * n ≤ room.probabilities → Counted (Ok (record { value = x; nodes = n }))
    none : {r : Refusal} → Counted (Err r)

  fitted-threes : (curve : Float → ℕ → Answer) (m : Market) (maturity : Float) (steps : ℕ) → Gives (λ (f : Fitted). 3 * node_count f.tree ≤ room.probabilities) (fitted_tree_over curve m room maturity steps)
  unfolding fitted_tree_over
  fitted-threes curve m maturity steps =
      let dt = div binary64 maturity (float steps) in
      gives-finite dt _ _ λ h.
      gives-known (transition_variances m.model steps dt) _ λ vs _.
      gives-follow _ _ (lattice-threes m.model.alpha dt vs) λ tree p.
      gives-known _ _ λ shifts _. gives p

  value-threes : (curve : Float → ℕ → Answer) (m : Market) (grid : BondEventGrid) → Gives Counted (lattice_value_over curve m room grid)
  unfolding lattice_value_over
  value-threes curve m grid =
      gives-follow _ _ (fitted-threes curve m grid.maturity_time grid.steps) λ f p.
      gives-known _ _ λ row _. gives (few p)

  as_value : (o : Outcome (Outcome TreeValue)) → Gives Counted o → Counted (on_outcome o Err λ v. v)
  unfolding on_outcome
  as_value o (gives p) = p
  as_value o nothing = none

  checked : (c : Check) (v : Outcome TreeValue) → Counted v → Counted (on_check c Err v)
  unfolding on_check
  checked (Ok tt) v h = h
  checked (Err r) v h = none

  pub counted : (m : Market) (calls : CallSchedule) → Counted (tree_value m calls room)
  unfolding tree_value tree_value_over
  counted m calls =
      checked (tree_checks m calls) _
      (as_value _ (gives-known (event_grid m.settlement m.bond calls m.controls) _ λ grid _. value-threes (curve_of m) m grid))
