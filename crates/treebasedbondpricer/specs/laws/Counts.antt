-- How long the lists of a fitted tree are: a variance, a layer and a shift for each step, and at least one step. Assumes nothing.
use Rattle.std.specs.Prelude.{ℕ, zero, suc, ◌<◌, ◌≡◌, refl, false, List, [], ◌∷◌, length, T, pos, Float, Ok}
use Rattle.std.proofs.Common.{zero-lt-suc, ap, ◌∙◌}
use Rattle.std.specs.Float.{binary64}
use Rattle.std.specs.Float.Ieee.{div, of_int}
use Rattle.std.specs.Float.Ieee.Scale.{finite}
use Rattle.floats.specs.Answers.{Answer, plus_zero}
use Rattle.floats.specs.laws.Finite.{not_by_zero}
use Rattle.terms.specs.Numbers.{float}
use Rattle.terms.specs.Terms.{HullWhite, Market}
use Rattle.terms.specs.laws.Outcomes.{Gives, gives, given_of, gives-follow, gives-valued, gives-finite, gives-known}
use Rattle.hullwhite.specs.Variance.{step_variance, variances_from}
use Rattle.lattice.specs.Layers.{At, Room}
use Rattle.lattice.specs.Lattice.{Layer, lattice}
use Rattle.forwardinduction.specs.Fit.{weighted, shift_of, onward, shifts_from}
use Rattle.treebasedbondpricer.specs.Tree.{Fitted, fitted_tree_over}
use Rattle.lattice.specs.laws.Proper.{Proper}
use Rattle.lattice.proofs.theorems.Proper.{proper_of_lattice, layers_of_lattice}

variance-count : (model : HullWhite) (dt : Float) (count k : ℕ) → Gives (λ (vs : List Float). length vs ≡ count) (variances_from model dt count k)
unfolding variances_from
variance-count model dt zero k = gives refl
variance-count model dt (suc count) k =
    gives-valued (step_variance model dt k) _ λ v.
    gives-follow _ _ (variance-count model dt count (suc k)) λ vs e. gives (ap suc e)

shift_count : (curve : Float → ℕ → Answer) (dt : Float) (k : ℕ) (layers : List Layer) (row : List At) → Gives (λ (shifts : List Float). length shifts ≡ length layers) (shifts_from curve dt k layers row)
unfolding shifts_from
shift_count curve dt k [] row = gives refl
shift_count curve dt k (l ∷ layers) row =
    gives-valued (weighted l.spacing dt k row plus_zero) _ λ sum.
    gives-valued (shift_of curve dt k sum) _ λ shift.
    gives-known (onward l.spacing dt shift k l.transitions row []) _ λ next _.
    gives-follow _ _ (shift_count curve dt (suc k) layers next) λ shifts e. gives (ap suc e)

-- time_step is finite only with a step at least
steps-positive : (maturity : Float) (steps : ℕ) → T (finite (div binary64 maturity (float steps))) → 0 < steps
steps-positive maturity zero h = absurd (not_by_zero binary64 maturity false (pos 0) (unfold of_int in h))
steps-positive maturity (suc n) h = zero-lt-suc n

-- A fitted tree: proper, with a layer and a shift for each step, and a step at least.
pub record Ready (steps : ℕ) (f : Fitted) : Type 0 where
  pub proper : Proper f.tree.layers
  pub layer_count : length f.tree.layers ≡ steps
  pub shift_count : length f.shifts ≡ steps
  pub some-step : 0 < steps

tree-ready : (curve : Float → ℕ → Answer) (m : Market) (room : Room) (maturity : Float) (steps : ℕ) → Gives (Ready steps) (fitted_tree_over curve m room maturity steps)
unfolding fitted_tree_over
tree-ready curve m room maturity steps =
    let dt = div binary64 maturity (float steps) in
    gives-finite dt _ _ λ h.
    gives-follow _ _ (variance-count m.model dt steps 0) λ variances v.
    gives-known (lattice room m.model.alpha dt variances) _ λ tree t.
    gives-follow _ _ (shift_count curve dt 0 tree.layers _) λ shifts s.
    let l = layers_of_lattice room m.model.alpha dt variances tree t ∙ v in
    gives
    (record {
      proper = proper_of_lattice room m.model.alpha dt variances tree t;
      layer_count = l;
      shift_count = s ∙ l;
      some-step = steps-positive maturity steps h;
    })

-- Whatever fitted tree the terms and a curve give is such a tree.
pub ready_of_fitted : (curve : Float → ℕ → Answer) (m : Market) (room : Room) (maturity : Float) (steps : ℕ) (f : Fitted) → fitted_tree_over curve m room maturity steps ≡ Ok f → Ready steps f
ready_of_fitted curve m room maturity steps f e = given_of (tree-ready curve m room maturity steps) e
