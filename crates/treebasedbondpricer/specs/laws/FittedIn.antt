-- A fitted tree in the slices: its layers as fit and walk ask, its counts, spacings and shifts beside them. Assumes nothing.
use Rattle.std.specs.Prelude.{ℕ, zero, suc, ◌≡◌, refl, Bool, List, ◌++◌, length, get_or, ℤ, Float, Ok, Err}
use Rattle.std.proofs.Common.{arith, sym, ap, subst, ◌∙◌, append-nil, drop_of_length-le}
use Rattle.floats.specs.Refusals.{Refusal}
use Rattle.floats.specs.Answers.{Answer, Check, Outcome, follow}
use Rattle.terms.specs.Terms.{HullWhite}
use Rattle.terms.specs.laws.Outcomes.{Gives, gives, given_of, gives-follow, gives-valued, follow-given, follow-refused}
use Rattle.hullwhite.specs.Variance.{transition_variances, variances_from, step_variance}
use Rattle.hullwhite.specs.laws.Filled.{check_of, Filled}
use Rattle.treebasedbondpricer.specs.declared.fitted.FittedTree.{FittedTree}
use Rattle.lattice.specs.Layers.{Room}
use Rattle.lattice.specs.Lattice.{Layer, Lattice, lattice, root_layer, all_flat}
use Rattle.forwardinduction.specs.Fit.{fitted, shifts_from}
use Rattle.treebasedbondpricer.specs.Tree.{Fitted}
use Rattle.forwardinduction.specs.laws.Found.{Found}
use Rattle.lattice.specs.laws.Laid.{layers_in}
use Rattle.lattice.specs.laws.LaidTree.{LaidTree, LaysTree}

-- Transitions, then the fit.
unfoldable pub fitted_with : (Float → ℕ → Answer) → Room → Float → Float → List Float → Outcome Fitted
unfolding lattice shifts_from
fitted_with curve room alpha dt variances =
    follow (lattice room alpha dt variances) λ tree.
    follow (fitted curve dt tree.layers) λ shifts. Ok (record { dt = dt; tree = tree; shifts = shifts })

-- Variances first.
abbrev pub fitted_over : (Float → ℕ → Answer) → HullWhite → Room → ℕ → Float → Outcome Fitted
fitted_over curve model room steps dt =
    follow (transition_variances model steps dt) λ variances. fitted_with curve room model.alpha dt variances

-- The fitted tree stands in the slices.
pub record FittedIn (f : Fitted) (dt : Float) (flat : Bool) (one two : ℕ) (counts : List ℕ) (spacings shifts : List Float) (nodes : List ℤ) (probabilities : List Float) : Type 0 where
  pub dt_is : f.dt ≡ dt
  pub stands : LaidTree flat one two 1 root_layer f.tree counts spacings nodes probabilities
  pub shifts_are : f.shifts ≡ shifts

-- What fitting promises.
pub data FitsTree (o : Outcome Fitted) (one two : ℕ) (counts : List ℕ) (spacings shifts : List Float) (nodes : List ℤ) (probabilities : List Float) : Outcome FittedTree → Type 0 where
  fits : {dt : Float} {flat : Bool} (f : Fitted) → o ≡ Ok f → FittedIn f dt flat one two counts spacings shifts nodes probabilities → FitsTree o one two counts spacings shifts nodes probabilities (Ok (record { dt = dt; flat = flat }))
  refuses : {q : Refusal} → o ≡ Err q → FitsTree o one two counts spacings shifts nodes probabilities (Err q)

-- ---- an outcome behind its check

-- What was given, where the check passed.
pub record Given {A : Type 0} (o : Outcome A) : Type 0 where
  pub content : A
  pub is : o ≡ Ok content

pub passed-given : {A : Type 0} (o : Outcome A) {r : Check} → r ≡ check_of o → r ≡ Ok tt → Given o
unfolding check_of
passed-given (Ok x) e p = record { content = x; is = refl }
passed-given (Err q) e p = absurd (let z : ◌≡◌ {A = ℕ} 0 1 = cc in omega arith)

pub refused_is : {A : Type 0} (o : Outcome A) {r : Check} {q : Refusal} → r ≡ check_of o → r ≡ Err q → o ≡ Err q
unfolding check_of
refused_is (Ok x) e p = absurd (let z : ◌≡◌ {A = ℕ} 0 1 = cc in omega arith)
refused_is (Err s) {q = q} e p = let z : s ≡ q = cc in ap Err z

-- ---- as many variances as steps

abbrev Counted : ℕ → List Float → Type 0
Counted n xs = length xs ≡ n

variances-counted : (model : HullWhite) (dt : Float) (count k : ℕ) → Gives (Counted count) (variances_from model dt count k)
unfolding variances_from
variances-counted model dt zero k = gives refl
variances-counted model dt (suc count) k =
    gives-valued (step_variance model dt k) _
    (λ v. gives-follow (variances_from model dt count (suc k)) _ (variances-counted model dt count (suc k)) (λ vs e. gives (ap suc e)))

-- The filled slice is the list of variances.
pub filled-whole : (model : HullWhite) (dt : Float) (steps : ℕ) {r : Check} {before after vs : List Float} → Filled (transition_variances model steps dt) r before after → length before ≡ steps → transition_variances model steps dt ≡ Ok vs → after ≡ vs
filled-whole model dt steps {before = before} {vs = vs} f l e =
    let n : length vs ≡ steps = given_of (variances-counted model dt steps 0) e in
    f.row vs e ∙ ap (λ (z : List Float). vs ++ z) (drop_of_length-le before {i = length vs} (omega (arith, n, l))) ∙ append-nil vs

-- ---- the fit from its parts

module _ (curve : Float → ℕ → Answer) (room : Room) (alpha dt : Float) (vs : List Float) where
  pub lattice-refused : {q : Refusal} → lattice room alpha dt vs ≡ Err q → fitted_with curve room alpha dt vs ≡ Err q
  unfolding fitted_with
  lattice-refused f = follow-refused (lattice room alpha dt vs) _ f

  module _ {t : Lattice} (f : lattice room alpha dt vs ≡ Ok t) where
    pub shifts-refused : {q : Refusal} → fitted curve dt t.layers ≡ Err q → fitted_with curve room alpha dt vs ≡ Err q
    unfolding fitted_with
    shifts-refused g = follow-given (lattice room alpha dt vs) _ f ∙ follow-refused (fitted curve dt t.layers) _ g

    pub all_given : {xs : List Float} → fitted curve dt t.layers ≡ Ok xs → fitted_with curve room alpha dt vs ≡ Ok (record { dt = dt; tree = t; shifts = xs })
    unfolding fitted_with
    all_given g = follow-given (lattice room alpha dt vs) _ f ∙ follow-given (fitted curve dt t.layers) _ g

-- ---- what the code's parts make together

-- The root stands alone in its layer.
pub root-count : {flat : Bool} {one two : ℕ} {numbers : List ℤ} {t : Lattice} {counts : List ℕ} {spacings : List Float} {nodes : List ℤ} {probabilities : List Float} → LaidTree flat one two 1 numbers t counts spacings nodes probabilities → get_or counts 0 0 ≡ 1
root-count l = ap (λ (z : List ℕ). get_or z 0 0) l.counted

module _ {o : Outcome Fitted} {one two : ℕ} {counts : List ℕ} {spacings shifts : List Float} {nodes : List ℤ} {probabilities : List Float} where
  -- The same promise of an equal outcome.
  pub fits_as : {u : Outcome Fitted} {r : Outcome FittedTree} → u ≡ o → FitsTree o one two counts spacings shifts nodes probabilities r → FitsTree u one two counts spacings shifts nodes probabilities r
  fits_as e (fits f g h) = fits f (e ∙ g) h
  fits_as e (refuses g) = refuses (e ∙ g)

  -- A refusal that is handed up.
  pub refused_as : {r : Outcome FittedTree} {q : Refusal} → r ≡ Err q → o ≡ Err q → FitsTree o one two counts spacings shifts nodes probabilities r
  refused_as e g = rw e (refuses g)

module _ (curve : Float → ℕ → Answer) (room : Room) (alpha dt : Float) (vs : List Float) {one two : ℕ} {counts : List ℕ} {spacings : List Float} {nodes : List ℤ} {probabilities : List Float} {l : Check} (laid : LaysTree (all_flat vs) one two 1 root_layer (lattice room alpha dt vs) l counts spacings nodes probabilities) where
  pub tree-refused : {q : Refusal} → l ≡ Err q → fitted_with curve room alpha dt vs ≡ Err q
  tree-refused e = lattice-refused curve room alpha dt vs (refused_is (lattice room alpha dt vs) laid.outcome e)

  module _ (passed : l ≡ Ok tt) {flat : Bool} (same : flat ≡ all_flat vs) where
    pub tree-given : Given (lattice room alpha dt vs)
    tree-given = passed-given (lattice room alpha dt vs) laid.outcome passed

    pub laid-tree : LaidTree flat one two 1 root_layer tree-given.content counts spacings nodes probabilities
    laid-tree = subst (λ (b : Bool). LaidTree b one two 1 root_layer tree-given.content counts spacings nodes probabilities) (sym same) (laid.tree tree-given.content tree-given.is)

    module _ {shifts : List Float} {s : Check} (found : Found (fitted curve dt (layers_in flat counts spacings nodes probabilities)) s shifts) where
      shifts-found : Found (fitted curve dt tree-given.content.layers) s shifts
      shifts-found = subst (λ (ls : List Layer). Found (fitted curve dt ls) s shifts) laid-tree.layers found

      pub fit_refused : {q : Refusal} → s ≡ Err q → fitted_with curve room alpha dt vs ≡ Err q
      fit_refused e = shifts-refused curve room alpha dt vs tree-given.is (refused_is _ shifts-found.outcome e)

      pub fit-fits : s ≡ Ok tt → FitsTree (fitted_with curve room alpha dt vs) one two counts spacings shifts nodes probabilities (Ok (record { dt = dt; flat = flat }))
      fit-fits e =
          let g = passed-given (fitted curve dt tree-given.content.layers) shifts-found.outcome e in
          fits _ (all_given curve room alpha dt vs tree-given.is g.is)
          (record { dt_is = refl; stands = laid-tree; shifts_are = sym (shifts-found.slice g.content g.is) })

-- The variances that were worked out, then the tree over them.
pub over-variances : (curve : Float → ℕ → Answer) (model : HullWhite) (room : Room) (steps : ℕ) (dt : Float) {one two : ℕ} {counts : List ℕ} {spacings shifts before after : List Float} {nodes : List ℤ} {probabilities : List Float} {v : Check} {r : Outcome FittedTree}
    → Filled (transition_variances model steps dt) v before after → length before ≡ steps → v ≡ Ok tt
    → FitsTree (fitted_with curve room model.alpha dt after) one two counts spacings shifts nodes probabilities r
    → FitsTree (fitted_over curve model room steps dt) one two counts spacings shifts nodes probabilities r
over-variances curve model room steps dt f l e t =
    let g = passed-given (transition_variances model steps dt) f.outcome e in
    let s = filled-whole model dt steps f l g.is in
    fits_as (follow-given (transition_variances model steps dt) _ g.is ∙ ap (fitted_with curve room model.alpha dt) (sym s)) t
