-- Whatever the tree value refuses with has a number of its list, on which 24 is not. Assumes nothing.
use Rattle.floats.specs.Reasons.{reason_number}
use Rattle.std.specs.Prelude.{ℕ, ◌≡◌, refl, true, List, ◌∷◌, ℤ, Float, Ok, Err}
use Rattle.std.proofs.Common.{subst}
use Rattle.terms.specs.Numbers.{float}
use Rattle.terms.specs.Terms.{HullWhite, CallSchedule, Market}
use Rattle.terms.specs.Curve.{curve_over}
use Rattle.terms.specs.Entries.{market_checks, tree_checks}
use Rattle.floats.specs.Answers.{Outcome, follow, on_outcome}
use Rattle.bondevents.specs.declared.BondEventGrid.{BondEventGrid}
use Rattle.bondevents.specs.declared.CallStep.{CallStep}
use Rattle.bondevents.specs.Grid.{event_grid}
use Rattle.hullwhite.specs.Variance.{variances_from}
use Rattle.lattice.specs.Layers.{At, Room}
use Rattle.lattice.specs.Lattice.{Layer}
use Rattle.forwardinduction.specs.Fit.{shifts_from}
use Rattle.backwardinduction.specs.Walk.{walk_from}
use Rattle.treebasedbondpricer.specs.declared.TreeValue.{TreeValue}
use Rattle.treebasedbondpricer.specs.Tree.{fitted_tree_over, lattice_value_over, fitted_tree, lattice_value, tree_value, number_of}
use Rattle.floats.specs.laws.Cases.{Holds}
use Rattle.promises.specs.RefusalNumbers.{Among, tree_refusals, TreeNumbers}
use Rattle.promises.proofs.laws.Numbers.{one_of, one_more, every, wider, arithmetic_refusals, check_refusals, grid_refusals, walk_refusals, built_refusals, OutcomeAmong, CheckAmong, wider-outcome, wider_check, on_outcome_lem, on_check_lem, numbers}
use Rattle.promises.proofs.laws.GridNumbers.{checks-number, grid_number_lem}
use Rattle.promises.proofs.laws.LatticeNumbers.{variances-number, lattice-number}
use Rattle.promises.proofs.laws.WalkNumbers.{shifts-number, walk-number}

abbrev pub TreeAmong : List ℕ → Outcome TreeValue → Type 0
TreeAmong ns (Ok x) = Unit
TreeAmong ns (Err q) = Among ns (reason_number q.reason)

-- The tree value in which an outcome ends.
abbrev pub EndsAmong : List ℕ → Outcome (Outcome TreeValue) → Type 0
EndsAmong ns (Ok v) = TreeAmong ns v
EndsAmong ns (Err q) = Among ns (reason_number q.reason)

-- On any list that has all of these.
ends_in : (ns ms : List ℕ) → every ns ms ≡ true → (o : Outcome (Outcome TreeValue)) → Holds (EndsAmong ns) o → Holds (TreeAmong ms) (on_outcome o Err λ v. v)
unfolding on_outcome
ends_in ns ms e (Ok (Ok x)) h = record { it = tt }
ends_in ns ms e (Ok (Err q)) h = record { it = wider ns ms (reason_number q.reason) e h.it }
ends_in ns ms e (Err q) h = record { it = wider ns ms (reason_number q.reason) e h.it }

then_tree : {A : Type 0} {ns : List ℕ} (a : Outcome A) (k : A → Outcome (Outcome TreeValue)) → Holds (OutcomeAmong ns) a → ((x : A) → Holds (EndsAmong ns) (k x)) → Holds (EndsAmong ns) (on_outcome a Err k)
then_tree a k h = on_outcome_lem a Err k h (λ r l. record { it = l })

value-tree : {ns : List ℕ} (x : Float) (count : ℕ) → Holds (EndsAmong ns) (Ok (Ok (record { value = x; nodes = count })))
value-tree x count = record { it = tt }

-- the parts on the lists of the whole
pub checks-tree : (limit : Float) (m : Market) (calls : CallSchedule) → Holds (CheckAmong tree_refusals) (market_checks limit m calls)
checks-tree limit m calls = wider_check check_refusals tree_refusals refl _ (checks-number limit m calls)

variances-tree : (model : HullWhite) (dt : Float) (count k : ℕ) → Holds (OutcomeAmong built_refusals) (variances_from model dt count k)
variances-tree model dt count k = wider-outcome arithmetic_refusals built_refusals refl _ (variances-number model dt count k)

shifts-tree : (layers : List Layer) (times factors : List Float) (dt : Float) (k : ℕ) (row : List At) → Holds (OutcomeAmong built_refusals) (shifts_from (curve_over times factors) dt k layers row)
shifts-tree layers times factors dt k row = wider-outcome walk_refusals built_refusals refl _ (shifts-number layers times factors dt k row)

walk-tree : (layers : List Layer) (shifts : List Float) (dt spread : Float) (cashflows : List Float) (calls : List CallStep) (k : ℕ) (final : List ℤ) → Holds (OutcomeAmong built_refusals) (walk_from dt spread cashflows calls k layers shifts final)
walk-tree layers shifts dt spread cashflows calls k final = wider-outcome walk_refusals built_refusals refl _ (walk-number layers shifts dt spread cashflows calls k final)

fitted-number : (m : Market) (room : Room) (maturity : Float) (steps : ℕ) → Holds (OutcomeAmong built_refusals) (fitted_tree m room maturity steps)
unfolding fitted_tree_over
fitted-number m room maturity steps = search (variances-tree, lattice-number, shifts-tree, numbers)

lattice_value-number : (m : Market) (room : Room) (grid : BondEventGrid) → Holds (EndsAmong built_refusals) (lattice_value m room grid)
unfolding lattice_value_over
lattice_value-number m room grid = search (fitted-number, walk-tree, then_tree, value-tree)

-- A tree value has its numbers on any list that has its checks' numbers and those of what is built.
pub tree_among : (ns : List ℕ) → every built_refusals ns ≡ true → (m : Market) (calls : CallSchedule) (room : Room) → Holds (CheckAmong ns) (tree_checks m calls) → Holds (TreeAmong ns) (tree_value m calls room)
unfolding tree_value
tree_among ns e m calls room h =
    let grid = event_grid m.settlement m.bond calls m.controls in
    let made = wider-outcome grid_refusals built_refusals refl grid (grid_number_lem m.settlement m.bond calls m.controls) in
    on_check_lem (tree_checks m calls) Err _ h (λ r l. record { it = l })
    (ends_in built_refusals ns e (follow grid (lattice_value m room)) (then_tree grid (lattice_value m room) made (lattice_value-number m room)))

tree-number : (m : Market) (calls : CallSchedule) (room : Room) → Holds (TreeAmong tree_refusals) (tree_value m calls room)
unfolding tree_checks
tree-number m calls room = tree_among tree_refusals refl m calls room (checks-tree (float 1) m calls)

pub tree_numbers_lem : TreeNumbers
tree_numbers_lem m calls room q h = subst (TreeAmong tree_refusals) h (tree-number m calls room).it

-- A value has number 0.
pub or_0 : {ns : List ℕ} (v : Outcome TreeValue) → TreeAmong ns v → Among (0 ∷ ns) (number_of v)
or_0 (Ok x) h = one_of 0 refl
or_0 (Err q) h = one_more 0 (reason_number q.reason) h

-- 24 is never given.
pub tree_never_24 : (m : Market) (calls : CallSchedule) (room : Room) → number_of (tree_value m calls room) ≡ 24 → ⊥
tree_never_24 m calls room e = (subst (Among (0 ∷ tree_refusals)) e (or_0 (tree_value m calls room) (tree-number m calls room).it)).is_one
