-- The tree's half of the call-list rule, over any curve: with calls dropped or their prices raised, and all else equal, the tree value is no lower, or is refused with 27. Assumes nothing.
use Rattle.std.specs.Prelude.{ℕ, ◌<◌, ◌≡◌, List, [], ◌∷◌, length, ℤ, pos, Float, Ok}
use Rattle.std.proofs.Common.{arith}
use Rattle.std.proofs.Math.Path.{subst₃}
use Rattle.std.specs.Float.Ieee.{of_bits}
use Rattle.floats.specs.Answers.{Answer, plus_zero, Outcome}
use Rattle.terms.specs.Terms.{Market}
use Rattle.terms.specs.laws.Lockstep.{Follows, given_both, follows-follow, follows_same, GivenOr27, given_or_27}
use Rattle.bondevents.specs.declared.CallStep.{CallStep}
use Rattle.bondevents.specs.declared.BondEventGrid.{BondEventGrid}
use Rattle.bondevents.specs.laws.NoLower.{NoLowerSteps, NoLowerGrid}
use Rattle.treebasedbondpricer.specs.declared.TreeValue.{TreeValue}
use Rattle.lattice.specs.Layers.{Room}
use Rattle.lattice.specs.Lattice.{Layer}
use Rattle.backwardinduction.specs.Walk.{walk_from}
use Rattle.treebasedbondpricer.specs.Tree.{fitted_tree_over, lattice_value_over}
use Rattle.lattice.specs.laws.Proper.{Proper}
use Rattle.treebasedbondpricer.specs.laws.Counts.{ready_of_fitted}
use Rattle.backwardinduction.specs.laws.Rising.{Higher, higher-refl, Rows, at_node}
use Rattle.backwardinduction.proofs.laws.WalkRising.{walk-higher}

-- Two values with the same node count, the second no lower than the first.
pub data Values : Outcome TreeValue → Outcome TreeValue → Type 0 where
  values : {x y : Float} {n : ℕ} → Higher x y → Values (Ok (record { value = x; nodes = n })) (Ok (record { value = y; nodes = n }))

-- A walk of at least one step.
some_walk : (dt spread : Float) (cashflows : List Float) (calls calls' : List CallStep) → NoLowerSteps calls calls' → (layers : List Layer) → Proper layers → (shifts : List Float) (final : List ℤ) (steps : ℕ) → length layers ≡ steps → length shifts ≡ steps → 0 < steps → Follows (Rows Higher) (walk_from dt spread cashflows calls 0 layers shifts final) (walk_from dt spread cashflows calls' 0 layers shifts final)
some_walk dt spread cashflows calls calls' lower [] ps shifts final steps e g h = absurd (omega arith)
some_walk dt spread cashflows calls calls' lower (l ∷ layers) ps [] final steps e g h = absurd (omega arith)
some_walk dt spread cashflows calls calls' lower (l ∷ layers) ps (shift ∷ shifts) final steps e g h =
    walk-higher dt spread cashflows calls calls' lower 0 l layers ps shift shifts final

-- Nothing of the fitted tree reads the calls, so it is the same for both.
value-follows : (curve : Float → ℕ → Answer) (m : Market) (room : Room) (maturity : Float) (steps : ℕ) (cashflows : List Float) (calls calls' : List CallStep) → NoLowerSteps calls calls' → Follows Values (lattice_value_over curve m room (record { maturity_time = maturity; steps = steps; cashflows = cashflows; calls = calls })) (lattice_value_over curve m room (record { maturity_time = maturity; steps = steps; cashflows = cashflows; calls = calls' }))
unfolding lattice_value_over of_bits
value-follows curve m room maturity steps cashflows calls calls' lower =
    follows_same (fitted_tree_over curve m room maturity steps) _ _ λ f e.
    let ready = ready_of_fitted curve m room maturity steps f e in
    follows-follow _ _ _ _
    (some_walk f.dt m.spread cashflows calls calls' lower f.tree.layers ready.proper f.shifts f.tree.final steps ready.layer_count ready.shift_count ready.some-step)
    λ row row' rows. given_both (values (at_node (pos 0) (higher-refl plus_zero tt) rows))

grid-follows : (curve : Float → ℕ → Answer) (m : Market) (room : Room) (first second : BondEventGrid) → NoLowerGrid first second → Follows Values (lattice_value_over curve m room first) (lattice_value_over curve m room second)
grid-follows curve m room first second g =
    subst₃
    (λ (maturity : Float) (steps : ℕ) (cashflows : List Float). Follows Values (lattice_value_over curve m room first) (lattice_value_over curve m room (record { maturity_time = maturity; steps = steps; cashflows = cashflows; calls = second.calls })))
    g.same_maturity
    g.same_steps_lem
    g.same_cashflows
    (value-follows curve m room first.maturity_time first.steps first.cashflows first.calls second.calls g.no_lower-steps)

-- If the first grid has a value, the second has one no lower, with the same node count, or it is refused with 27.
pub value-no_lower : (curve : Float → ℕ → Answer) (m : Market) (room : Room) (first second : BondEventGrid) → NoLowerGrid first second → (v : Outcome TreeValue) → lattice_value_over curve m room first ≡ Ok v → GivenOr27 (Values v) (lattice_value_over curve m room second)
value-no_lower curve m room first second g v e = given_or_27 (grid-follows curve m room first second g) e
