-- The tree is fitted once for all spreads that are tried: what doesn't read the spread refuses at the first try, and each try walks back over the same tree. Assumes nothing.
use Rattle.std.specs.Prelude.{ℕ, ◌≡◌, Bool, List, pos, Float, Ok, Err}
use Rattle.std.proofs.Math.Path.{refl, ap}
use Rattle.std.proofs.Common.{◌∙◌}
use Rattle.std.proofs.Math.Bool.{true, false, cond}
use Rattle.std.specs.Float.Ieee.{binary64, of_bits, of_int, sub, neg, lt}
use Rattle.floats.specs.Refusals.{Refusal}
use Rattle.floats.specs.Answers.{Answer, one, refusal, tested, follow, on_outcome, Check, Outcome}
use Rattle.floats.specs.Extremes.{max_of}
use Rattle.terms.specs.Numbers.{float}
use Rattle.terms.specs.Terms.{CallSchedule, Market}
use Rattle.terms.specs.Checks.{on_check, single, beyond, within}
use Rattle.terms.specs.laws.Outcomes.{follow-given, follow-refused}
use Rattle.terms.specs.laws.TreeChecks.{spread-tried}
use Rattle.bondevents.specs.declared.BondEventGrid.{BondEventGrid}
use Rattle.bondevents.specs.declared.CallStep.{CallStep}
use Rattle.bondevents.specs.Grid.{event_grid}
use Rattle.treebasedbondpricer.specs.declared.TreeValue.{TreeValue}
use Rattle.lattice.specs.Layers.{At, value_at, Room}
use Rattle.backwardinduction.specs.Walk.{walk_from}
use Rattle.lattice.specs.Lattice.{node_count}
use Rattle.treebasedbondpricer.specs.Tree.{Fitted, fitted_tree_over, lattice_value_over, fitted_tree, lattice_value, tree_value}
use Rattle.treebasedbondpricer.specs.laws.Valued.{row_over}
use Rattle.backwardinduction.specs.laws.WalkRoot.{root_of}
use Rattle.brackets.specs.declared.Root.{Root}
use Rattle.brackets.specs.Brackets.{Searched, no_root, bracketed_root}
use Rattle.sought.specs.Objectives.{first_lower, first_upper}
use Rattle.spreads.specs.Spreads.{Quoted, at_spread, quoted_checks, on_tree_value, spread_objective, solve_spread}
use Rattle.floats.specs.declared.Reason.TheVariants as reason

-- The value less the target at a spread, over a tree that is fitted.
unfoldable pub walked_at : Float → List Float → List CallStep → Fitted → Float → Answer
unfolding walk_from on_outcome sub lt
walked_at target cashflows calls f s =
    cond (lt one s) (refusal reason.SpreadAbove 0)
    (cond (beyond (float 1) s) (refusal reason.Number 0)
    (follow (root_of (row_over s cashflows calls f)) λ x. tested (sub binary64 x target) 0))

-- The root over a fitted tree; a refusal before the walk is met at the first try.
unfoldable pub found_over : Float → List Float → List CallStep → Outcome Fitted → Searched Root
unfolding bracketed_root walked_at on_outcome
found_over target cashflows calls o =
    on_outcome o (λ q. no_root q 1) λ f. bracketed_root (walked_at target cashflows calls f) first_lower first_upper (neg one)

-- The same over a grid.
unfoldable pub found_on : Market → Room → Float → Outcome BondEventGrid → Searched Root
unfolding found_over fitted_tree_over
found_on m room target o =
    on_outcome o (λ q. no_root q 1) λ g. found_over target g.cashflows g.calls (fitted_tree m room g.maturity_time g.steps)

-- A first try that refuses is the answer.
stopped : (a : Answer) (stop : Refusal → Searched Root) (go : Float → Searched Root) {q : Refusal} → a ≡ Err q → on_outcome a stop go ≡ stop q
unfolding on_outcome
stopped a stop go e = ap (λ (z : Answer). on_outcome z stop go) e

refused_first : (objective : Float → Answer) (lower upper lowest : Float) {q : Refusal} → objective (max_of lower lowest) ≡ Err q → bracketed_root objective lower upper lowest ≡ no_root q 1
unfolding bracketed_root
refused_first objective lower upper lowest e = stopped (objective (max_of lower lowest)) (λ r. no_root r 1) _ e

lower_first : max_of first_lower (neg one) ≡ first_lower
unfolding max_of lt neg of_bits
lower_first = refl

module _ (asked : Quoted) (calls : CallSchedule) (room : Room) (passed : quoted_checks asked calls ≡ Ok tt) where
  abbrev target : Float
  target = asked.target

  abbrev m : Market
  m = at_spread asked target

  abbrev grid : Outcome BondEventGrid
  grid = event_grid m.settlement m.bond calls m.controls

  -- The value at a tried spread that is an input of the tree.
  tried : (s : Float) → within (float 1) s ≡ Ok tt → tree_value (at_spread asked s) calls room ≡ on_outcome (follow grid λ g. lattice_value (at_spread asked s) room g) Err λ v. v
  unfolding tree_value on_check
  tried s h = ap (λ (c : Check). on_check c Err (on_outcome (follow grid λ g. lattice_value (at_spread asked s) room g) Err λ v. v)) (spread-tried m calls s passed ∙ h)

  -- One that is no input refuses as the tree value does.
  no_input : (s : Float) {q : Refusal} → within (float 1) s ≡ Err q → tree_value (at_spread asked s) calls room ≡ Err q
  unfolding tree_value on_check
  no_input s h = ap (λ (c : Check). on_check c Err (on_outcome (follow grid λ g. lattice_value (at_spread asked s) room g) Err λ v. v)) (spread-tried m calls s passed ∙ h)

  -- ---- refused before the walk

  first_try : {q : Refusal} → spread_objective asked calls room first_lower ≡ Err q → solve_spread asked calls room ≡ no_root q 1
  first_try {q} e = refused_first (spread_objective asked calls room) first_lower first_upper (neg one) (ap (spread_objective asked calls room) lower_first ∙ e)

  refused-at_first : {q : Refusal} → (follow grid λ g. lattice_value (at_spread asked first_lower) room g) ≡ Err q → solve_spread asked calls room ≡ no_root q 1
  unfolding spread_objective on_tree_value on_outcome of_bits of_int
  refused-at_first {q} e =
      first_try (ap (λ (v : Outcome TreeValue). on_tree_value v Err λ x. tested (sub binary64 x target) 0)
      (tried first_lower refl ∙ ap (λ (o : Outcome (Outcome TreeValue)). on_outcome o Err λ v. v) e))

  pub grid-refused-at_first : {q : Refusal} → grid ≡ Err q → solve_spread asked calls room ≡ no_root q 1
  grid-refused-at_first e = refused-at_first (follow-refused grid _ e)

  module _ {g : BondEventGrid} (has-grid : grid ≡ Ok g) where
    pub tree-refused-at_first : {q : Refusal} → fitted_tree m room g.maturity_time g.steps ≡ Err q → solve_spread asked calls room ≡ no_root q 1
    unfolding lattice_value_over
    tree-refused-at_first e = refused-at_first (follow-given grid _ has-grid ∙ follow-refused (fitted_tree m room g.maturity_time g.steps) _ e)

    -- ---- each try over the same tree

    module _ {f : Fitted} (has-tree : fitted_tree m room g.maturity_time g.steps ≡ Ok f) where
      with_count : (o : Outcome (List At)) (n : ℕ) → on_tree_value (on_outcome (follow o λ row. Ok (Ok (record { value = (value_at (pos 0) row); nodes = n }))) Err λ v. v) Err (λ x. tested (sub binary64 x target) 0) ≡ follow (root_of o) λ x. tested (sub binary64 x target) 0
      unfolding on_outcome on_tree_value
      with_count (Ok row) n = refl
      with_count (Err q) n = refl

      tried-value : (s : Float) → within (float 1) s ≡ Ok tt → on_tree_value (tree_value (at_spread asked s) calls room) Err (λ x. tested (sub binary64 x target) 0) ≡ follow (root_of (row_over s g.cashflows g.calls f)) λ x. tested (sub binary64 x target) 0
      unfolding lattice_value_over
      tried-value s h =
          ap (λ (v : Outcome TreeValue). on_tree_value v Err λ x. tested (sub binary64 x target) 0)
          (tried s h ∙ ap (λ (o : Outcome (Outcome TreeValue)). on_outcome o Err λ v. v) (follow-given grid _ has-grid ∙ follow-given (fitted_tree m room g.maturity_time g.steps) _ has-tree))
          ∙ with_count (row_over s g.cashflows g.calls f) (node_count f.tree)

      pub tried_as : (s : Float) → spread_objective asked calls room s ≡ walked_at target g.cashflows g.calls f s
      unfolding spread_objective walked_at on_tree_value
      tried_as s = go (lt one s) (beyond (float 1) s) refl
        where
          go : (b d : Bool) → beyond (float 1) s ≡ d
              → cond b (refusal reason.SpreadAbove 0) (on_tree_value (tree_value (at_spread asked s) calls room) Err λ x. tested (sub binary64 x target) 0)
              ≡ cond b (refusal reason.SpreadAbove 0) (cond d (refusal reason.Number 0) (follow (root_of (row_over s g.cashflows g.calls f)) λ x. tested (sub binary64 x target) 0))
          go true d e = refl
          go false true e = ap (λ (v : Outcome TreeValue). on_tree_value v Err λ x. tested (sub binary64 x target) 0) (no_input s (ap (single reason.Number 0) e))
          go false false e = tried-value s (ap (single reason.Number 0) e)

      pub solved_as : solve_spread asked calls room ≡ bracketed_root (walked_at target g.cashflows g.calls f) first_lower first_upper (neg one)
      solved_as = ap (λ (objective : Float → Answer). bracketed_root objective first_lower first_upper (neg one)) (λ i s. tried_as s i)

  -- The definition, with the tree fitted once.
  pub fitted-once : solve_spread asked calls room ≡ found_on m room target grid
  unfolding found_on found_over on_outcome
  fitted-once = go grid refl
    where
      over : {g : BondEventGrid} → grid ≡ Ok g → (o : Outcome Fitted) → fitted_tree m room g.maturity_time g.steps ≡ o → solve_spread asked calls room ≡ found_over target g.cashflows g.calls o
      over e (Ok f) h = solved_as e h
      over e (Err q) h = tree-refused-at_first e h

      go : (o : Outcome BondEventGrid) → grid ≡ o → solve_spread asked calls room ≡ found_on m room target o
      go (Ok g) e = over e (fitted_tree m room g.maturity_time g.steps) refl
      go (Err q) e = grid-refused-at_first e
