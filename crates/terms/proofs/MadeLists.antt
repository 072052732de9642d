-- The input checks of a call list made from an accepted one: refused with 4 where a strike is above 1,000,000, else accepted. A reordered list is accepted. Assumes nothing.
use Rattle.std.specs.Prelude.{◌≡◌, Ok, Err}
use Rattle.std.proofs.Common.{◌∙◌, arith}
use Rattle.floats.specs.Refusals.{Refusal}
use Rattle.floats.specs.declared.Reason.TheVariants as reason
use Rattle.terms.specs.declared.Settlement.{Settlement}
use Rattle.terms.specs.Terms.{CallSchedule, Bond, TimeGrid, Market}
use Rattle.terms.specs.Checks.{call_count}
use Rattle.terms.specs.Entries.{grid_checks, tree_checks}
use Rattle.terms.specs.CallLists.{MadeFrom, Reordered}
use Rattle.terms.specs.laws.CallChecks.{call-counted, call-count_of}
use Rattle.terms.specs.laws.Groups.{CallsPassed}
use Rattle.terms.specs.laws.GridChecks.{grid-terms, grid-calls, grid-passed, grid-strike-refused}
use Rattle.terms.specs.laws.TreeChecks.{tree-market, tree-calls, tree-passed, tree-strike-refused, tree-alike}
use Rattle.terms.specs.laws.MadeLists.{SomeAbove, AllWithin, made-days, made-ordered, made-strikes, made-refused, reordered-within}
use Rattle.terms.proofs.Pairing.{made-size}

module _ (first second : CallSchedule) (made : MadeFrom first second) where
  module _ (accepted : CallsPassed first) where
    pub made_counted : call_count second ≡ Ok tt
    made_counted =
        let shorter = made-size first second made in
        let few = (call-counted first accepted.counted).few in
        call-count_of second (record { entries = made.entries; few = omega arith })

    pub made-calls : AllWithin second → CallsPassed second
    made-calls h = record { counted = made_counted; days = made-days first second made accepted; strikes = made-strikes first second made accepted h; ordered = made-ordered first second made accepted }

  -- ---- the checks of the tree value

  pub tree-made-refused : (m : Market) → tree_checks m first ≡ Ok tt → SomeAbove second → (r : Refusal) × (tree_checks m second ≡ Err r) × (r.reason ≡ reason.Number)
  tree-made-refused m h s =
      let k = tree-calls m first h in
      let f = made-refused first second made s in
      (f.0, tree-strike-refused m second f.0 (tree-market m first h) (made_counted k) (made-days first second made k) f.1, f.2)

  pub tree-made-passed : (m : Market) → tree_checks m first ≡ Ok tt → AllWithin second → tree_checks m second ≡ Ok tt
  tree-made-passed m h w = tree-passed m second (tree-market m first h) (made-calls (tree-calls m first h) w)

  -- ---- the checks of the grid

  module _ (settlement : Settlement) (bond : Bond) (controls : TimeGrid) (h : grid_checks settlement bond first controls ≡ Ok tt) where
    pub grid-made-refused : SomeAbove second → (r : Refusal) × (grid_checks settlement bond second controls ≡ Err r) × (r.reason ≡ reason.Number)
    grid-made-refused s =
        let k = grid-calls settlement bond first controls h in
        let f = made-refused first second made s in
        (f.0, grid-strike-refused settlement bond second controls f.0 (grid-terms settlement bond first controls h) (made_counted k) (made-days first second made k) f.1, f.2)

    pub grid-made-passed : AllWithin second → grid_checks settlement bond second controls ≡ Ok tt
    grid-made-passed w =
        grid-passed settlement bond second controls (grid-terms settlement bond first controls h) (made-calls (grid-calls settlement bond first controls h) w)

-- ---- a reordered list

module _ (first second : CallSchedule) (r : Reordered first second) where
  pub reordered-calls : CallsPassed first → CallsPassed second
  reordered-calls k = made-calls first second r.made k (reordered-within first second r k)

  -- Whatever the tree's other checks say, they say it of both.
  pub tree-reordered-alike : (m : Market) → CallsPassed first → tree_checks m second ≡ tree_checks m first
  tree-reordered-alike m k = tree-alike m first second k (reordered-calls k)

  pub tree-reordered : (m : Market) → tree_checks m first ≡ Ok tt → tree_checks m second ≡ Ok tt
  tree-reordered m h = tree-reordered-alike m (tree-calls m first h) ∙ h

  pub grid-reordered : (settlement : Settlement) (bond : Bond) (controls : TimeGrid) → grid_checks settlement bond first controls ≡ Ok tt → grid_checks settlement bond second controls ≡ Ok tt
  grid-reordered settlement bond controls h =
      grid-passed settlement bond second controls (grid-terms settlement bond first controls h) (reordered-calls (grid-calls settlement bond first controls h))
