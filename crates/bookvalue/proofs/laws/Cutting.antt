-- What is cut for a bond that passed its checks: as long as the tree value wants it, and worth the bond's tree value. Assumes nothing.
use Rattle.std.specs.Prelude.{◌≤◌, ◌≡◌, refl, List, length, Float, Ok}
use Rattle.std.proofs.Common.{sym, ap, ◌∙◌}
use Rattle.floats.specs.Answers.{Outcome}
use Rattle.terms.specs.Terms.{CallSchedule, Market}
use Rattle.terms.specs.Curve.{pillar_times, CurveTimes}
use Rattle.terms.specs.Entries.{tree_checks}
use Rattle.terms.specs.laws.TreeChecks.{tree-grid, tree-few-pillars}
use Rattle.bondevents.proofs.Grids.{settled, leg-sized, calls-sized, puts-sized}
use Rattle.lattice.specs.Layers.{Room}
use Rattle.treebasedbondpricer.specs.declared.TreeValue.{TreeValue}
use Rattle.treebasedbondpricer.specs.Tree.{tree_value}
use Rattle.treebasedbondpricer.specs.laws.Entered.{value_on, value_of-checked}
use Rattle.bookchecks.specs.declared.Holding.{Holding}
use Rattle.bookchecks.specs.Book.{Shared, Lists, market_of, calls_of}
use Rattle.bookchecks.specs.Checks.{bond_check}
use Rattle.bookvalue.proofs.laws.Entered.{tree-passed}

-- What the tree value asks of checked terms.
abbrev pub Sizes : Market → CallSchedule → Type 0
Sizes m calls =
    ((1 ≤ m.controls.maximum) × (m.controls.maximum ≤ 512))
    × ((length m.bond.leg.days ≤ 256) × (length m.bond.leg.kinds ≡ length m.bond.leg.days) × (length m.bond.leg.amounts ≡ length m.bond.leg.days))
    × ((length calls.ends ≡ length calls.starts) × (length calls.strikes ≡ length calls.starts))
    × ((length m.bond.puts.ends ≡ length m.bond.puts.starts) × (length m.bond.puts.strikes ≡ length m.bond.puts.starts))

sizes : (m : Market) (calls : CallSchedule) → tree_checks m calls ≡ Ok tt → Sizes m calls
sizes m calls e =
    let passed = sym (tree-grid m calls e) in
    let steps = settled _ _ _ _ passed refl in
    let leg = leg-sized _ _ _ _ passed refl in
    let entries = (calls-sized _ _ _ _ passed refl).entries in
    let puts = (puts-sized _ _ _ _ passed refl).entries in
    ((steps.some-steps, steps.few-steps), (leg.few, leg.kinds_too, leg.amounts_too), (entries.ends_too, entries.strikes_too), (puts.ends_too, puts.strikes_too))

module _ (s : Shared) (l : Lists) (h : Holding) (e : bond_check s l h ≡ Ok tt) {m : Market} {calls : CallSchedule} (a : m ≡ market_of s l h) (b : calls ≡ calls_of l h) where
  cut-passed : tree_checks m calls ≡ Ok tt
  cut-passed = ap (λ (n : Market). tree_checks n calls) a ∙ ap (tree_checks (market_of s l h)) b ∙ tree-passed s l h e

  pub cut-ready : {times : List Float} → CurveTimes m.settlement m.pillars.days times → Sizes m calls × (times ≡ pillar_times m.settlement m.pillars.days)
  cut-ready t = (sizes m calls cut-passed, t.timed (tree-few-pillars m calls cut-passed))

  pub cut-worth : (room : Room) {v : Outcome TreeValue} → v ≡ value_on m calls room → v ≡ tree_value (market_of s l h) (calls_of l h) room
  cut-worth room f =
      f
      ∙ value_of-checked m calls room cut-passed
      ∙ ap (λ (n : Market). tree_value n calls room) a
      ∙ ap (λ (c : CallSchedule). tree_value (market_of s l h) c room) b
