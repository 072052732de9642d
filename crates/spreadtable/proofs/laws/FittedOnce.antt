-- The tree is fitted once for all spreads of a row: what doesn't read the spread refuses each cell alike, and each cell walks back over the same tree. Assumes nothing.
use Rattle.std.specs.Prelude.{ℕ, ◌≡◌, Bool, ℤ, pos, Float, Ok, Err}
use Rattle.std.proofs.Math.Path.{refl, sym, ap}
use Rattle.std.proofs.Common.{◌∙◌}
use Rattle.std.proofs.Math.Bool.{true, false, cond}
use mathlib.Core.List.{List, map}
use Rattle.std.specs.Float.Ieee.{binary64, div}
use Rattle.floats.specs.Refusals.{Refusal}
use Rattle.floats.specs.Answers.{Answer, Check, Outcome, follow, on_outcome, when_finite}
use Rattle.terms.specs.Numbers.{float}
use Rattle.terms.specs.Terms.{CallSchedule, Market, with_spread}
use Rattle.terms.specs.Checks.{on_check, single, beyond}
use Rattle.terms.specs.Curve.{curve_over, pillar_times}
use Rattle.terms.specs.Entries.{tree_checks}
use Rattle.terms.specs.laws.Outcomes.{follow-given, follow-refused}
use Rattle.terms.specs.laws.MarketChecks.{other-spread}
use Rattle.bondevents.specs.declared.BondEventGrid.{BondEventGrid}
use Rattle.bondevents.specs.declared.CallStep.{CallStep}
use Rattle.bondevents.specs.Grid.{event_grid}
use Rattle.bondevents.specs.Parts.{step_mark, step_prices}
use Rattle.lattice.specs.Layers.{At, value_at, Room}
use Rattle.lattice.specs.Lattice.{node_count}
use Rattle.backwardinduction.specs.laws.WalkMore.{calls_of}
use Rattle.backwardinduction.specs.laws.WalkRoot.{root_of}
use Rattle.treebasedbondpricer.specs.declared.TreeValue.{TreeValue}
use Rattle.treebasedbondpricer.specs.declared.fitted.FittedTree.{FittedTree}
use Rattle.treebasedbondpricer.specs.Tree.{Fitted, lattice_value_over, fitted_tree, lattice_value, tree_value}
use Rattle.treebasedbondpricer.specs.laws.FittedIn.{FitsTree, fitted_over}
use Rattle.treebasedbondpricer.specs.laws.Valued.{row_over, standing, not_standing, same_row, same_calls}
use Rattle.treebasedbondpricer.specs.laws.Entered.{tree_is}
use Rattle.spreadtable.specs.declared.Written.{Written}
use Rattle.spreadtable.specs.Cells.{hash_cell, cell_text, answer_text}
use Rattle.spreadtable.specs.Page.{row_text}
use Rattle.spreadtable.specs.laws.Writing.{appended}
use Rattle.spreadtable.specs.laws.Filling.{same_cells}
use Rattle.spreadtable.specs.laws.FittedOnce.{spread_cell, walk_over, walk_on, walk_in}
use Rattle.floats.specs.declared.Reason.TheVariants as reason

-- Walks that are equal at each spread fill equal rows.
pub same_walks : (f g : Float → Answer) (w : Written) (spreads : List Float) → ((s : Float) → f s ≡ g s) → appended w (row_text (spread_cell f) spreads) ≡ appended w (row_text (spread_cell g) spreads)
same_walks f g w spreads e =
    ap (λ (z : List ℕ). appended w z)
    (same_cells (spread_cell f) (spread_cell g) (λ s. ap (λ (a : Answer). cond (beyond (float 1) s) (hash_cell 4) (answer_text a)) (e s)) spreads)

-- ---- the row, from its parts

module _ {o : Outcome Fitted} {long wide : ℕ} {counts : List ℕ} {spacings shifts : List Float} {nodes : List ℤ} {probabilities : List Float} {r : Outcome FittedTree} (p : FitsTree o long wide counts spacings shifts nodes probabilities r) (w : Written) (spreads cashflows : List Float) (calls : List CallStep) where
  pub row_walked : {v : Written} {dt : Float} {flat : Bool} → r ≡ Ok (record { dt = dt; flat = flat })
      → v ≡ appended w (row_text (spread_cell (walk_in dt flat cashflows calls counts spacings shifts nodes probabilities)) spreads)
      → v ≡ appended w (row_text (spread_cell (walk_over cashflows calls o)) spreads)
  unfolding on_outcome
  row_walked {dt = dt} {flat = flat} e f =
      let st = standing p e in
      f
      ∙ same_walks (walk_in dt flat cashflows calls counts spacings shifts nodes probabilities) (walk_over cashflows calls o) w spreads
      (λ s. ap root_of (sym (same_row st s cashflows calls)) ∙ sym (ap (λ (z : Outcome Fitted). walk_over cashflows calls z s) st.is))

  pub row-stopped : {v : Written} {q : Refusal} → r ≡ Err q → v ≡ appended w (row_text (spread_cell λ s. Err q) spreads) → v ≡ appended w (row_text (spread_cell (walk_over cashflows calls o)) spreads)
  unfolding on_outcome
  row-stopped {q = q} e f =
      f
      ∙ same_walks (λ s. Err q) (walk_over cashflows calls o) w spreads
      (λ s. sym (ap (λ (z : Outcome Fitted). walk_over cashflows calls z s) (not_standing p e)))

pub row-with_calls : (o : Outcome Fitted) (w : Written) (spreads cashflows : List Float) (calls : List CallStep) {marks : List ℕ} {prices : List Float} {v : Written} → v ≡ appended w (row_text (spread_cell (walk_over cashflows (calls_of marks prices) o)) spreads) → marks ≡ map step_mark calls → prices ≡ step_prices calls → v ≡ appended w (row_text (spread_cell (walk_over cashflows calls o)) spreads)
row-with_calls o w spreads cashflows calls e f g = e ∙ ap (λ (cs : List CallStep). appended w (row_text (spread_cell (walk_over cashflows cs o)) spreads)) (same_calls calls f g)

module _ (m : Market) (calls : CallSchedule) (room : Room) (w : Written) (spreads : List Float) {r : Outcome BondEventGrid} (e : r ≡ event_grid m.settlement m.bond calls m.controls) where
  abbrev grid : Outcome BondEventGrid
  grid = event_grid m.settlement m.bond calls m.controls

  pub grid-stopped : {q : Refusal} {v : Written} → r ≡ Err q → v ≡ appended w (row_text (spread_cell λ s. Err q) spreads) → v ≡ appended w (row_text (spread_cell (walk_on m calls room)) spreads)
  unfolding walk_on on_outcome
  grid-stopped {q} p f =
      f
      ∙ same_walks (λ s. Err q) (walk_on m calls room) w spreads
      (λ s. sym (ap (λ (z : Outcome BondEventGrid). on_outcome z Err λ g. walk_over g.cashflows g.calls (fitted_tree m room g.maturity_time g.steps) s) (sym e ∙ p)))

  pub grid-walked : {times : List Float} {g : BondEventGrid} {v : Written} → times ≡ pillar_times m.settlement m.pillars.days → r ≡ Ok g
      → v ≡ appended w (row_text (spread_cell (walk_over g.cashflows g.calls (when_finite (div binary64 g.maturity_time (float g.steps)) 0 λ dt. fitted_over (curve_over times m.pillars.factors) m.model room g.steps dt))) spreads)
      → v ≡ appended w (row_text (spread_cell (walk_on m calls room)) spreads)
  unfolding walk_on on_outcome
  grid-walked {times} {g} t p f =
      f
      ∙ ap (λ (ts : List Float). appended w (row_text (spread_cell (walk_over g.cashflows g.calls (when_finite (div binary64 g.maturity_time (float g.steps)) 0 λ dt. fitted_over (curve_over ts m.pillars.factors) m.model room g.steps dt))) spreads)) t
      ∙ ap (λ (o : Outcome Fitted). appended w (row_text (spread_cell (walk_over g.cashflows g.calls o)) spreads)) (sym (tree_is m room g.maturity_time g.steps))
      ∙ same_walks (walk_over g.cashflows g.calls (fitted_tree m room g.maturity_time g.steps)) (walk_on m calls room) w spreads
      (λ s. sym (ap (λ (z : Outcome BondEventGrid). on_outcome z Err λ g. walk_over g.cashflows g.calls (fitted_tree m room g.maturity_time g.steps) s) (sym e ∙ p)))

-- ---- a single call's cell is that of the one fit

module _ (m : Market) (calls : CallSchedule) (room : Room) (passed : tree_checks m calls ≡ Ok tt) (s : Float) where
  abbrev events : Outcome BondEventGrid
  events = event_grid m.settlement m.bond calls m.controls

  abbrev worth : Outcome (Outcome TreeValue)
  worth = follow events λ g. lattice_value (with_spread m s) room g

  -- The count isn't shown.
  without_count : (o : Outcome (List At)) (n : ℕ) → cell_text (on_outcome (follow o λ row. Ok (Ok (record { value = (value_at (pos 0) row); nodes = n }))) Err λ v. v) ≡ answer_text (root_of o)
  unfolding on_outcome cell_text answer_text
  without_count (Ok row) n = refl
  without_count (Err q) n = refl

  over-tree : (g : BondEventGrid) (o : Outcome Fitted) → fitted_tree m room g.maturity_time g.steps ≡ o
      → cell_text (on_outcome (lattice_value (with_spread m s) room g) Err λ v. v) ≡ answer_text (walk_over g.cashflows g.calls o s)
  unfolding lattice_value_over on_outcome cell_text answer_text
  over-tree g (Ok f) h =
      ap (λ (o : Outcome (Outcome TreeValue)). cell_text (on_outcome o Err λ v. v)) (follow-given (fitted_tree m room g.maturity_time g.steps) _ h)
      ∙ without_count (row_over s g.cashflows g.calls f) (node_count f.tree)
  over-tree g (Err q) h =
      ap (λ (o : Outcome (Outcome TreeValue)). cell_text (on_outcome o Err λ v. v)) (follow-refused (fitted_tree m room g.maturity_time g.steps) _ h)

  over-grid : (o : Outcome BondEventGrid) → events ≡ o → cell_text (on_outcome worth Err λ v. v) ≡ answer_text (walk_on m calls room s)
  unfolding walk_on on_outcome cell_text answer_text
  over-grid (Ok g) e =
      ap (λ (z : Outcome (Outcome TreeValue)). cell_text (on_outcome z Err λ v. v)) (follow-given events _ e)
      ∙ over-tree g (fitted_tree m room g.maturity_time g.steps) refl
      ∙ sym (ap (λ (z : Outcome BondEventGrid). answer_text (on_outcome z Err λ g. walk_over g.cashflows g.calls (fitted_tree m room g.maturity_time g.steps) s)) e)
  over-grid (Err q) e =
      ap (λ (z : Outcome (Outcome TreeValue)). cell_text (on_outcome z Err λ v. v)) (follow-refused events _ e)
      ∙ sym (ap (λ (z : Outcome BondEventGrid). answer_text (on_outcome z Err λ g. walk_over g.cashflows g.calls (fitted_tree m room g.maturity_time g.steps) s)) e)

  pub fitted-once : spread_cell (walk_on m calls room) s ≡ cell_text (tree_value (with_spread m s) calls room)
  unfolding tree_value tree_checks on_check cell_text
  fitted-once =
      go (beyond (float 1) s)
      ∙ sym (ap (λ (c : Check). cell_text (on_check c Err (on_outcome worth Err λ v. v))) (other-spread (float 1) m calls s passed))
    where
      go : (b : Bool) → cond b (hash_cell 4) (answer_text (walk_on m calls room s)) ≡ cell_text (on_check (single reason.Number 0 b) Err (on_outcome worth Err λ v. v))
      go true = refl
      go false = sym (over-grid events refl)
