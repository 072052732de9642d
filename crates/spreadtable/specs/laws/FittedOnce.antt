-- Definitions only. A cell by its spread and the walk over a tree that is fitted once for all spreads of a row.
use Rattle.std.specs.Prelude.{ℕ, Bool, ℤ, Float, Err}
use Rattle.std.proofs.Math.Bool.{cond}
use mathlib.Core.List.{List}
use Rattle.floats.specs.Answers.{Answer, Outcome, on_outcome}
use Rattle.terms.specs.Numbers.{float}
use Rattle.terms.specs.Terms.{CallSchedule, Market}
use Rattle.terms.specs.Checks.{beyond}
use Rattle.bondevents.specs.declared.CallStep.{CallStep}
use Rattle.bondevents.specs.Grid.{event_grid}
use Rattle.lattice.specs.Layers.{Room}
use Rattle.lattice.specs.laws.Laid.{layers_in, final_in}
use Rattle.backwardinduction.specs.Walk.{walk_from}
use Rattle.backwardinduction.specs.laws.WalkRoot.{root_of}
use Rattle.treebasedbondpricer.specs.Tree.{Fitted, fitted_tree_over, fitted_tree}
use Rattle.treebasedbondpricer.specs.laws.Valued.{row_over}
use Rattle.spreadtable.specs.Cells.{hash_cell, answer_text}

-- 4 for a spread out of its range, else what the walk gives.
abbrev pub spread_cell : (Float → Answer) → Float → List ℕ
spread_cell walk s = cond (beyond (float 1) s) (hash_cell 4) (answer_text (walk s))

-- The walk at a spread over a tree that is fitted, or refused.
abbrev pub walk_over : List Float → List CallStep → Outcome Fitted → Float → Answer
walk_over cashflows calls o s = on_outcome o Err λ f. root_of (row_over s cashflows calls f)

-- The grid and the tree before it.
unfoldable pub walk_on : Market → CallSchedule → Room → Float → Answer
unfolding event_grid fitted_tree_over walk_from on_outcome
walk_on m calls room s =
    on_outcome (event_grid m.settlement m.bond calls m.controls) Err λ g.
    walk_over g.cashflows g.calls (fitted_tree m room g.maturity_time g.steps) s

-- The walk over what stands in the slices.
abbrev pub walk_in : Float → Bool → List Float → List CallStep → List ℕ → List Float → List Float → List ℤ → List Float → Float → Answer
walk_in dt flat cashflows calls counts spacings shifts nodes probabilities s =
    root_of (walk_from dt s cashflows calls 0 (layers_in flat counts spacings nodes probabilities) shifts (final_in counts spacings nodes))
