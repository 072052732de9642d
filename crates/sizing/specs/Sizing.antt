-- Definitions only. How large the slices of the tree value must be, and what the sizing entry leaves in the lent slice.
use Rattle.std.specs.Prelude.{ℕ, ◌*◌, ◌≡◌, List, length, replicate, ℤ, pos, Ok, Err}
use Rattle.std.specs.Float.{binary64}
use Rattle.std.specs.Float.Ieee.{div}
use Rattle.terms.specs.Numbers.{float}
use Rattle.terms.specs.Terms.{CallSchedule, Market}
use Rattle.terms.specs.Checks.{on_check}
use Rattle.terms.specs.Entries.{tree_checks}
use Rattle.floats.specs.Reasons.{reason_number}
use Rattle.floats.specs.Answers.{Outcome, follow, on_outcome, when_finite}
use Rattle.bondevents.specs.Grid.{axis_of}
use Rattle.hullwhite.specs.Variance.{transition_variances, variances_from}
use Rattle.widths.specs.Widths.{widths, total, widest}
use Rattle.sizing.specs.declared.Lengths.{Lengths}

-- T and steps of the grid without its calls, time_step, variances, then the widths of the layers.
unfoldable pub tree_widths : Market → ℕ → Outcome (List ℕ)
unfolding axis_of variances_from widths div
tree_widths m room =
    let a = axis_of m.settlement m.bond.leg m.controls in
    when_finite (div binary64 a.maturity (float a.steps)) 0 λ dt.
    follow (transition_variances m.model a.steps dt) λ variances. widths room m.model.alpha dt variances

-- Two places of the node slice for each node, three of the probability slice, each row as long as the widest layer, and the node count.
abbrev pub lengths_of : List ℕ → Lengths
lengths_of ws = record { nodes = 2 * total ws; probabilities = 3 * total ws; row = widest ws; count = total ws }

abbrev pub sizes_from : List ℕ → Outcome Lengths
sizes_from ws = Ok (lengths_of ws)

-- The terms are checked as for the tree value, then the widths are found in a slice of so many places.
unfoldable pub sizes_of : Market → CallSchedule → ℕ → Outcome Lengths
unfolding tree_checks tree_widths total widest
sizes_of m calls room = on_check (tree_checks m calls) Err (on_outcome (tree_widths m room) Err sizes_from)

-- Untouched after an input refusal, else all zero.
unfoldable pub nodes_after : Market → CallSchedule → List ℤ → List ℤ
unfolding tree_checks
nodes_after m calls nodes = on_check (tree_checks m calls) (λ r. nodes) (replicate (length nodes) (pos 0))

-- The answer is the sizes, and the slice is left as 02 says.
pub record SizesEntered (m : Market) (calls : CallSchedule) (answer : Outcome Lengths) (before after : List ℤ) : Type 0 where
  pub sizes : answer ≡ sizes_of m calls (length before)
  pub slice : after ≡ nodes_after m calls before

-- ---- 01's number and values for each case

abbrev pub sizes_number : Outcome Lengths → ℕ
sizes_number (Ok l) = 0
sizes_number (Err r) = reason_number r.reason

abbrev pub sizes_place : Outcome Lengths → ℕ
sizes_place (Ok l) = 0
sizes_place (Err r) = r.place

-- A refusal has no lengths and no node count; 0 stands there.
abbrev pub no_lengths : Lengths
no_lengths = record { nodes = 0; probabilities = 0; row = 0; count = 0 }

abbrev pub needed : Outcome Lengths → Lengths
needed (Ok l) = l
needed (Err r) = no_lengths
