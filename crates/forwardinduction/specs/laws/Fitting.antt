-- One step of the fit in the code: its answer beside the rows that it leaves, by the way it went. Assumes nothing.
use Rattle.std.specs.Prelude.{ℕ, ◌≤◌, ◌≡◌, Bool, true, false, cond, List, length, take, ℤ, Float, Ok, Err}
use Rattle.std.proofs.Math.Path.{sym, ap}
use Rattle.std.proofs.Common.{◌∙◌, length-take-le}
use Rattle.floats.specs.Refusals.{Refusal}
use Rattle.floats.specs.Answers.{Answer, on_outcome, Check, Outcome, follow, outcome_of}
use Rattle.terms.specs.laws.Outcomes.{follow-given, follow-refused}
use Rattle.lattice.specs.Layers.{At}
use Rattle.lattice.specs.laws.Stored.{numbers_in, row_of}
use Rattle.lattice.specs.laws.Laid.{front_nodes}
use Rattle.lattice.specs.laws.Binds.{went_on, stopped_at}
use Rattle.lattice.specs.laws.Rows.{even, current_part, Both}
use Rattle.forwardinduction.specs.laws.Advances.{layer_shift, advanced_at, Moved, step_at}

-- The row of a step whose layer of c nodes stands in front.
abbrev pub row_in : ℕ → ℕ → List ℤ → Both → List At
row_in step c nodes rows = row_of (numbers_in (front_nodes c nodes)) (current_part step c rows.first rows.second)

-- A step's shift with the rows that are left, or its refusal.
abbrev pub moved_of : Answer → Both → Outcome Moved
moved_of r rows = follow r λ shift. Ok (record { shift = shift; rows = rows })

module _ (curve : Float → ℕ → Answer) (dt : Float) (step : ℕ) (flat : Bool) (count : ℕ) (spacing : Float) (nodes : List ℤ) (probabilities : List Float) (rows after : Both) where
  module _ {row : List Float} {s : Answer} (here : row ≡ current_part step count rows.first rows.second) (e : s ≡ layer_shift curve dt step spacing (row_of (numbers_in nodes) row)) where
    -- no shift
    pub step-refused : {q : Refusal} → s ≡ Err q → moved_of s after ≡ step_at curve dt step flat count spacing nodes probabilities rows
    unfolding step_at on_outcome
    step-refused v = rw v (sym (stopped_at _ _ (rw here at e) v))

    module _ {shift : Float} (v : s ≡ Ok shift) {a : Check} (w : outcome_of a after ≡ advanced_at spacing dt shift step flat count nodes probabilities rows) where
      -- a shift, and no other row
      pub step-halted : {q : Refusal} → a ≡ Err q → moved_of (Err q) after ≡ step_at curve dt step flat count spacing nodes probabilities rows
      unfolding step_at on_outcome outcome_of
      step-halted h = sym (went_on _ _ (rw here at e) v ∙ follow-refused _ _ (sym w ∙ ap (λ (z : Check). outcome_of z after) h))

      -- both
      pub step-moved : a ≡ Ok tt → moved_of (Ok shift) after ≡ step_at curve dt step flat count spacing nodes probabilities rows
      unfolding step_at on_outcome outcome_of
      step-moved h = sym (went_on _ _ (rw here at e) v ∙ follow-given _ _ (sym w ∙ ap (λ (z : Check). outcome_of z after) h))

-- The current part is as long as the layer.
pub current-length : (step count : ℕ) (first second : List Float) → count ≤ length first → count ≤ length second → length (current_part step count first second) ≡ count
current-length step count first second h k = go (even step)
  where
    go : (b : Bool) → length (cond b (take count first) (take count second)) ≡ count
    go true = length-take-le count first h
    go false = length-take-le count second k
