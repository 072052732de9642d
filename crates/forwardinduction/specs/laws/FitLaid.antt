-- The fit over all layers of a laid tree, on parts of the slices: what each way of one turn leaves of the whole. Assumes nothing.
use Rattle.std.specs.Prelude.{ℕ, ◌+◌, ◌*◌, ◌<◌, ◌≡◌, refl, Bool, length, get_or, take, drop, set, ℤ, pos, Float, Ok, Err}
use Rattle.std.proofs.Common.{sym, ap, ◌∙◌, add-one, arith}
use mathlib.Core.List.{List, [], ◌∷◌}
use Rattle.std.specs.Float.{nan}
use Rattle.floats.specs.Refusals.{Refusal}
use Rattle.floats.specs.Answers.{Answer, one, on_outcome, Check, Outcome, follow}
use Rattle.terms.specs.laws.Outcomes.{same_given, given_or_refused, follow-given, follow-refused}
use Rattle.hullwhite.specs.laws.Filled.{check_of}
use Rattle.lattice.specs.Layers.{At}
use Rattle.lattice.specs.Lattice.{root_layer}
use Rattle.forwardinduction.specs.Fit.{shifts_from}
use Rattle.lattice.specs.laws.Stored.{numbers_in, row_of}
use Rattle.lattice.specs.laws.Rows.{Both}
use Rattle.forwardinduction.specs.laws.Advances.{Moved, step_at}
use Rattle.lattice.specs.laws.Parts.{part_from, part_from_lem, with_part, with_rest}
use Rattle.lattice.specs.laws.Laid.{front_nodes, layers_in, Laid, last_laid, more_laid}
use Rattle.forwardinduction.specs.laws.LaidFront.{front_count, Behind}
use Rattle.forwardinduction.specs.laws.Found.{Found}
use Rattle.forwardinduction.specs.laws.FitMore.{fit_more}
use Rattle.forwardinduction.specs.laws.Fitting.{moved_of, row_in}

-- ---- what a turn leaves

one_more : (shift : Float) (o : Outcome (List Float)) (r : Check) (shifts : List Float) → Found o r shifts → Found (follow o λ shifts. Ok (shift ∷ shifts)) r (shift ∷ shifts)
unfolding on_outcome check_of
one_more shift (Ok ys) r shifts f = record { outcome = f.outcome; slice = λ xs g. ap (λ (l : List Float). shift ∷ l) (f.slice ys refl) ∙ same_given g }
one_more shift (Err q) r shifts f = record { outcome = f.outcome; slice = λ xs g. absurd (given_or_refused g refl) }

module _ (curve : Float → ℕ → Answer) (dt : Float) where
  -- no layer but the last
  pub found_none : {flat : Bool} {one two : ℕ} {counts : List ℕ} {spacings : List Float} {nodes : List ℤ} {probabilities : List Float} (step : ℕ) (row : List At) (shifts : List Float)
      → Laid flat one two counts spacings nodes probabilities → length shifts ≡ length spacings → length spacings ≡ 0
      → Found (shifts_from curve dt step (layers_in flat counts spacings nodes probabilities) row) (Ok tt) shifts
  unfolding layers_in shifts_from check_of
  found_none step row [] (last_laid p q r) e h = record { outcome = refl; slice = λ xs g. same_given g }
  found_none step row (x ∷ shifts) (last_laid p q r) e h = absurd (omega arith)
  found_none step row shifts (more_laid st l) e h = absurd (omega arith)

  module _ (step : ℕ) (flat : Bool) (counts : List ℕ) (spacings : List Float) (nodes : List ℤ) (probabilities : List Float) (lent left : Both) (a : Behind flat (length lent.first) (length lent.second) counts spacings nodes probabilities) where
    abbrev pub whole : Outcome (List Float)
    whole = shifts_from curve dt step (layers_in flat counts spacings nodes probabilities) (row_in step (front_count counts) nodes lent)

    -- the layers behind, from the rows that the step left
    abbrev pub others : Both → Outcome (List Float)
    others rows = shifts_from curve dt (step + 1) (layers_in flat (part_from 1 counts) (part_from 1 spacings) (part_from (front_count counts * 2) nodes) (part_from (front_count counts * 3) probabilities)) (row_in (step + 1) (front_count (part_from 1 counts)) (part_from (front_count counts * 2) nodes) rows)

    abbrev one_step : Outcome Moved
    one_step = step_at curve dt step flat (front_count counts) (get_or spacings 0 nan) (front_nodes (front_count counts) nodes) (take (front_count counts * 3) probabilities) lent

    turn : whole ≡ follow one_step λ m. follow (others m.rows) λ shifts. Ok (m.shift ∷ shifts)
    turn =
        rw (a.layers, part_from_lem 1 counts, part_from_lem 1 spacings, part_from_lem (front_count counts * 2) nodes, part_from_lem (front_count counts * 3) probabilities, a.next)
        (rw (← add-one step) at (fit_more a.stepped curve dt (get_or spacings 0 nan) step lent (layers_in flat (drop 1 counts) (drop 1 spacings) (drop (front_count counts * 2) nodes) (drop (front_count counts * 3) probabilities)) a.stepped.first_room a.stepped.second-room a.stepped.next_first a.stepped.next_second))

    module _ {s : Answer} (e : moved_of s left ≡ one_step) where
      -- the step refused
      pub found-refused : {q : Refusal} {r : Check} (shifts : List Float) → s ≡ Err q → r ≡ Err q → Found whole r shifts
      unfolding on_outcome check_of
      found-refused {q} shifts v f =
          let w : whole ≡ Err q = turn ∙ follow-refused one_step _ (sym e ∙ rw v) in
          record { outcome = f ∙ rw w; slice = λ xs g. absurd (given_or_refused g w) }

      -- the step gave a shift
      pub found_more : {shift : Float} (r : Check) (shifts rest : List Float) → 0 < length shifts → s ≡ Ok shift → Found (others left) r rest → Found whole r (with_part 1 (set shifts 0 shift) rest)
      unfolding on_outcome
      found_more {shift} r shifts rest h v f =
          let w : whole ≡ follow (others left) λ shifts. Ok (shift ∷ shifts) = turn ∙ follow-given one_step _ (sym e ∙ rw v) in
          rw (with_rest shifts shift rest h, w) (one_more shift (others left) r rest f)

-- ---- from the root

-- the row of the root, its state price written
pub root-row : (counts : List ℕ) (nodes : List ℤ) (first second : List Float) → front_count counts ≡ 1 → numbers_in (front_nodes 1 nodes) ≡ root_layer → 0 < length first
    → row_in 0 (front_count counts) nodes (record { first = set first 0 one; second = second }) ≡ record { node = pos 0; value = one } ∷ []
unfolding row_of
root-row counts nodes [] second e f h = absurd (omega arith)
root-row counts nodes (x ∷ first) second e f h = rw (e, f)
