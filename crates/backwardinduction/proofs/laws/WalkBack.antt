-- The walk over the lent rows is the walk: the last row, and one step with the rows behind it done. Assumes nothing.
use Rattle.std.specs.Prelude.{ℕ, ◌+◌, ◌*◌, ◌<◌, ◌≡◌, Bool, get_or, take, replicate, ℤ, Ok, Err}
use Rattle.std.proofs.Math.Path.{refl, sym, ap}
use Rattle.std.proofs.Common.{◌∙◌, arith, length-take-le}
use mathlib.Core.List.{List}
use Rattle.std.proofs.Math.Numerals.{add-one}
use Rattle.std.proofs.Math.ListN.{length}
use Rattle.std.specs.Float.Ieee.{Float, nan}
use Rattle.floats.specs.Refusals.{Refusal}
use Rattle.floats.specs.Answers.{plus_zero, Check, Outcome, follow, on_outcome, outcome_of}
use Rattle.bondevents.specs.declared.CallStep.{CallStep}
use Rattle.bondevents.specs.Calls.{new_step}
use Rattle.backwardinduction.specs.declared.walk.Rates.{Rates}
use Rattle.lattice.specs.Layers.{At}
use Rattle.backwardinduction.specs.Walk.{rolled, walk_from}
use Rattle.lattice.specs.laws.Stored.{numbers_in, transitions_in, row_of}
use Rattle.lattice.specs.laws.StoredAt.{drop_one, get_d_inside}
use Rattle.lattice.specs.laws.Positions.{start_of}
use Rattle.lattice.specs.laws.Rows.{current_part, Both}
use Rattle.backwardinduction.specs.laws.WalkSteps.{rolled_at}
use Rattle.backwardinduction.proofs.laws.WalkPlaces.{reads_of, rolled_at_lem}
use Rattle.lattice.specs.laws.Laid.{front_nodes, layers_in, final_in, Laid}
use Rattle.lattice.specs.laws.Parts.{part_from, part_from_lem}
use Rattle.forwardinduction.specs.laws.LaidFront.{front_count, fronted, last_of, Behind, behind_of}
use Rattle.forwardinduction.specs.laws.Fitting.{current-length, row_in}
use Rattle.lattice.specs.laws.Totals.{numbers-length}
use Rattle.backwardinduction.specs.laws.WalkMore.{final_row_lem}

pos_of : (n : ℕ) → (n ≡ 0 → ⊥) → 0 < n
pos_of n h = omega arith

module _ (dt spread : Float) (cashflows : List Float) (calls : List CallStep) (step : ℕ) (inside : step < length cashflows)
    {flat : Bool} {one two : ℕ} {counts : List ℕ} {spacings : List Float} {nodes : List ℤ} {probabilities : List Float}
    (laid : Laid flat one two counts spacings nodes probabilities) (shifts : List Float) where
  abbrev count : ℕ
  count = front_count counts

  -- the walk from the layer in front on
  abbrev pub whole : Outcome (List At)
  whole = walk_from dt spread cashflows calls step (layers_in flat counts spacings nodes probabilities) shifts (final_in counts spacings nodes)

  -- the row that is left, or the refusal
  abbrev pub leaves : Check → Both → Outcome (List At)
  leaves r rows = follow (outcome_of r rows) λ rows. Ok (row_in step count nodes rows)

  -- the final cashflow at each node
  pub walk_last : length spacings ≡ 0 → (rows : Both) → current_part step count rows.first rows.second ≡ replicate count (get_or cashflows step nan) → leaves (Ok tt) rows ≡ whole
  unfolding walk_from outcome_of on_outcome
  walk_last none rows e =
      let l = last_of laid none in
      rw (l.layers, l.final, e, get_d_inside cashflows step nan plus_zero inside)
      (ap Ok (sym (final_row_lem (get_or cashflows step plus_zero) (numbers_in (front_nodes count nodes)) count (omega (arith, numbers-length count nodes (fronted laid).pairs)))))

  module _ (some : length spacings ≡ 0 → ⊥) (same : length shifts ≡ length spacings) where
    b : Behind flat one two counts spacings nodes probabilities
    b = behind_of laid some

    abbrev next : ℕ
    next = get_or counts 1 0

    -- the walk from the layer behind on, in the parts of the slices
    abbrev rest : Outcome (List At)
    rest =
        walk_from dt spread cashflows calls (step + 1)
        (layers_in flat (part_from 1 counts) (part_from 1 spacings) (part_from (count * 2) nodes) (part_from (count * 3) probabilities))
        (part_from 1 shifts)
        (final_in (part_from 1 counts) (part_from 1 spacings) (part_from (count * 2) nodes))

    abbrev rest_leaves : Check → Both → Outcome (List At)
    rest_leaves r rows = follow (outcome_of r rows) λ rows. Ok (row_in (step + 1) (front_count (part_from 1 counts)) (part_from (count * 2) nodes) rows)

    abbrev rates : Rates
    rates = record { spacing = get_or spacings 0 nan; dt = dt; shift = get_or shifts 0 nan; spread = spread }

    -- the layer in front, from the row behind
    abbrev onto : List At → Outcome (List At)
    onto row = rolled (reads_of rates (get_or calls step new_step) (get_or cashflows step nan)) (numbers_in (front_nodes count nodes)) (transitions_in flat (front_nodes count nodes) (take (count * 3) probabilities)) row step

    -- the layer in front by positions, from the row behind
    abbrev made : CallStep → Both → Outcome (List Float)
    made call behind =
        rolled_at rates call (get_or cashflows step nan) step flat
        (current_part (step + 1) next behind.first behind.second)
        (start_of (front_nodes count nodes))
        0
        (front_nodes count nodes)
        (take (count * 3) probabilities)
        (current_part step count behind.first behind.second)

    -- the layer in front after those behind it
    apart : whole ≡ follow rest onto
    unfolding walk_from
    apart =
        let h : 0 < length shifts = omega (arith, pos_of (length spacings) some) in
        rw (part_from_lem 1 counts, part_from_lem 1 spacings, part_from_lem (count * 2) nodes, part_from_lem (count * 3) probabilities)
        (rw (part_from_lem 1 shifts, b.layers, b.final, add-one, drop_one shifts nan 0 h, ← get_d_inside cashflows step nan plus_zero inside))

    -- a refusal behind is handed up
    pub walk-stopped : {q : Refusal} {r t : Check} (behind rows : Both) → r ≡ Err q → t ≡ Err q → rest_leaves r behind ≡ rest → leaves t rows ≡ whole
    unfolding outcome_of on_outcome
    walk-stopped behind rows e t f = sym (apart ∙ ap (λ (z : Outcome (List At)). follow z onto) (sym f) ∙ rw (e, t))

    -- the values of the layer in front, over the row behind
    rolled-front : (behind : Both) → length behind.first ≡ one → length behind.second ≡ two
        → onto (row_in (step + 1) (front_count (part_from 1 counts)) (part_from (count * 2) nodes) behind)
        ≡ follow (made (get_or calls step new_step) behind)
        λ o. Ok (row_of (numbers_in (front_nodes count nodes)) o)
    unfolding rolled_at
    rolled-front behind e f =
        let s = b.stepped in
        let vs : List Float = current_part (step + 1) next behind.first behind.second in
        let out : List Float = current_part step count behind.first behind.second in
        let long : length vs ≡ next = current-length (step + 1) next behind.first behind.second (omega (arith, s.next_first)) (omega (arith, s.next_second)) in
        let wide : length out ≡ count = current-length step count behind.first behind.second (omega (arith, s.first_room)) (omega (arith, s.second-room)) in
        rw (part_from_lem 1 counts, part_from_lem (count * 2) nodes, b.next, ← s.are_next)
        (rolled_at_lem rates (get_or calls step new_step) (get_or cashflows step nan) step flat vs s.climbs (omega (arith, s.counted)) _ _ count 0 (front_nodes count nodes) (take (count * 3) probabilities) out s.placed (length-take-le (count * 2) nodes s.pairs) (length-take-le (count * 3) probabilities s.threes) (omega arith))

    -- one step, those behind it passed
    pub walk_step : {r : Check} (q : Check) (behind rows : Both) {call : CallStep} → length behind.first ≡ one → length behind.second ≡ two → r ≡ Ok tt → rest_leaves r behind ≡ rest → call ≡ get_or calls step new_step
        → outcome_of q (current_part step count rows.first rows.second)
        ≡ made call behind
        → leaves q rows ≡ whole
    unfolding outcome_of on_outcome
    walk_step q behind rows e f p w g o =
        sym
        (apart
        ∙ ap (λ (z : Outcome (List At)). follow z onto) (sym w)
        ∙ ap (λ (z : Check). follow (rest_leaves z behind) onto) p
        ∙ rolled-front behind e f
        ∙ ap (λ (z : Outcome (List Float)). follow z λ o. Ok (row_of (numbers_in (front_nodes count nodes)) o)) (sym (rw g at o))
        ∙ go q)
      where
        go : (q : Check) → follow (outcome_of q (current_part step count rows.first rows.second)) (λ o. Ok (row_of (numbers_in (front_nodes count nodes)) o)) ≡ leaves q rows
        go (Ok tt) = refl
        go (Err x) = refl
