-- The tree value of terms whose widths are known: laid whole with this node count, or 21 for want of room, or stopped before the fit for another cause. Assumes nothing.
use Rattle.floats.specs.Reasons.{reason_number}
use Rattle.std.specs.Prelude.{ℕ, ◌+◌, ◌≡◌, Bool, true, false, cond, List, [], ◌∷◌, length, ℤ, Float, Ok, Err}
use Rattle.std.proofs.Common.{zero-add, arith, sym, subst, ◌∙◌}
use Rattle.std.proofs.Math.Path.{refl, ap}
use Rattle.std.specs.Float.{binary64}
use Rattle.std.specs.Float.Ieee.{div}
use Rattle.floats.specs.Refusals.{Refusal}
use Rattle.floats.specs.Answers.{Answer, not_finite, Check, Outcome, follow, on_outcome, when_finite, refusal}
use Rattle.terms.specs.Numbers.{float}
use Rattle.terms.specs.Terms.{CallSchedule, Market}
use Rattle.terms.specs.Checks.{on_check}
use Rattle.terms.specs.Entries.{tree_checks}
use Rattle.terms.specs.laws.Outcomes.{same_given, given_or_refused, of_given, follow-given}
use Rattle.bondevents.specs.declared.BondEventGrid.{BondEventGrid}
use Rattle.bondevents.specs.Steps.{Axis, step_cashflows}
use Rattle.bondevents.specs.Calls.{call_steps}
use Rattle.bondevents.specs.Grid.{axis_of, event_grid}
use Rattle.hullwhite.specs.Variance.{transition_variances}
use Rattle.lattice.specs.Layers.{Room}
use Rattle.lattice.specs.Lattice.{Layer, Lattice, lattice, count_of, node_count}
use Rattle.lattice.specs.laws.RoomTest.{Fitting}
use Rattle.forwardinduction.specs.Fit.{fitted}
use Rattle.treebasedbondpricer.specs.declared.TreeValue.{TreeValue}
use Rattle.treebasedbondpricer.specs.Tree.{Fitted, fitted_tree_over, value_with, lattice_value_over, lattice_value, tree_value_over, tree_value, curve_of, number_of, place_of}
use Rattle.floats.specs.laws.Cases.{Holds}
use Rattle.widths.specs.Widths.{widths, total, widest}
use Rattle.sizing.specs.Sizing.{tree_widths}
use Rattle.promises.specs.RefusalNumbers.{Among}
use Rattle.promises.specs.Sizing.{before_fit, Answered, answered}
use Rattle.promises.proofs.laws.Numbers.{check_refusals, grid_refusals, walk_refusals, OutcomeAmong, CheckAmong, on_outcome_lem}
use Rattle.promises.proofs.laws.GridNumbers.{checks-number, grid_number_lem}
use Rattle.promises.proofs.laws.WalkNumbers.{shifts-number, walk-number}
use Rattle.promises.proofs.laws.SizedLayers.{Sized, all_laid, no_room, stopped_by, widths_of, sized}
use Rattle.floats.specs.declared.Reason.TheVariants as reason

-- ---- time_step, variances and layers

abbrev pub layers_at : Market → Room → Float → ℕ → Outcome Lattice
layers_at m room maturity steps =
    when_finite (div binary64 maturity (float steps)) 0 λ dt.
    follow (transition_variances m.model steps dt) λ variances. lattice room m.model.alpha dt variances

layers-sized : (m : Market) (slice : ℕ) (room : Room) (ws : List ℕ) → tree_widths m slice ≡ Ok ws
    → Sized room 0 ws (layers_at m room (axis_of m.settlement m.bond.leg m.controls).maturity (axis_of m.settlement m.bond.leg m.controls).steps)
unfolding tree_widths
layers-sized m slice room ws e = go (not_finite dt) e
  where
    a : Axis
    a = axis_of m.settlement m.bond.leg m.controls

    dt : Float
    dt = div binary64 (axis_of m.settlement m.bond.leg m.controls).maturity (float (axis_of m.settlement m.bond.leg m.controls).steps)

    variances : Outcome (List Float)
    variances = transition_variances m.model (axis_of m.settlement m.bond.leg m.controls).steps dt

    go : (b : Bool)
        → cond b (refusal reason.NotFinite 0) (follow variances λ vs. widths slice m.model.alpha dt vs) ≡ Ok ws
        → Sized room 0 ws (cond b (refusal reason.NotFinite 0) (follow variances λ vs. lattice room m.model.alpha dt vs))
    go true e = absurd (given_or_refused (sym (sym e)) refl)
    go false e =
        let (vs, p, q) = of_given variances (λ vs. widths slice m.model.alpha dt vs) e in
        subst (Sized room 0 ws) (sym (follow-given variances (λ vs. lattice room m.model.alpha dt vs) p)) (sized slice room m.model.alpha dt vs ws q)

-- The grid has this T and these steps.
axis_of-grid : (m : Market) (calls : CallSchedule) (g : BondEventGrid) → event_grid m.settlement m.bond calls m.controls ≡ Ok g
    → ((axis_of m.settlement m.bond.leg m.controls).maturity ≡ g.maturity_time) × ((axis_of m.settlement m.bond.leg m.controls).steps ≡ g.steps)
unfolding event_grid
axis_of-grid m calls g e =
    let a = axis_of m.settlement m.bond.leg m.controls in
    let (cs, p, q) = of_given (call_steps a m.bond calls) (λ cs. Ok (record { maturity_time = a.maturity; steps = a.steps; cashflows = step_cashflows a m.bond.leg; calls = cs })) e in
    (ap (λ (h : BondEventGrid). h.maturity_time) (same_given q), ap (λ (h : BondEventGrid). h.steps) (same_given q))

pub grid-sized : (m : Market) (calls : CallSchedule) (slice : ℕ) (room : Room) (ws : List ℕ) (g : BondEventGrid) → tree_widths m slice ≡ Ok ws → event_grid m.settlement m.bond calls m.controls ≡ Ok g
    → Sized room 0 ws (layers_at m room g.maturity_time g.steps)
grid-sized m calls slice room ws g e h =
    let (t, s) = axis_of-grid m calls g h in
    rw (← t, ← s) (layers-sized m slice room ws e)

-- ---- fit and walk

module _ (curve : Float → ℕ → Answer) (m : Market) (g : BondEventGrid) where
  abbrev dt : Float
  dt = div binary64 g.maturity_time (float g.steps)

  abbrev pub fit_and_walk : Lattice → Outcome (Outcome TreeValue)
  fit_and_walk tree = follow (fitted curve dt tree.layers) λ shifts. value_with m.spread g (record { dt = dt; tree = tree; shifts = shifts })

  module _ (room : Room) where
    abbrev pub fit_of : Lattice → Outcome Fitted
    fit_of tree = follow (fitted curve dt tree.layers) λ shifts. Ok (record { dt = dt; tree = tree; shifts = shifts })

    abbrev layers_over : List Float → Outcome Lattice
    layers_over vs = lattice room m.model.alpha dt vs

    from_variances : (o : Outcome (List Float)) → (follow o λ vs. follow (layers_over vs) fit_of) ≡ follow (follow o layers_over) fit_of
    unfolding on_outcome
    from_variances (Ok vs) = refl
    from_variances (Err q) = refl

    -- The fitted tree goes by the layers.
    pub fitted_from_layers : fitted_tree_over curve m room g.maturity_time g.steps ≡ follow (layers_at m room g.maturity_time g.steps) fit_of
    unfolding fitted_tree_over on_outcome
    fitted_from_layers = go (not_finite dt)
      where
        variances : Outcome (List Float)
        variances = transition_variances m.model g.steps dt

        go : (b : Bool) → cond b (refusal reason.NotFinite 0) (follow variances λ vs. follow (layers_over vs) fit_of) ≡ follow (cond b (refusal reason.NotFinite 0) (follow variances layers_over)) fit_of
        go true = refl
        go false = from_variances variances

    fitting : (tree : Lattice) (o : Outcome (List Float)) → follow (follow o λ shifts. Ok (record { dt = dt; tree = tree; shifts = shifts })) (λ f. value_with m.spread g f) ≡ follow o λ shifts. value_with m.spread g (record { dt = dt; tree = tree; shifts = shifts })
    unfolding on_outcome
    fitting tree (Ok shifts) = refl
    fitting tree (Err q) = refl

    from_lattice : (o : Outcome Lattice) → follow (follow o fit_of) (λ f. value_with m.spread g f) ≡ follow o fit_and_walk
    unfolding on_outcome
    from_lattice (Ok tree) = fitting tree (fitted curve dt tree.layers)
    from_lattice (Err q) = refl

    -- So does the value.
    pub value_from_layers : lattice_value_over curve m room g ≡ follow (layers_at m room g.maturity_time g.steps) fit_and_walk
    unfolding lattice_value_over
    value_from_layers =
        ap (λ (o : Outcome Fitted). follow o λ f. value_with m.spread g f) fitted_from_layers
        ∙ from_lattice (layers_at m room g.maturity_time g.steps)

-- A value with this count, or a refusal of the curve, the fit or the walk.
abbrev pub Counted : ℕ → Outcome TreeValue → Type 0
Counted n (Ok v) = v.nodes ≡ n
Counted n (Err q) = Among walk_refusals (reason_number q.reason)

abbrev CountedAs : ℕ → Outcome (Outcome TreeValue) → Type 0
CountedAs n (Ok v) = Counted n v
CountedAs n (Err q) = Among walk_refusals (reason_number q.reason)

then_counted : {A : Type 0} {n : ℕ} (a : Outcome A) (k : A → Outcome (Outcome TreeValue)) → Holds (OutcomeAmong walk_refusals) a → ((x : A) → Holds (CountedAs n) (k x)) → Holds (CountedAs n) (on_outcome a Err k)
then_counted a k h = on_outcome_lem a Err k h (λ r l. record { it = l })

value-counted : {n : ℕ} (x : Float) → Holds (CountedAs n) (Ok (Ok (record { value = x; nodes = n })))
value-counted x = record { it = refl }

walked-counted : (m : Market) (g : BondEventGrid) (tree : Lattice) → Holds (CountedAs (node_count tree)) (fit_and_walk (curve_of m) m g tree)
walked-counted m g tree = search (shifts-number, walk-number, then_counted, value-counted)

-- ---- the tree value

total-count : (ls : List Layer) (final : List ℤ) → total (widths_of ls final) ≡ count_of ls + length final
unfolding total widths_of count_of
total-count [] final = omega arith
total-count (l ∷ ls) final = omega (arith, total-count ls final)

-- How it ends, beside what stands before the fit.
pub data ValueSized (room : Room) (ws : List ℕ) : Outcome Lattice → Outcome TreeValue → Type 0 where
  was_laid : {t : Lattice} {v : Outcome TreeValue} → Fitting room (total ws) (widest ws) → Counted (total ws) v → ValueSized room ws (Ok t) v
  had_no_room : {k : ℕ} → (Fitting room (total ws) (widest ws) → ⊥) → ValueSized room ws (refusal reason.NoRoom k) (Err (record { reason = reason.NoRoom; place = k }))
  stopped : {q : Refusal} → (reason_number q.reason ≡ 21 → ⊥) → ValueSized room ws (Err q) (Err q)

as_counted : (n : ℕ) (o : Outcome (Outcome TreeValue)) → CountedAs n o → Counted n (on_outcome o Err λ v. v)
unfolding on_outcome
as_counted n (Ok v) h = h
as_counted n (Err q) h = h

pub fits_from_none : {room : Room} {n k : ℕ} → Fitting room (0 + n) k → Fitting room n k
fits_from_none {room} {n} {k} f = subst (λ (i : ℕ). Fitting room i k) (zero-add n) f

pub fits_to_none : {room : Room} {n k : ℕ} → Fitting room n k → Fitting room (0 + n) k
fits_to_none {room} {n} {k} f = subst (λ (i : ℕ). Fitting room i k) (sym (zero-add n)) f

of_layers : (room : Room) (ws : List ℕ) (o : Outcome Lattice) (k : Lattice → Outcome (Outcome TreeValue)) → Sized room 0 ws o → ((t : Lattice) → Holds (CountedAs (node_count t)) (k t)) → ValueSized room ws o (on_outcome (follow o k) Err λ v. v)
unfolding on_outcome
of_layers room ws (Ok t) k (all_laid p f) h =
    let count : node_count t ≡ total ws = sym (total-count t.layers t.final) ∙ ap total p in
    was_laid (fits_from_none f) (subst (λ (n : ℕ). Counted n (on_outcome (k t) Err λ v. v)) count (as_counted (node_count t) (k t) (h t).it))
of_layers room ws (Err q) k (no_room ne) h = had_no_room λ f. ne (fits_to_none f)
of_layers room ws (Err q) k (stopped_by ne) h = stopped ne

pub not_of_checks : (q : Refusal) → Among check_refusals (reason_number q.reason) → reason_number q.reason ≡ 21 → ⊥
not_of_checks q h e = (subst (Among check_refusals) e h).is_one

pub not_of_grid : (q : Refusal) → Among grid_refusals (reason_number q.reason) → reason_number q.reason ≡ 21 → ⊥
not_of_grid q h e = (subst (Among grid_refusals) e h).is_one

pub value-sized : (m : Market) (calls : CallSchedule) (slice : ℕ) (room : Room) (ws : List ℕ) → tree_widths m slice ≡ Ok ws → ValueSized room ws (before_fit (tree_checks m calls) m calls room) (tree_value m calls room)
unfolding tree_value tree_value_over tree_checks before_fit on_check on_outcome
value-sized m calls slice room ws e = checked (tree_checks m calls) (checks-number (float 1) m calls).it
  where
    grid : Outcome BondEventGrid
    grid = event_grid m.settlement m.bond calls m.controls

    on_grid : (o : Outcome BondEventGrid) → grid ≡ o → OutcomeAmong grid_refusals o
        → ValueSized room ws (follow o λ g. layers_at m room g.maturity_time g.steps) (on_outcome (follow o λ g. lattice_value m room g) Err λ v. v)
    on_grid (Ok g) h n =
        rw (value_from_layers (curve_of m) m g room)
        (of_layers room ws (layers_at m room g.maturity_time g.steps) (fit_and_walk (curve_of m) m g) (grid-sized m calls slice room ws g e h) (walked-counted m g))
    on_grid (Err q) h n = stopped (not_of_grid q n)

    checked : (c : Check) → CheckAmong check_refusals c
        → ValueSized room ws (on_check c Err (follow grid λ g. layers_at m room g.maturity_time g.steps))
        (on_check c Err (on_outcome (follow grid λ g. lattice_value m room g) Err λ v. v))
    checked (Ok tt) n = on_grid grid refl (grid_number_lem m.settlement m.bond calls m.controls).it
    checked (Err q) n = stopped (not_of_checks q n)

-- The node count is the sum of the widths.
pub counted_as : {room : Room} {ws : List ℕ} {o : Outcome Lattice} {v : Outcome TreeValue} {x : Float} {n : ℕ} → ValueSized room ws o v → v ≡ Ok (record { value = x; nodes = n }) → n ≡ total ws
counted_as {ws = ws} (was_laid {v = v} f c) e = subst (Counted (total ws)) e c
counted_as (had_no_room ne) e = absurd (let z : ◌≡◌ {A = ℕ} 0 1 = cc in omega arith)
counted_as (stopped ne) e = absurd (let z : ◌≡◌ {A = ℕ} 0 1 = cc in omega arith)

-- ---- how a call ends, beside what stands before the fit

-- Number 0 where it is accepted.
abbrev pub refusal_of : Outcome TreeValue → Answered
refusal_of v = record { number = number_of v; place = place_of v }

pub data Ends (room : Room) (ws : List ℕ) : Outcome Lattice → Answered → Type 0 where
  after-layers : {t : Lattice} {q : Answered} → Fitting room (total ws) (widest ws) → (q.number ≡ 21 → ⊥) → Ends room ws (Ok t) q
  without_room : {k : ℕ} → (Fitting room (total ws) (widest ws) → ⊥) → Ends room ws (refusal reason.NoRoom k) (record { number = 21; place = k })
  before-layers : {q : Refusal} → (reason_number q.reason ≡ 21 → ⊥) → Ends room ws (Err q) (answered q)

-- Where all layers fit it is never 21.
pub ends_not_21 : {room : Room} {ws : List ℕ} {o : Outcome Lattice} {q : Answered} → Fitting room (total ws) (widest ws) → Ends room ws o q → q.number ≡ 21 → ⊥
ends_not_21 fit (after-layers f ne) = ne
ends_not_21 fit (without_room ne) = λ e. ne fit
ends_not_21 fit (before-layers ne) = ne

counted_not : (n : ℕ) (v : Outcome TreeValue) → Counted n v → number_of v ≡ 21 → ⊥
counted_not n (Ok x) c e = omega arith
counted_not n (Err q) c e = (subst (Among walk_refusals) e c).is_one

pub value-ends : {room : Room} {ws : List ℕ} {o : Outcome Lattice} {v : Outcome TreeValue} → ValueSized room ws o v → Ends room ws o (refusal_of v)
value-ends {ws = ws} (was_laid {v = v} f c) = after-layers f (counted_not (total ws) v c)
value-ends (had_no_room ne) = without_room ne
value-ends (stopped ne) = before-layers ne

pub tree-ends : (m : Market) (calls : CallSchedule) (slice : ℕ) (room : Room) (ws : List ℕ) → tree_widths m slice ≡ Ok ws → Ends room ws (before_fit (tree_checks m calls) m calls room) (refusal_of (tree_value m calls room))
tree-ends m calls slice room ws e = value-ends (value-sized m calls slice room ws e)
