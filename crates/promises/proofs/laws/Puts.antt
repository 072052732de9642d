-- The rules of put lists, and of call lists beside puts, of what the C functions hand back. Assumes nothing.
use Rattle.floats.specs.Reasons.{reason_number, refusal_number}
use Rattle.std.specs.Prelude.{ℕ, ◌≡◌, refl, Ok, Err}
use Rattle.std.proofs.Common.{sym, ap, subst, ◌∙◌, inl, inr, arith}
use Rattle.floats.specs.Answers.{Check, Outcome, on_outcome}
use Rattle.terms.specs.declared.Settlement.{Settlement}
use Rattle.terms.specs.Terms.{CallSchedule, Bond, TimeGrid, Market, bond_with_puts, with_puts, with_spread}
use Rattle.terms.specs.Checks.{on_check}
use Rattle.terms.specs.CallLists.{Reordered, StrikeAbove}
use Rattle.terms.specs.Entries.{grid_checks}
use Rattle.terms.specs.laws.Lockstep.{GivenOr27, is_given, is_27}
use Rattle.terms.specs.laws.GridChecks.{grid-terms}
use Rattle.terms.specs.laws.MarketChecks.{market-puts-alike}
use Rattle.terms.proofs.MadeLists.{reordered-calls}
use Rattle.bondevents.specs.declared.BondEventGrid.{BondEventGrid}
use Rattle.bondevents.specs.Grid.{event_grid, refused_grid, accepted_grid, grid_answer}
use Rattle.bondevents.proofs.laws.GridAnswers.{accepted, checked-no_lower}
use Rattle.floats.specs.laws.Cases.{Holds}
use Rattle.lattice.specs.Layers.{Room}
use Rattle.treebasedbondpricer.specs.Tree.{tree_value, room_of, number_of, value_of, counted_by}
use Rattle.treebasedbondpricer.proofs.laws.CallLists.{any_curve_rule}
use Rattle.treebasedbondpricer.specs.laws.PutLists.{put_list_rule, put_reordering_rule, any_curve_put_rule}
use Rattle.promises.specs.Puts.{HostPutListRule, HostPutReorderingRule, CallsWithPuts, Never38, GridNever38, ListsOverCurves}
use Rattle.promises.specs.RefusalNumbers.{Among}
use Rattle.promises.proofs.laws.Numbers.{check_refusals, CheckAmong, numbers}
use Rattle.promises.proofs.laws.SpreadReordering.{with_model, AnsweredAlike}
use Rattle.promises.proofs.laws.HostCallLists.{valued, unchanged, host_call_list_rule, host_reordering_rule}

-- ---- put lists

pub host_put_list_rule : HostPutListRule
host_put_list_rule m calls first second lowered a b as_long z y =
    let p = a.handed.handed in
    let q = b.handed.handed in
    let room = room_of a.lent in
    let v = tree_value (with_puts m first) calls room in
    let w = tree_value (with_puts m second) calls room in
    let number : b.number ≡ number_of w = q.number_is ∙ ap (λ (r : Room). number_of (tree_value (with_puts m second) calls r)) as_long in
    let value : b.value ≡ value_of w = q.value_is ∙ ap (λ (r : Room). value_of (tree_value (with_puts m second) calls r)) as_long in
    let has : v ≡ Ok (record { value = (value_of v); nodes = (counted_by v) }) = valued (with_puts m first) calls room v refl (sym p.number_is ∙ z) in
    let too : w ≡ Ok (record { value = (value_of w); nodes = (counted_by w) }) = valued (with_puts m second) calls room w refl (sym number ∙ y) in
    rw (value, p.value_is) (put_list_rule m calls room first second (value_of v) (value_of w) (counted_by v) (counted_by w) lowered has too)

-- ---- reordering puts

reordered-puts-alike : (m : Market) (calls first second : CallSchedule) → Reordered first second → (refusal_number (grid_answer m.settlement (bond_with_puts m.bond first) calls m.controls).refusal) ≡ 0
    → AnsweredAlike m first calls second calls
reordered-puts-alike m calls first second r z =
    let bond = bond_with_puts m.bond first in
    let a = accepted m.settlement bond calls m.controls z in
    let k = (grid-terms m.settlement bond calls m.controls a.checked).puts in
    record {
      grids = (put_reordering_rule m calls first second r z).grids;
      checks = λ limit n. market-puts-alike limit n calls first second k (reordered-calls first second r k);
      values = λ model s. (put_reordering_rule (with_spread (with_model m model) s) calls first second r z).values;
    }

pub host_put_reordering_rule : HostPutReorderingRule
host_put_reordering_rule m calls first second r g z = unchanged (reordered-puts-alike m calls first second r (sym g.handed.number_is ∙ z))

-- ---- call lists beside any puts

pub calls-with_puts : CallsWithPuts
calls-with_puts = record { dropped_or_raised = host_call_list_rule; reordered = host_reordering_rule }

pub never_38 : Never38
never_38 m first second made a b as_long z y =
    let t = host_call_list_rule m first second made a b as_long z in
    let none : StrikeAbove second → ⊥ = λ s. let four = t.with_4.1 s in omega arith in
    elim (t.otherwise none) [
      | inl (n, l) ↦ omega arith
      | inr n ↦ omega arith
    ]

grid_checks-number : (settlement : Settlement) (bond : Bond) (calls : CallSchedule) (controls : TimeGrid) → Holds (CheckAmong check_refusals) (grid_checks settlement bond calls controls)
unfolding grid_checks
grid_checks-number settlement bond calls controls = search numbers depth 40 fits 8000

abbrev grid_number : Outcome BondEventGrid → ℕ
grid_number o = (refusal_number (on_outcome o refused_grid accepted_grid).refusal)

made_not_38 : {P : BondEventGrid → Type 0} {o : Outcome BondEventGrid} → GivenOr27 P o → grid_number o ≡ 38 → ⊥
unfolding on_outcome
made_not_38 (is_given g p n) e = let z : ◌≡◌ {A = ℕ} 0 38 = sym (ap grid_number p) ∙ e in omega (arith, z)
made_not_38 (is_27 r p n) e = let z : reason_number r.reason ≡ 38 = sym (ap grid_number p) ∙ e in omega (arith, z, ap reason_number n)

pub grid_never_38 : GridNever38
unfolding grid_answer on_check
grid_never_38 m first second made a b z y = go (grid_checks s bond second controls) (grid_checks-number s bond second controls).it (sym b.handed.number_is ∙ y)
  where
    s : Settlement
    s = m.settlement

    bond : Bond
    bond = m.bond

    controls : TimeGrid
    controls = m.controls

    go : (c : Check) → CheckAmong check_refusals c → (refusal_number (on_check c refused_grid (on_outcome (event_grid s bond second controls) refused_grid accepted_grid)).refusal) ≡ 38 → ⊥
    go (Ok tt) h e =
        let was = accepted s bond first controls (sym a.handed.number_is ∙ z) in
        made_not_38 (checked-no_lower s bond first second controls was.checked made was.grid was.has-grid) e
    go (Err q) h e = (subst (Among check_refusals) e h).is_one

-- ---- whatever the curve

pub lists-over_curves : ListsOverCurves
lists-over_curves = record { call-lists = any_curve_rule; put-lists = any_curve_put_rule }
