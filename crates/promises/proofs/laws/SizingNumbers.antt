-- Which numbers sizing refuses with: those of the input checks, and 21, 22, 23, 26 and 27 of the widths. Assumes nothing.
use Rattle.floats.specs.Reasons.{reason_number}
use Rattle.std.specs.Prelude.{ℕ, zero, suc, ◌≡◌, refl, List, [], ◌∷◌, length, ℤ, Float, Ok, Err}
use Rattle.std.proofs.Common.{sym, ap, subst, ◌∙◌}
use Rattle.rounded.specs.Root.{sqrt_at}
use Rattle.elementary.specs.Exponential.{exp_at}
use Rattle.floats.specs.Answers.{Check, Outcome, on_outcome}
use Rattle.terms.specs.Numbers.{float}
use Rattle.terms.specs.Terms.{HullWhite, CallSchedule, Market}
use Rattle.terms.specs.Checks.{on_check}
use Rattle.terms.specs.Entries.{tree_checks}
use Rattle.hullwhite.specs.Variance.{variances_from}
use Rattle.lattice.specs.Transitions.{middle_of}
use Rattle.floats.specs.laws.Cases.{Holds}
use Rattle.widths.specs.Widths.{middle_nodes, new_spacing, widths_from, flat_widths, curved_widths, widths}
use Rattle.sizing.specs.declared.Lengths.{Lengths}
use Rattle.sizing.specs.Sizing.{tree_widths, sizes_from, sizes_of, sizes_number}
use Rattle.promises.specs.RefusalNumbers.{Among}
use Rattle.promises.specs.Sizing.{sizing_refusals}
use Rattle.promises.specs.Sizing as page
use Rattle.promises.proofs.laws.Numbers.{one_of, one_more, arithmetic_refusals, check_refusals, AnswerAmong, OutcomeAmong, CheckAmong, wider-answer, wider-outcome, wider_check, numbers}
use Rattle.promises.proofs.laws.ElementaryNumbers as elementary
use Rattle.promises.proofs.laws.GridNumbers.{checks-number}
use Rattle.promises.proofs.laws.LatticeNumbers as lattices

abbrev width_refusals : List ℕ
width_refusals = 21 ∷ 22 ∷ 23 ∷ 26 ∷ 27 ∷ []

exp-number : (x : Float) (place : ℕ) → Holds (AnswerAmong width_refusals) (exp_at x place)
exp-number x place = wider-answer arithmetic_refusals width_refusals refl (exp_at x place) (elementary.exp-number x place)

sqrt-number : (x : Float) (place : ℕ) → Holds (AnswerAmong width_refusals) (sqrt_at x place)
sqrt-number x place = wider-answer arithmetic_refusals width_refusals refl (sqrt_at x place) (elementary.sqrt-number x place)

variances-number : (model : HullWhite) (dt : Float) (count k : ℕ) → Holds (OutcomeAmong width_refusals) (variances_from model dt count k)
variances-number model dt count k = wider-outcome arithmetic_refusals width_refusals refl _ (lattices.variances-number model dt count k)

middle-number : (spacing decay new : Float) (place : ℕ) (n : ℤ) → Holds (OutcomeAmong width_refusals) (middle_of spacing decay new place n)
unfolding middle_of
middle-number spacing decay new place n = search numbers depth 24

middles-number : (ns : List ℤ) (spacing decay new : Float) (place : ℕ) → Holds (OutcomeAmong width_refusals) (middle_nodes spacing decay new place ns)
unfolding middle_nodes
middles-number [] spacing decay new place = search numbers
middles-number (n ∷ ns) spacing decay new place =
    let later = middles-number ns in
    search (middle-number, numbers)

spacing-number : (variance : Float) (k : ℕ) → Holds (OutcomeAmong width_refusals) (new_spacing variance k)
unfolding new_spacing
spacing-number variance k = search (sqrt-number, numbers)

widths_from-number : (vs : List Float) (room : ℕ) (decay spacing : Float) (nodes : List ℤ) (k : ℕ) → Holds (OutcomeAmong width_refusals) (widths_from room decay spacing nodes k vs)
unfolding widths_from
widths_from-number [] room decay spacing nodes k = search numbers
widths_from-number (v ∷ vs) room decay spacing nodes k =
    let later = widths_from-number vs in
    search (spacing-number, middles-number, numbers)

flat-number : (left room k : ℕ) → Holds (OutcomeAmong width_refusals) (flat_widths room k left)
unfolding flat_widths
flat-number zero room k = search numbers
flat-number (suc left) room k =
    let later = flat-number left in
    search numbers

curved-number : (room : ℕ) (alpha dt : Float) (vs : List Float) → Holds (OutcomeAmong width_refusals) (curved_widths room alpha dt vs)
unfolding curved_widths
curved-number room alpha dt [] = search numbers
curved-number room alpha dt (v ∷ vs) = search (exp-number, sqrt-number, widths_from-number, numbers)

widths-number : (room : ℕ) (alpha dt : Float) (vs : List Float) → Holds (OutcomeAmong width_refusals) (widths room alpha dt vs)
unfolding widths
widths-number room alpha dt vs = search (flat-number, curved-number, numbers)

tree_widths-number : (m : Market) (room : ℕ) → Holds (OutcomeAmong width_refusals) (tree_widths m room)
unfolding tree_widths
tree_widths-number m room = search (variances-number, widths-number, numbers)

abbrev SizesAmong : List ℕ → Outcome Lengths → Type 0
SizesAmong ns (Ok l) = Unit
SizesAmong ns (Err q) = Among ns (reason_number q.reason)

of_widths : (ns : List ℕ) (o : Outcome (List ℕ)) → OutcomeAmong ns o → SizesAmong ns (on_outcome o Err sizes_from)
unfolding on_outcome
of_widths ns (Ok ws) h = tt
of_widths ns (Err q) h = h

checks_among : (m : Market) (calls : CallSchedule) → CheckAmong sizing_refusals (tree_checks m calls)
unfolding tree_checks
checks_among m calls = (wider_check check_refusals sizing_refusals refl (tree_checks m calls) (checks-number (float 1) m calls)).it

sizes_number_lem : (m : Market) (calls : CallSchedule) (room : ℕ) → SizesAmong sizing_refusals (sizes_of m calls room)
unfolding sizes_of on_check
sizes_number_lem m calls room = go (tree_checks m calls) (checks_among m calls)
  where
    go : (c : Check) → CheckAmong sizing_refusals c → SizesAmong sizing_refusals (on_check c Err (on_outcome (tree_widths m room) Err sizes_from))
    go (Ok tt) h = of_widths sizing_refusals (tree_widths m room) (wider-outcome width_refusals sizing_refusals refl (tree_widths m room) (tree_widths-number m room)).it
    go (Err q) h = h

or_0 : (v : Outcome Lengths) → SizesAmong sizing_refusals v → Among (0 ∷ sizing_refusals) (sizes_number v)
or_0 (Ok l) h = one_of 0 refl
or_0 (Err q) h = one_more 0 (reason_number q.reason) h

pub sizing_numbers : page.SizingNumbers
sizing_numbers m calls s = rw s.handed.handed.number_is (or_0 (sizes_of m calls (length s.lent)) (sizes_number_lem m calls (length s.lent)))

-- Terms that pass the checks are never refused with 4.
or_0_widths : (o : Outcome (List ℕ)) → OutcomeAmong width_refusals o → Among (0 ∷ width_refusals) (sizes_number (on_outcome o Err sizes_from))
unfolding on_outcome
or_0_widths (Ok ws) h = one_of 0 refl
or_0_widths (Err q) h = one_more 0 (reason_number q.reason) h

pub never_4 : (m : Market) (calls : CallSchedule) (room : ℕ) → tree_checks m calls ≡ Ok tt → sizes_number (sizes_of m calls room) ≡ 4 → ⊥
unfolding sizes_of on_check
never_4 m calls room p e =
    let passed = ap (λ (c : Check). sizes_number (on_check c Err (on_outcome (tree_widths m room) Err sizes_from))) (sym p) in
    (subst (Among (0 ∷ width_refusals)) (passed ∙ e) (or_0_widths (tree_widths m room) (tree_widths-number m room).it)).is_one

-- Number 0 is no refusal's: the widths are known, and these are the lengths.
pub accepted : (m : Market) (calls : CallSchedule) (room : ℕ) → sizes_number (sizes_of m calls room) ≡ 0 → (ws : List ℕ) × (tree_widths m room ≡ Ok ws) × (sizes_of m calls room ≡ sizes_from ws)
unfolding sizes_of on_check on_outcome
accepted m calls room e =
    go (tree_checks m calls) (tree_widths m room) refl (checks_among m calls) (wider-outcome width_refusals sizing_refusals refl (tree_widths m room) (tree_widths-number m room)).it e
  where
    go : (c : Check) (o : Outcome (List ℕ)) → tree_widths m room ≡ o → CheckAmong sizing_refusals c → OutcomeAmong sizing_refusals o
        → sizes_number (on_check c Err (on_outcome o Err sizes_from)) ≡ 0
        → (ws : List ℕ) × (tree_widths m room ≡ Ok ws) × (on_check c Err (on_outcome o Err sizes_from) ≡ sizes_from ws)
    go (Ok tt) (Ok ws) p h k z = (ws, p, refl)
    go (Ok tt) (Err q) p h k z = absurd (subst (Among sizing_refusals) z k).is_one
    go (Err q) o p h k z = absurd (subst (Among sizing_refusals) z h).is_one
