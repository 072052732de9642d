-- What the variances refuse with is 26 or 27; what the transitions and the layers refuse with has a number of the tree value's list. Assumes nothing.
use Rattle.std.specs.Prelude.{ℕ, zero, suc, refl, List, [], ◌∷◌, ℤ, Float}
use Rattle.rounded.specs.Root.{sqrt_at}
use Rattle.elementary.specs.Exponential.{exp_at}
use Rattle.terms.specs.Terms.{HullWhite}
use Rattle.hullwhite.specs.Variance.{weight, with_piece, pieces, variance_over, step_variance, variances_from}
use Rattle.lattice.specs.Layers.{Room}
use Rattle.lattice.specs.Transitions.{Step, transition_of}
use Rattle.lattice.specs.Lattice.{transitions_of, step_of, grown, flat, curved, lattice}
use Rattle.floats.specs.Answers.{Outcome}
use Rattle.chances.specs.laws.NeverTooLow.{Only23Or27, was_given, too_far_lem, not_finite_lem, SpacedStep, made-spaced}
use Rattle.chances.proofs.laws.NeverTooLow.{transition-only}
use Rattle.floats.specs.laws.Cases.{Holds}
use Rattle.promises.proofs.laws.Numbers.{arithmetic_refusals, built_refusals, AnswerAmong, OutcomeAmong, wider-answer, then_known, numbers}
use Rattle.promises.proofs.laws.ElementaryNumbers.{exp-number, exp_m1_number, sqrt-number}

-- ---- variances

weight-number : (alpha lower upper end : Float) (place : ℕ) → Holds (AnswerAmong arithmetic_refusals) (weight alpha lower upper end place)
weight-number alpha lower upper end place = search (exp-number, exp_m1_number, numbers) depth 24

piece_number : (alpha lower upper end sigma total : Float) (place : ℕ) → Holds (AnswerAmong arithmetic_refusals) (with_piece alpha lower upper end sigma total place)
unfolding with_piece
piece_number alpha lower upper end sigma total place = search (weight-number, numbers) depth 24

pieces-number : (times sigmas : List Float) (alpha start end lower total : Float) (place : ℕ) → Holds (AnswerAmong arithmetic_refusals) (pieces alpha start end lower times sigmas total place)
unfolding pieces
pieces-number (next ∷ times) (sigma ∷ sigmas) alpha start end lower total place =
    let later = pieces-number times sigmas in
    search (piece_number, numbers)
pieces-number [] (sigma ∷ sigmas) alpha start end lower total place = piece_number alpha lower end end sigma total place
pieces-number (next ∷ times) [] alpha start end lower total place = search numbers
pieces-number [] [] alpha start end lower total place = search numbers

variance-number : (alpha : Float) (times sigmas : List Float) (start end : Float) (place : ℕ) → Holds (AnswerAmong arithmetic_refusals) (variance_over alpha times sigmas start end place)
unfolding variance_over
variance-number alpha (first ∷ times) sigmas start end place = pieces-number times sigmas alpha start end start _ place
variance-number alpha [] sigmas start end place = search numbers

step_variance-number : (model : HullWhite) (dt : Float) (k : ℕ) → Holds (AnswerAmong arithmetic_refusals) (step_variance model dt k)
unfolding step_variance
step_variance-number model dt k = search (variance-number, numbers)

pub variances-number : (model : HullWhite) (dt : Float) (count k : ℕ) → Holds (OutcomeAmong arithmetic_refusals) (variances_from model dt count k)
unfolding variances_from
variances-number model dt zero k = search numbers
variances-number model dt (suc count) k =
    let later = variances-number model dt count (suc k) in
    search (step_variance-number, numbers)

-- ---- transitions

-- a step that is made never meets 24
transition-number : (s : Step) → SpacedStep s → (node : ℤ) → Holds (OutcomeAmong built_refusals) (transition_of s node)
transition-number s sp node = go (transition-only s sp node)
  where
    go : {A : Type 0} {o : Outcome A} → Only23Or27 o → Holds (OutcomeAmong built_refusals) o
    go was_given = search numbers
    go too_far_lem = search numbers
    go not_finite_lem = search numbers

transitions-number : (s : Step) → SpacedStep s → (nodes : List ℤ) → Holds (OutcomeAmong built_refusals) (transitions_of s nodes)
unfolding transitions_of
transitions-number s sp [] = search numbers
transitions-number s sp (n ∷ ns) =
    let now = transition-number s sp n in
    let later = transitions-number s sp ns in
    search numbers

-- ---- layers

decay-number : (x : Float) (place : ℕ) → Holds (AnswerAmong built_refusals) (exp_at x place)
decay-number x place = wider-answer arithmetic_refusals built_refusals refl (exp_at x place) (exp-number x place)

root_number_lem : (x : Float) (place : ℕ) → Holds (AnswerAmong built_refusals) (sqrt_at x place)
root_number_lem x place = wider-answer arithmetic_refusals built_refusals refl (sqrt_at x place) (sqrt-number x place)

step-number : (spacing decay variance : Float) (k : ℕ) → Holds (OutcomeAmong built_refusals) (step_of spacing decay variance k)
unfolding step_of
step-number spacing decay variance k = search (root_number_lem, numbers) depth 24

grown-number : (variances : List Float) (room : Room) (decay spacing : Float) (before : ℕ) (nodes : List ℤ) (k : ℕ) → Holds (OutcomeAmong built_refusals) (grown room decay spacing before nodes k variances)
unfolding grown
grown-number [] room decay spacing before nodes k = search numbers
grown-number (v ∷ vs) room decay spacing before nodes k =
    let later = grown-number vs in
    then_known (step_of spacing decay v k) _ (step-number spacing decay v k) λ s e.
    let now = transitions-number s (made-spaced spacing decay v k s e) nodes in
    search numbers

flat-number : (left : ℕ) (room : Room) (k : ℕ) → Holds (OutcomeAmong built_refusals) (flat room k left)
unfolding flat
flat-number zero room k = search numbers
flat-number (suc left) room k =
    let later = flat-number left in
    search numbers

curved-number : (room : Room) (alpha dt : Float) (variances : List Float) → Holds (OutcomeAmong built_refusals) (curved room alpha dt variances)
unfolding curved
curved-number room alpha dt [] = search numbers
curved-number room alpha dt (v ∷ vs) = search (decay-number, root_number_lem, grown-number, numbers)

pub lattice-number : (room : Room) (alpha dt : Float) (variances : List Float) → Holds (OutcomeAmong built_refusals) (lattice room alpha dt variances)
unfolding lattice
lattice-number room alpha dt variances = search (flat-number, curved-number, numbers)
