-- Definitions only. bracketed_root: up to 64 widenings, then 256 halvings; each round takes the bracket and hands back the next.
use Rattle.std.specs.Prelude.{ℕ, zero, suc, ◌+◌, Bool, cond, not, ◌&&◌, Float, Result, Ok, Err}
use Rattle.std.specs.Float.{binary64}
use Rattle.std.specs.Float.Ieee.{of_bits, sub, neg, le, lt}
use Rattle.floats.specs.Refusals.{Refusal}
use Rattle.floats.specs.Answers.{Answer, Outcome, plus_zero, two, on_outcome, not_finite}
use Rattle.floats.specs.Reasons.{reason_number}
use Rattle.floats.specs.Extremes.{max_of}
use Rattle.rounded.specs.Fused.{mul_add_at, mul_add}
use Rattle.floats.specs.Middle.{midpoint_at}
use Rattle.terms.specs.Numbers.{tolerance, width_tolerance, epsilon}
use Rattle.brackets.specs.declared.Bracket.{Bracket}
use Rattle.brackets.specs.declared.Widened.{Widened}
use Rattle.brackets.specs.declared.Widened.TheVariants as widened
use Rattle.brackets.specs.declared.Halved.{Halved}
use Rattle.brackets.specs.declared.Halved.TheVariants as halved
use Rattle.brackets.specs.declared.Root.{Root}
use Rattle.brackets.specs.declared.NoRoot.{NoRoot}
use Rattle.floats.specs.declared.Reason.TheVariants as reason

-- ---- what a step of the search answers: its value, or why there is no root and the evaluations made

abbrev pub Searched : Type 0 → Type 0
Searched A = Result A NoRoot

abbrev pub no_root : {A : Type 0} → Refusal → ℕ → Searched A
no_root r n = Err (record { refusal = r; evaluations = n })

-- What is worked out on the way, with the evaluations made where it is refused.
unfoldable pub counted : {A : Type 0} → Outcome A → ℕ → Searched A
counted (Ok x) n = Ok x
counted (Err r) n = no_root r n

abbrev pub found_root : Float → ℕ → Searched Root
found_root x n = Ok (record { at = x; evaluations = n })

-- ---- the steps

-- The objective at a tried argument; one that refuses counts.
abbrev pub try {ℓ} : {A : Type ℓ} → (Float → Answer) → Float → ℕ → (Refusal → ℕ → A) → (Float → ℕ → A) → A
try objective x evaluations stop go = on_outcome (objective x) (λ r. stop r (evaluations + 1)) (λ y. go y (evaluations + 1))

-- |x| below a limit.
abbrev pub small : Float → Float → Bool
small limit x = lt (neg limit) x && lt x limit

-- The objective falls through 0 between the ends.
abbrev pub bracketed : Bracket → Bool
bracketed b = le plus_zero b.at_lower && le b.at_upper plus_zero

-- 0.01
abbrev pub step : Float
step = of_bits binary64 0x3f84_7ae1_47ae_147b

-- An upper end whose objective is above 0 moves to 2 × it + 0.01.
unfoldable pub raised : (Float → Answer) → Bracket → Searched Widened
unfolding mul_add on_outcome lt
raised objective b =
    cond (lt plus_zero b.at_upper)
    (on_outcome (mul_add_at two b.upper step 0) (λ r. no_root r b.evaluations)
    λ upper. try objective upper b.evaluations no_root λ y n.
    Ok (widened.Next
    (record { lower = b.lower; upper = upper; at_lower = b.at_lower; at_upper = y; evaluations = n })))
    (Ok (widened.Next b))

-- A lower end whose objective is below 0 moves to 2 × it − 0.01, not past the lowest; where it can't move, widening ends.
unfoldable pub widen : (Float → Answer) → Float → Bracket → Searched Widened
unfolding raised mul_add on_outcome max_of sub neg le lt
widen objective lowest b =
    cond (bracketed b) (Ok (widened.Last b))
    (cond (lt b.at_lower plus_zero)
    (on_outcome (mul_add_at two b.lower (neg step) 0) (λ r. no_root r b.evaluations)
    λ x. let candidate = max_of x lowest in
    cond (not_finite (sub binary64 candidate b.lower))
    (no_root (record { reason = reason.NotFinite; place = 0 }) b.evaluations)
    (cond (small epsilon (sub binary64 candidate b.lower)) (Ok (widened.Last b))
    (try objective candidate b.evaluations no_root λ y n.
    raised objective
    (record { lower = candidate; upper = b.upper; at_lower = y; at_upper = b.at_upper; evaluations = n }))))
    (raised objective b))

-- The width is tested on the bracket before it is halved; both tolerances are strict.
unfoldable pub halve : (Float → Answer) → Bracket → Searched Halved
unfolding on_outcome sub neg lt
halve objective b =
    on_outcome (midpoint_at b.lower b.upper 0) (λ r. no_root r b.evaluations)
    λ middle. try objective middle b.evaluations no_root λ y n.
    cond (small tolerance y) (Ok (halved.Found (record { at = middle; evaluations = n })))
    (cond (not_finite (sub binary64 b.upper b.lower)) (no_root (record { reason = reason.NotFinite; place = 0 }) n)
    (cond (small width_tolerance (sub binary64 b.upper b.lower)) (Ok (halved.Found (record { at = middle; evaluations = n })))
    (cond (lt plus_zero y)
    (Ok (halved.Next (record { lower = middle; upper = b.upper; at_lower = y; at_upper = b.at_upper; evaluations = n })))
    (Ok (halved.Next (record { lower = b.lower; upper = middle; at_lower = b.at_lower; at_upper = y; evaluations = n }))))))

unfoldable pub on_widened {ℓ} : {A : Type ℓ} → Searched Widened → (Refusal → ℕ → A) → (Bracket → A) → (Bracket → A) → A
on_widened (Ok (widened.Next b)) stop last next = next b
on_widened (Ok (widened.Last b)) stop last next = last b
on_widened (Err e) stop last next = stop e.refusal e.evaluations

unfoldable pub on_halved {ℓ} : {A : Type ℓ} → Searched Halved → (Refusal → ℕ → A) → (Float → ℕ → A) → (Bracket → A) → A
on_halved (Ok (halved.Next b)) stop found next = next b
on_halved (Ok (halved.Found x)) stop found next = found x.at x.evaluations
on_halved (Err e) stop found next = stop e.refusal e.evaluations

-- 30: not converged.
unfoldable pub halving : (Float → Answer) → ℕ → Bracket → Searched Root
unfolding halve on_halved
halving objective zero b = no_root (record { reason = reason.NotConverged; place = 0 }) b.evaluations
halving objective (suc left) b = on_halved (halve objective b) no_root found_root λ b. halving objective left b

-- After widening: an end within 1e-12 of 0 is the root; 29: no bracket; else the halvings.
unfoldable pub settled : (Float → Answer) → Bracket → Searched Root
unfolding halving lt le neg
settled objective b =
    cond (small tolerance b.at_lower) (found_root b.lower b.evaluations)
    (cond (small tolerance b.at_upper) (found_root b.upper b.evaluations)
    (cond (not (bracketed b)) (no_root (record { reason = reason.NoBracket; place = 0 }) b.evaluations) (halving objective 256 b)))

unfoldable pub widening : (Float → Answer) → Float → ℕ → Bracket → Searched Root
unfolding widen on_widened settled
widening objective lowest zero b = settled objective b
widening objective lowest (suc left) b =
    on_widened (widen objective lowest b) no_root (settled objective) λ b. widening objective lowest left b

-- From two ends, the lower one not below the lowest.
unfoldable pub bracketed_root : (Float → Answer) → Float → Float → Float → Searched Root
unfolding widening on_outcome max_of
bracketed_root objective lower upper lowest =
    try objective (max_of lower lowest) 0 no_root λ y n.
    try objective upper n no_root λ z n.
    widening objective lowest 64
    (record { lower = max_of lower lowest; upper = upper; at_lower = y; at_upper = z; evaluations = n })

-- ---- 01's number and values for each case

abbrev pub root_number : Searched Root → ℕ
root_number (Ok x) = 0
root_number (Err e) = reason_number e.refusal.reason

abbrev pub root_place : Searched Root → ℕ
root_place (Ok x) = 0
root_place (Err e) = e.refusal.place

abbrev pub root_value : Searched Root → Float
root_value (Ok x) = x.at
root_value (Err e) = plus_zero

-- Evaluations are reported on refusals too.
abbrev pub evaluations_of : Searched Root → ℕ
evaluations_of (Ok x) = x.evaluations
evaluations_of (Err e) = e.evaluations
