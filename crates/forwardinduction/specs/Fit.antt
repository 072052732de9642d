-- Definitions only. Fitting the tree to the curve: state prices forward, a shift per step.
use Rattle.std.specs.Prelude.{ℕ, suc, ◌+◌, cond, List, [], ◌∷◌, ℤ, pos, Float, Ok}
use Rattle.std.specs.Float.{binary64}
use Rattle.std.specs.Float.Ieee.{add, mul, div, neg, le}
use Rattle.floats.specs.Answers.{Answer, plus_zero, one, follow, refusal, tested, when_finite, Outcome}
use Rattle.elementary.specs.Exponential.{exp_at}
use Rattle.elementary.specs.Logarithm.{ln_at}
use Rattle.terms.specs.Numbers.{float}
use Rattle.lattice.specs.declared.Transition.{Transition}
use Rattle.lattice.specs.Layers.{below, At, node_float}
use Rattle.lattice.specs.Lattice.{Layer}
use Rattle.floats.specs.declared.Reason.TheVariants as reason

-- Weighted sum of state prices: each price × exp(spacing × (−node × time_step)), added from 0, nodes rising.
unfoldable pub weighted : Float → Float → ℕ → List At → Float → Answer
unfolding add mul neg
weighted spacing dt place [] total = Ok total
weighted spacing dt place (a ∷ row) total =
    when_finite (mul binary64 (neg (node_float a.node)) dt) place λ x.
    when_finite (mul binary64 spacing x) place λ y.
    follow (exp_at y place) λ discount.
    when_finite (mul binary64 a.value discount) place λ w.
    when_finite (add binary64 total w) place λ total. weighted spacing dt place row total

-- The curve is read at time_step × (step+1); 25: a factor ≤ 0; the shift is ln(weighted/factor)/time_step.
unfoldable pub shift_of : (Float → ℕ → Answer) → Float → ℕ → Float → Answer
unfolding mul div le
shift_of curve dt place sum =
    when_finite (mul binary64 dt (float (place + 1))) place λ time.
    follow (curve time place) λ factor.
    cond (le factor plus_zero) (refusal reason.Factor place)
    (when_finite (div binary64 sum factor) place λ quotient.
    follow (ln_at quotient place) λ log. tested (div binary64 log dt) place)

-- A contribution is added to what its destination has; the first one is stored as it is.
unfoldable pub contribute : ℕ → ℤ → Float → List At → Outcome (List At)
unfolding add
contribute place n x [] = Ok (record { node = n; value = x } ∷ [])
contribute place n x (a ∷ row) =
    cond (below n a.node) (Ok (record { node = n; value = x } ∷ a ∷ row))
    (cond (below a.node n)
    (follow (contribute place n x row) λ row. Ok (a ∷ row))
    (when_finite (add binary64 a.value x) place λ v. Ok (record { node = n; value = v } ∷ row)))

-- Discounted state price × probability, down, middle, up.
abbrev pub contribute_three : ℕ → Transition → Float → List At → Outcome (List At)
contribute_three place t price row =
    when_finite (mul binary64 price t.probability_down) place λ d.
    follow (contribute place t.down d row) λ row.
    when_finite (mul binary64 price t.probability_middle) place λ m.
    follow (contribute place t.middle m row) λ row.
    when_finite (mul binary64 price t.probability_up) place λ u. contribute place t.up u row

-- Node rising: exp((shift + spacing × node) × −time_step) × state price, then its three contributions.
unfoldable pub onward : Float → Float → Float → ℕ → List Transition → List At → List At → Outcome (List At)
unfolding contribute add mul neg
onward spacing dt shift place (t ∷ ts) (a ∷ row) next =
    when_finite (mul binary64 spacing (node_float a.node)) place λ state.
    when_finite (add binary64 shift state) place λ rate.
    when_finite (mul binary64 rate (neg dt)) place λ x.
    follow (exp_at x place) λ discount.
    when_finite (mul binary64 a.value discount) place λ price.
    follow (contribute_three place t price next) λ next. onward spacing dt shift place ts row next
onward spacing dt shift place (t ∷ ts) [] next = Ok next
onward spacing dt shift place [] row next = Ok next

-- Per step: weighted sum, curve factor, 25, ln, shift; then contributions. The last step's contributions are worked out too.
unfoldable pub shifts_from : (Float → ℕ → Answer) → Float → ℕ → List Layer → List At → Outcome (List Float)
unfolding weighted shift_of onward
shifts_from curve dt k [] row = Ok []
shifts_from curve dt k (l ∷ layers) row =
    follow (weighted l.spacing dt k row plus_zero) λ sum.
    follow (shift_of curve dt k sum) λ shift.
    follow (onward l.spacing dt shift k l.transitions row []) λ next.
    follow (shifts_from curve dt (suc k) layers next) λ shifts. Ok (shift ∷ shifts)

-- The root's state price is 1.
abbrev pub fitted : (Float → ℕ → Answer) → Float → List Layer → Outcome (List Float)
fitted curve dt layers = shifts_from curve dt 0 layers (record { node = pos 0; value = one } ∷ [])
