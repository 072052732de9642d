-- What the tests of `sqrt_at` say of its argument, and its value where it isn't refused.
-- Assumes nothing.
use Rattle.std.specs.Prelude.{Ok, Err}
use mathlib.Core.Path.{◌≡◌, refl, sym, ap, ◌∙◌, subst}
use mathlib.Core.Bool.{Bool, true, false, not, cond, true≢false, ◌&&◌, ◌||◌, beq}
use mathlib.Core.Logic.{inl, inr}
use Prim.Native.Nat.{ℕ, ◌+◌, ◌*◌, ◌≤◌}
use native.Mathlib.Nat.{eq-zero-or-pos, zero-mul}
use native.Mathlib.Omega.{arith}
use borrow.Author.Tests.{ltb-false}
use lib.Dec.{T, eqb, eqb→eq, lt→ltb}
use lib.IntN.{ℤ}
use lib.Ieee.{Float, nan, inf, fin, up, down, lt, eq, of_bits}
use lib.Ieee.Fits.{and_l, and_i, eq→eqb}
use lib.Ieee.Positive.{num, positive}
use lib.Ieee.Scale.{finite}
use Rattle.floats.specs.Refusals.{Refusal}
use Rattle.floats.specs.Answers.{Answer, plus_zero, refusal, tested, when_finite}
use Rattle.floats.proofs.Laws.{left, taken}
use Rattle.floats.specs.laws.Propagation.{passed_test, passed_on, passes, stopped}
use Rattle.rounded.specs.Root.{root_of, sqrt_at}
use Rattle.rounded.specs.laws.RootBounds.{root_of_bounds, zero-root}
use Rattle.floats.specs.declared.Reason.TheVariants as reason

-- ---- a flag as a fact

flag : {b : Bool} → b ≡ true → T b
flag e = subst T (sym e) tt

no_flag : (b : Bool) → not b ≡ false → T b
no_flag true e = tt
no_flag false e = absurd (true≢false e)

no_truth : {b : Bool} → T b → b ≡ false → ⊥
no_truth t e = subst T e t

-- ---- x == 0.0

none : (x : Float) → eq x plus_zero ≡ true → num x ≡ 0
unfolding eq of_bits
none nan h = refl
none (inf s) h = refl
none (fin s m e) h =
    let k : m * up e * 1 ≡ 0 * down e = eqb→eq (m * up e * 1) (0 * down e) (and_l (eqb (m * up e * 1) (0 * down e)) (beq s false || eqb (m * up e * 1) 0) (flag h)) in
    omega arith

pub zero-value : (x : Float) → eq x plus_zero ≡ true → x ≡ root_of x
zero-value x e = sym (zero-root x (none x e))

-- ---- neither below 0 nor 0

same : (e : ℤ) (m : ℕ) → m * up e ≡ 0 → T (eqb (m * up e * 1) (0 * down e))
same e m z = eq→eqb {a = m * up e * 1} {b = 0 * down e} (omega arith)

pub positive-value : (x : Float) → T (finite x) → lt x plus_zero ≡ false → eq x plus_zero ≡ false → T (positive x)
unfolding lt eq of_bits
positive-value nan f l e = absurd f
positive-value (inf s) f l e = absurd f
positive-value (fin true m d) f l e =
    let z : m * up d * 1 + 0 * down d ≤ 0 = ltb-false 0 (m * up d * 1 + 0 * down d) l in
    let t : T (eqb (m * up d * 1) (0 * down d) && eqb (m * up d * 1) 0) = and_i (eqb (m * up d * 1) (0 * down d)) (eqb (m * up d * 1) 0) (same d m (omega arith)) (eq→eqb {a = m * up d * 1} {b = 0} (omega arith)) in
    absurd (no_truth t e)
positive-value (fin false m d) f l e = elim (eq-zero-or-pos m) [
  | inl z ↦ absurd (no_truth (and_i (eqb (m * up d * 1) (0 * down d)) true (same d m (ap (λ (v : ℕ). v * up d) z ∙ zero-mul (up d))) tt) e)
  | inr p ↦ lt→ltb 0 m p
]

-- ---- the answer, where x passed the test as z and where it didn't

-- The answer for a finite number, and the definition.
abbrev of_finite : Float → ℕ → Answer
of_finite x place = cond (lt x plus_zero) (refusal reason.Outside place) (tested (root_of x) place)

is_when : (x : Float) (place : ℕ) {a : Answer} → a ≡ when_finite x place (λ x. of_finite x place) → a ≡ sqrt_at x place
unfolding sqrt_at
is_when x place h = h

pub refused : (x : Float) (place : ℕ) {r : Refusal} {a : Answer} → tested x place ≡ Err r → a ≡ Err r → a ≡ sqrt_at x place
refused x place t e = is_when x place (stopped (λ x. of_finite x place) x place t e)

module _ (x : Float) (place : ℕ) {z : Float} (t : tested x place ≡ Ok z) where
  pub passed : T (finite z)
  passed = let q = passed_test x place t in subst (λ (v : Float). T (finite v)) (sym q.0) q.1

  of_passed : {a : Answer} → a ≡ of_finite z place → a ≡ sqrt_at x place
  of_passed e = is_when x place (passed_on (λ x. of_finite x place) x place t (λ f. e))

  pub below_zero : lt z plus_zero ≡ true → refusal reason.Outside place ≡ sqrt_at x place
  below_zero l = of_passed (taken (lt z plus_zero) _ _ l refl)

  pub root_at : (y : Float) → lt z plus_zero ≡ false → y ≡ root_of z → Ok y ≡ sqrt_at x place
  root_at y l e =
      of_passed (left (lt z plus_zero) _ _ l (ap Ok e ∙ sym (passes (root_of z) place Ok (root_of_bounds z passed).is_finite)))
