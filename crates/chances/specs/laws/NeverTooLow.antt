-- 24 is never given: every step that is made has probabilities of at least 0.04 before clamping. Assumes nothing.
use Rattle.std.specs.Prelude.{ℕ, ◌≡◌, Bool, true, false, not, cond, ◌||◌, ℤ, Float, Ok, Err}
use Rattle.std.proofs.Math.Path.{refl}
use Rattle.std.proofs.Common.{sym, subst}
use Rattle.std.proofs.Math.Dec.{T, not_T}
use Rattle.std.specs.Float.Ieee.{binary64, add, mul, div, neg, le, lt, of_bits}
use Rattle.std.specs.Float.Ieee.Bits.{is_false}
use Rattle.std.specs.Float.Ieee.Scale.{finite}
use Rattle.floats.specs.Refusals.{Refusal}
use Rattle.floats.specs.Answers.{Answer, plus_zero, two, on_outcome, not_finite, Outcome, follow, refusal}
use Rattle.floats.specs.Extremes.{max_of}
use Rattle.floats.specs.laws.Order as order
use Rattle.floats.specs.laws.Order.{number_of-finite, not_le_of_lt, lt_of_not_le, T-of_not}
use Rattle.floats.specs.laws.Finite.{finite_of_mul}
use Rattle.elementary.specs.laws.Values.{passed}
use Rattle.rounded.specs.Root.{root_of}
use Rattle.rounded.specs.laws.RootBounds.{sqrt_at-root}
use Rattle.terms.specs.Numbers.{float, epsilon, tolerance}
use Rattle.terms.specs.laws.Outcomes.{Gives, gives, nothing, given_of, gives-finite}
use Rattle.lattice.specs.Transitions.{Step, too_low, clamped}
use Rattle.lattice.specs.Lattice.{spacing_of, step_of}
use Rattle.chances.specs.Unclamped.{least_probability}
use Rattle.chances.specs.laws.Spaced.{Spaced, spaced}
use Rattle.chances.specs.laws.ChanceFloor.{Floored}
use Rattle.floats.specs.declared.Reason.TheVariants as reason

-- ---- what a transition can be: given, or refused with 23 or with 27

pub data Only23Or27 {A : Type 0} : Outcome A → Type 0 where
  was_given : {x : A} → Only23Or27 (Ok x)
  too_far_lem : {place : ℕ} → Only23Or27 (refusal reason.NodeTooFar place)
  not_finite_lem : {place : ℕ} → Only23Or27 (refusal reason.NotFinite place)

module _ {A : Type 0} where
  pub only-finite : (x : Float) (place : ℕ) (o : Outcome A) → (T (finite x) → Only23Or27 o) → Only23Or27 (cond (not_finite x) (refusal reason.NotFinite place) o)
  only-finite x place o h = go (finite x) h
    where
      go : (b : Bool) → (T b → Only23Or27 o) → Only23Or27 (cond (not b) (refusal reason.NotFinite place) o)
      go true h = h tt
      go false h = not_finite_lem

  pub only-near : (b : Bool) (place : ℕ) (o : Outcome A) → (b ≡ false → Only23Or27 o) → Only23Or27 (cond b (refusal reason.NodeTooFar place) o)
  only-near true place o h = too_far_lem
  only-near false place o h = h refl

pub only-follow : {A B : Type 0} (o : Outcome A) (k : A → Outcome B) → Only23Or27 o → ((x : A) → o ≡ Ok x → Only23Or27 (k x)) → Only23Or27 (follow o k)
unfolding on_outcome
only-follow o k (was_given {x = x}) h = h x refl
only-follow o k too_far_lem h = too_far_lem
only-follow o k not_finite_lem h = not_finite_lem

-- ---- a probability of at least 0.04 isn't too low

not_low : (p : Float) → T (le least_probability p) → too_low p ≡ false
unfolding of_bits neg le
not_low p h = is_false (lt p (neg tolerance)) (not_T (lt p (neg tolerance)) (λ l. not_le_of_lt p (neg tolerance) l (order.le_trans (neg tolerance) least_probability p tt h)))

pub none-low : (down mid up : Float) → Floored down mid up → too_low down || (too_low mid || too_low up) ≡ false
none-low down mid up f = rw (not_low down f.down_least, not_low mid f.middle-least, not_low up f.up_least)

-- ---- one transition

pub clamped-only : (n : ℤ) (down mid up : Float) (place : ℕ) → Only23Or27 (clamped n down mid up place)
unfolding clamped
clamped-only n down mid up place =
    let d = max_of down plus_zero in
    let m = max_of mid plus_zero in
    let u = max_of up plus_zero in
    let w = add binary64 (add binary64 d m) u in
    only-finite (add binary64 d m) place _ λ _.
    only-finite w place _ λ _.
    only-finite (div binary64 d w) place _ λ _.
    only-finite (div binary64 m w) place _ λ _.
    only-finite (div binary64 u w) place _ λ _. was_given

-- ---- every step that is made: 22 is tried first, so its variance is above 2^−52

abbrev pub SpacedStep : Step → Type 0
SpacedStep s = Spaced s.new_spacing s.denominator s.scale

spacing-value : (v : Float) (place : ℕ) (new : Float) → spacing_of v place ≡ Ok new → T (finite (mul binary64 v (float 3))) × (root_of (mul binary64 v (float 3)) ≡ new)
spacing-value v place new e =
    let x = mul binary64 v (float 3) in
    let r = sqrt_at-root x place new (passed (not_finite x) reason.NotFinite place _ new e).1 in
    (r.of_finite, r.is_root)

module _ {A : Type 0} {P : A → Type 0} where
  gives-passed : (b : Bool) (r : Refusal) (o : Outcome A) → (b ≡ false → Gives P o) → Gives P (cond b (Err r) o)
  gives-passed true r o h = nothing
  gives-passed false r o h = h refl

  gives-value : (a : Answer) (k : Float → Outcome A) → ((x : Float) → a ≡ Ok x → Gives P (k x)) → Gives P (follow a k)
  unfolding on_outcome
  gives-value (Ok x) k h = h x refl
  gives-value (Err r) k h = nothing

step-spaced : (spacing decay v : Float) (k : ℕ) → Gives SpacedStep (step_of spacing decay v k)
unfolding step_of
step-spaced spacing decay v k =
    gives-passed (le v epsilon) _ _ λ e.
    gives-value (spacing_of v k) _ λ new w.
    let p = spacing-value v k new w in
    let fv = (finite_of_mul binary64 v (float 3) p.0).0 in
    let above : T (lt epsilon v) = lt_of_not_le epsilon v (unfold of_bits in tt) (number_of-finite v fv) (T-of_not (le v epsilon) e) in
    gives-finite (mul binary64 v (float 6)) _ _ λ fd.
    gives-finite (mul binary64 new two) _ _ λ fs.
    gives
    (subst (λ (h : Float). Spaced h (mul binary64 v (float 6)) (mul binary64 h two)) p.1
    (spaced v above p.0 fd (subst (λ (h : Float). T (finite (mul binary64 h two))) (sym p.1) fs)))

pub made-spaced : (spacing decay v : Float) (k : ℕ) (s : Step) → step_of spacing decay v k ≡ Ok s → SpacedStep s
made-spaced spacing decay v k s e = given_of (step-spaced spacing decay v k) e
