-- One test in place of several: where what isn't finite makes a later result of the same node not finite, the later test gives the same refusal. Assumes nothing.
use Rattle.std.specs.Prelude.{Ok, Err}
use Prim.Native.Nat.{ℕ}
use mathlib.Core.Path.{◌≡◌, refl, sym, ◌∙◌}
use mathlib.Core.Bool.{Bool, true, false, not, cond, ◌||◌}
use native.Mathlib.Omega.{arith}
use lib.Dec.{T}
use lib.IntN.{ℤ, pred_ℤ, suc_ℤ}
use lib.Ieee.{Float, nan, inf, fin, binary64, add, sub, mul, div, fits}
use lib.Ieee.Scale.{finite}
use Rattle.floats.specs.Refusals.{Refusal}
use Rattle.floats.specs.Answers.{one, two, not_finite, Outcome, plus_zero, tested, when_finite, refusal}
use Rattle.floats.specs.Whole.{rounded}
use Rattle.floats.specs.laws.Propagation.{passed_test, add_left, add_right, sub-left, sub_right, mul_left, div_left}
use Rattle.lattice.specs.declared.Middle.{Middle}
use Rattle.lattice.specs.declared.Transition.{Transition}
use Rattle.floats.specs.Extremes.{max_of}
use Rattle.lattice.specs.Transitions.{Step, too_low, clamped, middle_of}
use Rattle.lattice.specs.laws.Making.{six, three, shares, chances, centred, held, state_of, expectation_of, quotient_of, from_rounded}
use Rattle.floats.specs.declared.Reason.TheVariants as reason

-- ---- tests that give the same refusal

module _ {A : Type 0} (r o : A) where
  pub test_once : (b d : Bool) → (T b → T d) → cond b r (cond d r o) ≡ cond d r o
  test_once true true h = refl
  test_once true false h = absurd (h tt)
  test_once false d h = refl

  pub test_third : (a b d : Bool) → (T a → T d) → (T b → T d) → cond a r (cond b r (cond d r o)) ≡ cond d r o
  test_third a b d h k = rw (test_once b d k) (test_once a d h)

  test_fifth : (a b c e d : Bool) → (T a → T d) → (T b → T d) → (T c → T d) → (T e → T d) → cond a r (cond b r (cond c r (cond e r (cond d r o)))) ≡ cond d r o
  test_fifth a b c e d h k l m = rw (test_third c e d l m) (test_third a b d h k)

tested-not : (b : Bool) → T b → not b ≡ false
tested-not true t = refl
tested-not false t = absurd t

-- What a test refused, it refused with 27.
refused_by_test : (x : Float) (place : ℕ) {r : Refusal} → tested x place ≡ Err r → (not_finite x ≡ true) × (record { reason = reason.NotFinite; place = place } ≡ r)
refused_by_test nan place e = (refl, cc)
refused_by_test (inf s) place e = (refl, cc)
refused_by_test (fin s m d) place e = absurd (let z : ◌≡◌ {A = ℕ} 0 1 = cc in omega arith)

pub test_before : (b d : Bool) → (T b → T d) → d ≡ false → b ≡ false
test_before true true h e = e
test_before true false h e = absurd (h tt)
test_before false d h e = refl

-- ---- the parts of a transition

pub clamped-shares : (middle : ℤ) (down mid up : Float) (place : ℕ) → shares middle (max_of down plus_zero) (max_of mid plus_zero) (max_of up plus_zero) place ≡ clamped middle down mid up place
unfolding shares clamped
clamped-shares middle down mid up place = refl

pub shares-fused : (middle : ℤ) (d m u : Float) (place : ℕ)
    → shares middle d m u place
    ≡ when_finite (add binary64 (add binary64 d m) u) place λ total.
    when_finite (div binary64 d total) place λ pd.
    when_finite (div binary64 m total) place λ pm.
    when_finite (div binary64 u total) place λ pu.
    Ok (record { down = pred_ℤ middle; middle = middle; up = suc_ℤ middle; probability_down = pd; probability_middle = pm; probability_up = pu })
unfolding shares
shares-fused middle d m u place = test_once _ _ (not_finite (add binary64 d m)) (not_finite (add binary64 (add binary64 d m) u)) (add_left binary64 (add binary64 d m) u)

pub shares_by : (middle : ℤ) (d m u : Float) (place : ℕ) {a : Outcome Transition}
    → a
    ≡ (when_finite (add binary64 (add binary64 d m) u) place λ total.
    when_finite (div binary64 d total) place λ pd.
    when_finite (div binary64 m total) place λ pm.
    when_finite (div binary64 u total) place λ pu.
    Ok (record { down = pred_ℤ middle; middle = middle; up = suc_ℤ middle; probability_down = pd; probability_middle = pm; probability_up = pu }))
    → a ≡ shares middle d m u place
shares_by middle d m u place h = rw (shares-fused middle d m u place) h

module _ (middle : ℤ) (error denominator scale : Float) (place : ℕ) where
  abbrev square_of : Float
  square_of = mul binary64 error error

  abbrev term_of : Float
  term_of = div binary64 square_of denominator

  abbrev base_of : Float
  base_of = add binary64 (div binary64 one six) term_of

  abbrev skew_of : Float
  skew_of = div binary64 error scale

  abbrev down_of : Float
  down_of = sub binary64 base_of skew_of

  abbrev mid_of : Float
  mid_of = sub binary64 (div binary64 two three) (mul binary64 term_of two)

  abbrev up_of : Float
  up_of = add binary64 base_of skew_of

  term_down : T (not_finite term_of) → T (not_finite down_of)
  term_down h = sub-left binary64 base_of skew_of (add_right binary64 (div binary64 one six) term_of h)

  abbrev last_of : Outcome Transition
  last_of = when_finite up_of place λ up. cond (too_low down_of || (too_low mid_of || too_low up)) (refusal reason.Probability place) (clamped middle down_of mid_of up place)

  abbrev tested_of : Outcome Transition
  tested_of = when_finite mid_of place λ mid. last_of

  pub chances-fused : chances middle error denominator scale place ≡ when_finite down_of place λ down. tested_of
  unfolding chances
  chances-fused =
      let twice = test_once (refusal reason.NotFinite place) last_of (not_finite (mul binary64 term_of two)) (not_finite mid_of) (sub_right binary64 (div binary64 two three) (mul binary64 term_of two)) in
      let all = test_fifth (refusal reason.NotFinite place) tested_of (not_finite square_of) (not_finite term_of) (not_finite base_of) (not_finite skew_of) (not_finite down_of) (λ h. term_down (div_left binary64 square_of denominator h)) term_down (sub-left binary64 base_of skew_of) (sub_right binary64 base_of skew_of) in
      rw twice all

  pub chances_by : {a : Outcome Transition} → a ≡ (when_finite down_of place λ down. tested_of) → a ≡ chances middle error denominator scale place
  chances_by h = rw chances-fused h

  pub chances_passed : {x y z : Float} {a : Outcome Transition} → tested down_of place ≡ Ok x → tested mid_of place ≡ Ok y → tested up_of place ≡ Ok z
      → a ≡ cond (too_low x || (too_low y || too_low z)) (refusal reason.Probability place) (clamped middle x y z place) → a ≡ chances middle error denominator scale place
  chances_passed p q r h =
      let a = passed_test down_of place p in
      let b = passed_test mid_of place q in
      let c = passed_test up_of place r in
      chances_by (rw (tested-not _ a.1, tested-not _ b.1, tested-not _ c.1) (rw (a.0, b.0, c.0) at h))

pub centred-fused : (m : Middle) (new denominator scale : Float) (place : ℕ) → centred m new denominator scale place ≡ chances m.node (sub binary64 m.expectation (mul binary64 new m.middle)) denominator scale place
unfolding centred chances
centred-fused m new denominator scale place =
    let centre = mul binary64 new m.middle in
    let error = sub binary64 m.expectation centre in
    let square = mul binary64 error error in
    test_third _ _ (not_finite centre) (not_finite error) (not_finite square) (λ h. mul_left binary64 error error (sub_right binary64 m.expectation centre h)) (mul_left binary64 error error)

-- ---- a middle

module _ (s : Step) (node : ℤ) where
  expectation-quotient : T (not_finite (expectation_of s node)) → T (not_finite (quotient_of s node))
  expectation-quotient = div_left binary64 (expectation_of s node) s.new_spacing

  state-expectation : T (not_finite (state_of s node)) → T (not_finite (expectation_of s node))
  state-expectation = mul_left binary64 (state_of s node) s.decay

  pub quotient_refused : {r : Refusal} {a : Outcome Middle} → tested (quotient_of s node) s.place ≡ Err r → a ≡ Err r → a ≡ middle_of s.spacing s.decay s.new_spacing s.place node
  unfolding middle_of
  quotient_refused {r} e k =
      let z = refused_by_test (quotient_of s node) s.place e in
      let all = test_third (refusal reason.NotFinite s.place) (refusal reason.NotFinite s.place) (not_finite (state_of s node)) (not_finite (expectation_of s node)) true (λ h. tt) (λ h. tt) in
      k ∙ rw (← z.1, z.0) (sym all)

  pub quotient-passed : T (fits binary64 (quotient_of s node)) → T (finite (quotient_of s node)) → {a : Outcome Middle} → a ≡ held (expectation_of s node) (rounded (quotient_of s node)) s.place
      → a ≡ middle_of s.spacing s.decay s.new_spacing s.place node
  quotient-passed f t k =
      let e = tested-not (finite (quotient_of s node)) t in
      let b = test_before (not_finite (expectation_of s node)) (not_finite (quotient_of s node)) expectation-quotient e in
      k ∙ sym (from_rounded s node f (test_before (not_finite (state_of s node)) (not_finite (expectation_of s node)) state-expectation b) b e)
