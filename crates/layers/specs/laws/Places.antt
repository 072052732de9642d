-- A step's place counts only where something is refused: what is given at one place is given at every other. Assumes nothing.
use Rattle.std.specs.Prelude.{ℕ, ◌≡◌, refl, Bool, true, false, cond, ◌||◌, ℤ, Float, Ok, Err}
use Rattle.std.proofs.Common.{ap, ◌∙◌}
use Rattle.std.specs.Float.Ieee.{binary64, add, sub, mul, div, le}
use Rattle.floats.specs.Refusals.{Refusal}
use Rattle.floats.specs.Answers.{Answer, plus_zero, two, on_outcome, not_finite, Outcome, follow}
use Rattle.floats.specs.Extremes.{max_of}
use Rattle.floats.specs.Whole.{round_at, rounded}
use Rattle.rounded.specs.laws.RootBounds.{sqrt_at-place}
use Rattle.terms.specs.Numbers.{float, epsilon}
use Rattle.terms.specs.laws.Outcomes.{given_or_refused, value_or_refused, same_given, follow-given, valued-value}
use Rattle.lattice.specs.declared.Middle.{Middle}
use Rattle.lattice.specs.declared.Transition.{Transition}
use Rattle.lattice.specs.Layers.{node_float}
use Rattle.lattice.specs.Transitions.{Step, sixth, two_thirds, too_low, too_far, clamped, probabilities, middle_of, from_middle, transition_of}
use Rattle.lattice.specs.Lattice.{spacing_of, step_of}

-- The same step at another place.
abbrev pub at_place : Step → ℕ → Step
at_place s k = record { spacing = s.spacing; decay = s.decay; new_spacing = s.new_spacing; denominator = s.denominator; scale = s.scale; place = k }

-- Where o is given, so is p, by f.
abbrev pub GivenBy : {A : Type 0} → (A → A) → Outcome A → Outcome A → Type 0
GivenBy {A} f o p = (x : A) → o ≡ Ok x → p ≡ Ok (f x)

abbrev ValueToo : Answer → Answer → Type 0
ValueToo a b = (x : Float) → a ≡ Ok x → b ≡ Ok x

value-cond : (b : Bool) (q r : Refusal) (a c : Answer) → ValueToo a c → ValueToo (cond b (Err q) a) (cond b (Err r) c)
value-cond true q r a c h x e = absurd (value_or_refused e refl)
value-cond false q r a c h x e = h x e

module _ {A : Type 0} (f : A → A) where
  given-cond : (b : Bool) (q r : Refusal) (o p : Outcome A) → GivenBy f o p → GivenBy f (cond b (Err q) o) (cond b (Err r) p)
  given-cond true q r o p h x e = absurd (given_or_refused e refl)
  given-cond false q r o p h x e = h x e

  given-valued : (a b : Answer) (k l : Float → Outcome A) → ValueToo a b → ((x : Float) → GivenBy f (k x) (l x)) → GivenBy f (follow a k) (follow b l)
  unfolding on_outcome
  given-valued (Ok y) b k l h g x e = valued-value b l (h y refl) ∙ g y x e
  given-valued (Err r) b k l h g x e = absurd (given_or_refused e refl)

  given-follow : {B : Type 0} (o p : Outcome B) (k l : B → Outcome A) → GivenBy (λ (y : B). y) o p → ((y : B) → GivenBy f (k y) (l y)) → GivenBy f (follow o k) (follow p l)
  unfolding on_outcome
  given-follow (Ok y) p k l h g x e = follow-given p l (h y refl) ∙ g y x e
  given-follow (Err r) p k l h g x e = absurd (given_or_refused e refl)

-- ---- a step

spacing-place : (v : Float) (j k : ℕ) → ValueToo (spacing_of v j) (spacing_of v k)
spacing-place v j k =
    let x = mul binary64 v (float 3) in
    value-cond (not_finite x) _ _ _ _ (sqrt_at-place x j k)

pub step-place : (spacing decay v : Float) (j k : ℕ) → GivenBy (λ s. at_place s k) (step_of spacing decay v j) (step_of spacing decay v k)
unfolding step_of
step-place spacing decay v j k =
    let f : Step → Step = λ s. at_place s k in
    given-cond f (le v epsilon) _ _ _ _
    (given-valued f (spacing_of v j) (spacing_of v k) _ _ (spacing-place v j k) λ new.
    given-cond f (not_finite (mul binary64 v (float 6))) _ _ _ _
    (given-cond f (not_finite (mul binary64 new two)) _ _ _ _ λ s e. ap (λ (z : Step). Ok (at_place z k)) (same_given e)))

-- ---- a transition

module _ (s : Step) (k : ℕ) where
  clamped-place : (m : ℤ) (down mid up : Float) → GivenBy (λ (t : Transition). t) (clamped m down mid up s.place) (clamped m down mid up k)
  unfolding clamped
  clamped-place m down mid up =
      let f : Transition → Transition = λ t. t in
      let d = max_of down plus_zero in
      let p = max_of mid plus_zero in
      let u = max_of up plus_zero in
      let w = add binary64 (add binary64 d p) u in
      given-cond f (not_finite (add binary64 d p)) _ _ _ _
      (given-cond f (not_finite w) _ _ _ _
      (given-cond f (not_finite (div binary64 d w)) _ _ _ _
      (given-cond f (not_finite (div binary64 p w)) _ _ _ _
      (given-cond f (not_finite (div binary64 u w)) _ _ _ _ λ x e. e))))

  chances-place : (m : ℤ) (error : Float) → GivenBy (λ (t : Transition). t) (probabilities s m error) (probabilities (at_place s k) m error)
  unfolding probabilities
  chances-place m error =
      let f : Transition → Transition = λ t. t in
      let term = div binary64 (mul binary64 error error) s.denominator in
      let a = add binary64 sixth term in
      let skew = div binary64 error s.scale in
      let down = sub binary64 a skew in
      let mid = sub binary64 two_thirds (mul binary64 term two) in
      let up = add binary64 a skew in
      given-cond f (not_finite (mul binary64 error error)) _ _ _ _
      (given-cond f (not_finite term) _ _ _ _
      (given-cond f (not_finite a) _ _ _ _
      (given-cond f (not_finite skew) _ _ _ _
      (given-cond f (not_finite down) _ _ _ _
      (given-cond f (not_finite (mul binary64 term two)) _ _ _ _
      (given-cond f (not_finite mid) _ _ _ _
      (given-cond f (not_finite up) _ _ _ _
      (given-cond f (too_low down || (too_low mid || too_low up)) _ _ _ _ (clamped-place m down mid up)))))))))

  from_place : (m : Middle) → GivenBy (λ (t : Transition). t) (from_middle s m) (from_middle (at_place s k) m)
  unfolding from_middle
  from_place m =
      let f : Transition → Transition = λ t. t in
      let centre = mul binary64 s.new_spacing m.middle in
      let error = sub binary64 m.expectation centre in
      given-cond f (not_finite centre) _ _ _ _
      (given-cond f (not_finite error) _ _ _ _ (chances-place m.node error))

  middle-place : (n : ℤ) → GivenBy (λ (m : Middle). m) (middle_of s.spacing s.decay s.new_spacing s.place n) (middle_of s.spacing s.decay s.new_spacing k n)
  unfolding middle_of
  middle-place n =
      let f : Middle → Middle = λ m. m in
      let state = mul binary64 s.spacing (node_float n) in
      let expectation = mul binary64 state s.decay in
      let quotient = div binary64 expectation s.new_spacing in
      given-cond f (not_finite state) _ _ _ _
      (given-cond f (not_finite expectation) _ _ _ _
      (given-cond f (not_finite quotient) _ _ _ _
      (given-valued f (round_at quotient s.place) (round_at quotient k) _ _
      (value-cond (not_finite quotient) _ _ _ _ (value-cond (not_finite (rounded quotient)) _ _ (Ok (rounded quotient)) (Ok (rounded quotient)) λ y e. e)) λ m.
      given-cond f (too_far m) _ _ _ _ λ x e. e)))

  pub transition-place : (n : ℤ) → GivenBy (λ (t : Transition). t) (transition_of s n) (transition_of (at_place s k) n)
  unfolding transition_of
  transition-place n =
      given-follow (λ (t : Transition). t) (middle_of s.spacing s.decay s.new_spacing s.place n) (middle_of s.spacing s.decay s.new_spacing k n) _ _ (middle-place n) λ m. from_place m
