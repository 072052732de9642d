-- One part of the working state after another: where the whole is given, or refused, what the first part was, and what holds of the whole where it holds of each part. Assumes nothing.
use Rattle.std.specs.Prelude.{◌≡◌, ◌⊎◌, Bool, true, false, not, cond, ℕ, T, Float, Ok, Err}
use Rattle.std.proofs.Math.Path.{refl}
use Rattle.std.proofs.Common.{ap, inl, inr, arith}
use Rattle.std.specs.Float.Ieee.Scale.{finite}
use Rattle.floats.specs.Refusals.{Refusal}
use Rattle.floats.specs.Answers.{Answer, on_outcome, not_finite, Outcome, follow}

-- Nothing is both given and refused.
pub given_or_refused : {A : Type 0} {o : Outcome A} {x : A} {r : Refusal} → o ≡ Ok x → o ≡ Err r → ⊥
given_or_refused {A} {o} {x} {r} h k = let z : ◌≡◌ {A = ℕ} 0 1 = cc in omega arith

pub value_or_refused : {o : Answer} {x : Float} {r : Refusal} → o ≡ Ok x → o ≡ Err r → ⊥
value_or_refused {o} {x} {r} h k = let z : ◌≡◌ {A = ℕ} 0 1 = cc in omega arith

-- What is given is one thing.
pub same_given : {A : Type 0} {x y : A} → ◌≡◌ {A = Outcome A} (Ok y) (Ok x) → y ≡ x
same_given e = cc

-- An outcome is given or refused.
pub outcome-cases : {A : Type 0} (o : Outcome A) → ((x : A) × (o ≡ Ok x)) ⊎ ((r : Refusal) × (o ≡ Err r))
outcome-cases (Ok x) = inl (x, refl)
outcome-cases (Err r) = inr (r, refl)

pub answer-cases : (o : Answer) → ((x : Float) × (o ≡ Ok x)) ⊎ ((r : Refusal) × (o ≡ Err r))
answer-cases (Ok x) = inl (x, refl)
answer-cases (Err r) = inr (r, refl)

-- ---- what follows a given part, and a refusal handed up

pub follow-given : {A B : Type 0} (o : Outcome A) (k : A → Outcome B) {x : A} → o ≡ Ok x → follow o k ≡ k x
unfolding on_outcome
follow-given o k h = rw h

pub follow-refused : {A B : Type 0} (o : Outcome A) (k : A → Outcome B) {r : Refusal} → o ≡ Err r → follow o k ≡ Err r
unfolding on_outcome
follow-refused o k h = rw h

pub of_given : {A B : Type 0} (o : Outcome A) (k : A → Outcome B) {y : B} → follow o k ≡ Ok y → (x : A) × (o ≡ Ok x) × (k x ≡ Ok y)
unfolding on_outcome
of_given (Ok x) k h = (x, refl, h)
of_given (Err r) k h = absurd (given_or_refused h refl)

pub of_refused : {A B : Type 0} (o : Outcome A) (k : A → Outcome B) {r : Refusal} → follow o k ≡ Err r
    → (o ≡ Err r) ⊎ ((x : A) × (o ≡ Ok x) × (k x ≡ Err r))
unfolding on_outcome
of_refused (Ok x) k h = inr (x, refl, h)
of_refused (Err q) k {r} h = inl (let e : q ≡ r = cc in ap Err e)

-- ---- the same of an answer's value

pub valued-value : {A : Type 0} (o : Answer) (k : Float → Outcome A) {x : Float} → o ≡ Ok x → follow o k ≡ k x
unfolding on_outcome
valued-value o k h = rw h

pub valued-refused : {A : Type 0} (o : Answer) (k : Float → Outcome A) {r : Refusal} → o ≡ Err r → follow o k ≡ Err r
unfolding on_outcome
valued-refused o k h = rw h

-- ---- what holds of an outcome where it is given

-- P of what is given; a refusal gives nothing.
pub data Gives {A : Type 0} (P : A → Type 0) : Outcome A → Type 0 where
  gives : {x : A} → P x → Gives P (Ok x)
  nothing : {r : Refusal} → Gives P (Err r)

-- read off where the outcome is known
pub given_of : {A : Type 0} {P : A → Type 0} {o : Outcome A} {x : A} → Gives P o → o ≡ Ok x → P x
given_of (gives {x = y} p) e = rw (← same_given e) p
given_of nothing e = absurd (given_or_refused e refl)

module _ {A B : Type 0} {P : A → Type 0} {Q : B → Type 0} where
  pub gives-follow : (o : Outcome A) (k : A → Outcome B) → Gives P o → ((x : A) → P x → Gives Q (k x)) → Gives Q (follow o k)
  unfolding on_outcome
  gives-follow o k (gives {x = x} p) h = h x p
  gives-follow o k nothing h = nothing

module _ {B : Type 0} {Q : B → Type 0} where
  -- a part that is only known to be given
  pub gives-known : {A : Type 0} (o : Outcome A) (k : A → Outcome B) → ((x : A) → o ≡ Ok x → Gives Q (k x)) → Gives Q (follow o k)
  unfolding on_outcome
  gives-known (Ok x) k h = h x refl
  gives-known (Err r) k h = nothing

  pub gives-valued : (a : Answer) (k : Float → Outcome B) → ((x : Float) → Gives Q (k x)) → Gives Q (follow a k)
  unfolding on_outcome
  gives-valued (Ok x) k h = h x
  gives-valued (Err r) k h = nothing

  pub gives-finite : (x : Float) (r : Refusal) (o : Outcome B) → (T (finite x) → Gives Q o) → Gives Q (cond (not_finite x) (Err r) o)
  gives-finite x r o h = go (finite x) h
    where
      go : (b : Bool) → (T b → Gives Q o) → Gives Q (cond (not b) (Err r) o)
      go true h = h tt
      go false h = nothing

  pub gives-cond : (b : Bool) (o q : Outcome B) → Gives Q o → Gives Q q → Gives Q (cond b o q)
  gives-cond true o q h k = h
  gives-cond false o q h k = k
