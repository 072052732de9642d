-- What holds of every case of a choice holds of the choice, each case with what is known in it. In the shape that `search` wants. Of answers: which numbers they are refused with. Assumes nothing.
use Rattle.std.specs.Prelude.{ℕ, ◌≡◌, refl, Bool, true, false, cond, Float, Ok, Err}
use Rattle.floats.specs.Refusals.{Refusal}
use Rattle.floats.specs.Reasons.{reason_number}
use Rattle.floats.specs.Answers.{Answer, Outcome, on_outcome}

pub record Holds {A : Type 0} (P : A → Type 0) (x : A) : Type 0 where
  pub it : P x

pub of_cond : {A : Type 0} {P : A → Type 0} (b : Bool) (x y : A) → (b ≡ true → Holds P x) → (b ≡ false → Holds P y) → Holds P (cond b x y)
of_cond true x y p q = p refl
of_cond false x y p q = q refl

pub of_answer : {B : Type 0} {A : Type 0} {P : A → Type 0} (a : Outcome B) (f : Refusal → A) (g : B → A) → ((r : Refusal) → a ≡ Err r → Holds P (f r)) → ((x : B) → a ≡ Ok x → Holds P (g x)) → Holds P (on_outcome a f g)
unfolding on_outcome
of_answer (Ok x) f g p q = q x refl
of_answer (Err r) f g p q = p r refl

pub ruleset cases = (of_cond, of_answer)

-- ---- the numbers of an answer's refusals

-- A refusal's number has P; a value has none.
abbrev pub RefusedOnly : (ℕ → Type 0) → Answer → Type 0
RefusedOnly P (Ok x) = Unit
RefusedOnly P (Err r) = P (reason_number r.reason)

pub value-only : (P : ℕ → Type 0) (x : Float) → Holds (RefusedOnly P) (Ok x)
value-only P x = record { it = tt }

pub refused-only : (P : ℕ → Type 0) (r : Refusal) → P (reason_number r.reason) → Holds (RefusedOnly P) (Err r)
refused-only P r h = record { it = h }

-- andThen
pub then_only : (P : ℕ → Type 0) (a : Answer) (k : Float → Answer) → Holds (RefusedOnly P) a → ((x : Float) → Holds (RefusedOnly P) (k x)) → Holds (RefusedOnly P) (on_outcome a Err k)
unfolding on_outcome
then_only P (Ok x) k h q = q x
then_only P (Err r) k h q = h

pub ruleset refusing = (of_cond, value-only, refused-only, then_only)
