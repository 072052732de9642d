-- Tested operations one after the other, cut at any place: what follows the first part follows the whole. Assumes nothing.
use Rattle.std.specs.Prelude.{ℕ, ◌≡◌, Bool, cond, Float, Ok, Err}
use Rattle.std.proofs.Math.Path.{refl}
use Rattle.std.proofs.Common.{sym, ap, ◌∙◌}
use Rattle.std.proofs.Math.Bool.{true, false}
use Rattle.floats.specs.declared.Reason.{Reason}
use Rattle.floats.specs.Refusals.{Refusal}
use Rattle.floats.specs.Answers.{Answer, on_outcome, follow, refusal, Outcome}
use Rattle.terms.specs.laws.Outcomes.{Gives, gives, nothing}

-- ---- a part, then the rest

module _ {A B : Type 0} (g : A → Outcome B) where
  -- a tested operation at the head of the first part
  pub follow-cond : (b : Bool) (why : Reason) (p : ℕ) (o : Outcome A) (k : Outcome B) → follow o g ≡ k → follow (cond b (refusal why p) o) g ≡ cond b (refusal why p) k
  unfolding on_outcome
  follow-cond true why p o k e = refl
  follow-cond false why p o k e = e

  -- a part at the head of the first part
  pub follow-follow : {C : Type 0} (o : Outcome C) (h : C → Outcome A) (k : C → Outcome B) → ((x : C) → follow (h x) g ≡ k x) → follow (follow o h) g ≡ follow o k
  unfolding on_outcome
  follow-follow (Ok x) h k e = e x
  follow-follow (Err r) h k e = refl

  -- the first part is done
  pub follow-given : (x : A) → follow (Ok x) g ≡ g x
  unfolding on_outcome
  follow-given x = refl

-- ---- the first part is known

-- a value that the first part gave
pub went_on : {A : Type 0} {s a : Answer} {x : Float} (f : Refusal → A) (g : Float → A) → s ≡ a → s ≡ Ok x → on_outcome a f g ≡ g x
unfolding on_outcome
went_on f g e v = ap (λ (z : Answer). on_outcome z f g) (sym e ∙ v)

pub stopped_at : {A : Type 0} {s a : Answer} {q : Refusal} (f : Refusal → A) (g : Float → A) → s ≡ a → s ≡ Err q → on_outcome a f g ≡ f q
unfolding on_outcome
stopped_at f g e v = ap (λ (z : Answer). on_outcome z f g) (sym e ∙ v)

-- ---- the same first part

pub valued_same : {A B : Type 0} (a : Outcome A) (k l : A → Outcome B) → ((x : A) → k x ≡ l x) → follow a k ≡ follow a l
unfolding on_outcome
valued_same (Ok x) k l h = h x
valued_same (Err r) k l h = refl

-- where something is known of what the first part gives
pub follow_where : {A B : Type 0} {P : A → Type 0} {o : Outcome A} (k l : A → Outcome B) → Gives P o → ((x : A) → P x → k x ≡ l x) → follow o k ≡ follow o l
unfolding on_outcome
follow_where k l (gives {x = x} p) h = h x p
follow_where k l nothing h = refl

-- A goal that is a part followed by the rest, equal to the whole.
pub ruleset binds = (follow-cond, follow-follow, follow-given)
