-- Laws in the shape that `search` wants, and the set `outcomes` of them: an answer beside the row that is left, read as an outcome. Assumes nothing.
use Rattle.std.specs.Prelude.{Ok, Err, OnErr}
use mathlib.Core.Path.{◌≡◌, refl, sym, ap, subst, ◌∙◌}
use Rattle.floats.specs.Refusals.{Refusal}
use Rattle.floats.proofs.Laws.{answers}
use Rattle.floats.specs.Answers.{Check, Outcome, follow, on_outcome, outcome_of}

-- ---- what is answered

pub passes : {A : Type 0} (x : A) → outcome_of (Ok tt) x ≡ Ok x
unfolding outcome_of
passes x = refl

pub refuses : {A : Type 0} (q : Refusal) (x : A) → outcome_of (Err q) x ≡ Err q
unfolding outcome_of
refuses q x = refl

pub refuses-call : {A : Type 0} {s : Check} {q : Refusal} (x : A) → s ≡ Err q → outcome_of s x ≡ Err q
unfolding outcome_of
refuses-call x e = ap (λ (z : Check). outcome_of z x) e

pub passes-call : {A : Type 0} {s : Check} (x : A) → s ≡ Ok tt → outcome_of s x ≡ Ok x
unfolding outcome_of
passes-call x e = ap (λ (z : Check). outcome_of z x) e

pub at_refusal : {s : Check} {q : Refusal} {P : Type 0} → OnErr s P → s ≡ Err q → P
at_refusal {P = P} h e = subst (λ (z : Check). OnErr z P) e h

-- ---- what a call answered, taken apart

pub followed : {A B : Type 0} {s : Check} {o : Outcome A} {x : A} {r : B} (f : Refusal → B) (g : A → B) → outcome_of s x ≡ o → s ≡ Ok tt → r ≡ g x → r ≡ on_outcome o f g
unfolding outcome_of on_outcome
followed {x = x} f g e v p = p ∙ ap (λ (z : Check). on_outcome (outcome_of z x) f g) (sym v) ∙ ap (λ (z : Outcome _). on_outcome z f g) e

pub halted : {A B : Type 0} {s : Check} {o : Outcome A} (x : A) {q : Refusal} {r : B} (f : Refusal → B) (g : A → B) → outcome_of s x ≡ o → s ≡ Err q → r ≡ f q → r ≡ on_outcome o f g
unfolding outcome_of on_outcome
halted x f g e v p = p ∙ ap (λ (z : Check). on_outcome (outcome_of z x) f g) (sym v) ∙ ap (λ (z : Outcome _). on_outcome z f g) e

pub ruleset outcomes = (passes, refuses, refuses-call, followed, halted, answers)

-- ---- something beside what is left

pub beside : {A B : Type 0} (s : Check) (x : A) {o : Outcome A} (g : A → B) → outcome_of s x ≡ o → outcome_of s (g x) ≡ follow o λ y. Ok (g y)
unfolding outcome_of on_outcome
beside {A} {B} s x g e = go s ∙ ap (λ (z : Outcome A). follow z λ y. Ok (g y)) e
  where
    go : (s : Check) → outcome_of s (g x) ≡ follow (outcome_of s x) λ y. Ok (g y)
    go (Ok tt) = refl
    go (Err r) = refl
