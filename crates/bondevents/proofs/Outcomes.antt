-- Laws of outcomes that follow one another, and of a step of an array that is priced. Assumes nothing.
use Rattle.std.specs.Prelude.{Ok, Err}
use Prim.Native.Nat.{ℕ, ◌<◌}
use mathlib.Core.Path.{◌≡◌, refl, sym, ap, ◌∙◌}
use mathlib.Core.List.{List}
use lib.ListN.{length, get_or, set}
use lib.Ieee.{Float}
use Rattle.floats.specs.Answers.{on_outcome, Outcome, follow}
use Rattle.bondevents.specs.declared.Side.{Side}
use Rattle.bondevents.specs.declared.Exercise.{Exercise}
use Rattle.bondevents.specs.Calls.{none, keep}
use Rattle.terms.proofs.Laws.{same_at}

-- What only hands on changes nothing.
pub follow-given : {A : Type 0} (o : Outcome A) → follow o Ok ≡ o
unfolding on_outcome
follow-given (Ok x) = refl
follow-given (Err r) = refl

-- Three in a row, grouped either way.
pub follow-follow : {A B C : Type 0} (o : Outcome A) (f : A → Outcome B) (g : B → Outcome C) → follow (follow o f) g ≡ follow o λ x. follow (f x) g
unfolding on_outcome
follow-follow (Ok x) f g = refl
follow-follow (Err r) f g = refl

-- Two ways on that agree.
pub follow_same : {A B : Type 0} (o : Outcome A) (f g : A → Outcome B) → ((x : A) → f x ≡ g x) → follow o f ≡ follow o g
unfolding on_outcome
follow_same (Ok x) f g h = h x
follow_same (Err r) f g h = refl

-- A step of an array, read, priced and written back.
pub kept_at : (side : Side) (cs : List Exercise) (i : ℕ) {k : Exercise} (x : Float) (d : Exercise) → k ≡ keep side (get_or cs i d) x → i < length cs → ◌≡◌ {A = Outcome (List Exercise)} (Ok (set cs i (keep side (get_or cs i none) x))) (Ok (set cs i k))
kept_at side cs i {k} x d e h = ap (λ (z : Exercise). Ok (set cs i z)) (sym (e ∙ ap (λ (z : Exercise). keep side z x) (same_at cs i d none h)))
