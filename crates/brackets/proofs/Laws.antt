-- Tests, and what is worked out on the way, in the shape that `search` wants. Assumes nothing.
use Rattle.std.specs.Prelude.{Ok, Err}
use Prim.Native.Nat.{ℕ}
use mathlib.Core.Path.{◌≡◌, refl, sym, ap, ◌∙◌}
use mathlib.Core.Bool.{Bool, true, false, cond, not}
use lib.Ieee.{Float}
use Rattle.floats.proofs.Laws.{taken, left}
use Rattle.floats.specs.Refusals.{Refusal}
use Rattle.floats.specs.declared.Reason.TheVariants as reason
use Rattle.floats.specs.Answers.{Answer, Outcome, on_outcome, refusal, not_finite, tested}
use Rattle.brackets.specs.declared.NoRoot.{NoRoot}
use Rattle.brackets.specs.Brackets.{Searched, no_root, counted}

-- A test that a call made, and one that is the opposite of the definition's.
pub called_no : {f : Bool} (b : Bool) → f ≡ b → f ≡ false → b ≡ false
called_no b e t = sym e ∙ t

pub taken_not : {A : Type 0} {f : Bool} (b : Bool) {r : A} (x y : A) → f ≡ b → f ≡ false → r ≡ x → r ≡ cond (not b) x y
taken_not b x y e t p = taken (not b) x y (ap not (sym e ∙ t)) p

pub left_not : {A : Type 0} {f : Bool} (b : Bool) {r : A} (x y : A) → f ≡ b → f ≡ true → r ≡ y → r ≡ cond (not b) x y
left_not b x y e t p = left (not b) x y (ap not (sym e ∙ t)) p

-- ---- what was worked out, with the evaluations made where it is refused

on_searched : {A B : Type 0} → Searched A → (NoRoot → B) → (A → B) → B
on_searched (Ok x) f g = g x
on_searched (Err q) f g = f q

by_searched : {A B : Type 0} (s : Outcome A) (n : ℕ) (f : Refusal → B) (g : A → B) → on_searched (counted s n) (λ q. f q.refusal) g ≡ on_outcome s f g
unfolding on_searched counted on_outcome
by_searched (Ok x) n f g = refl
by_searched (Err r) n f g = refl

by_count : {A C : Type 0} (s : Outcome A) (n : ℕ) (g : A → Searched C) → on_searched (counted s n) Err g ≡ on_outcome s (λ t. no_root t n) g
unfolding on_searched counted on_outcome
by_count (Ok x) n g = refl
by_count (Err r) n g = refl

pub counted-given : {A B : Type 0} {s : Outcome A} {w : Searched A} (a : Outcome A) (n : ℕ) {x : A} {r : B} (f : Refusal → B) (g : A → B) → w ≡ counted s n → s ≡ a → w ≡ Ok x → r ≡ g x → r ≡ on_outcome a f g
unfolding on_searched
counted-given {A} {s = s} a n f g e h v p =
    p ∙ ap (λ (z : Searched A). on_searched z (λ q. f q.refusal) g) (sym v ∙ e) ∙ by_searched s n f g ∙ ap (λ (z : Outcome A). on_outcome z f g) h

pub counted-refused : {A C : Type 0} {s : Outcome A} {w : Searched A} (a : Outcome A) (n : ℕ) {q : NoRoot} {r : Searched C} (g : A → Searched C) → w ≡ counted s n → s ≡ a → w ≡ Err q → r ≡ Err q → r ≡ on_outcome a (λ t. no_root t n) g
unfolding on_searched
counted-refused {A} {s = s} a n g e h v p =
    p ∙ ap (λ (z : Searched A). on_searched z Err g) (sym v ∙ e) ∙ by_count s n g ∙ ap (λ (z : Outcome A). on_outcome z (λ t. no_root t n) g) h

-- The same of the test of a result d.
by_test : {C : Type 0} (b : Bool) (d : Float) (n : ℕ) (k : Float → Searched C) → on_searched (counted (cond b (refusal reason.NotFinite 0) (Ok d)) n) Err k ≡ cond b (no_root (record { reason = reason.NotFinite; place = 0 }) n) (k d)
unfolding on_searched counted
by_test true d n k = refl
by_test false d n k = refl

pub tested-given : {C : Type 0} {s : Answer} {w : Searched Float} (d : Float) (n : ℕ) {x : Float} {r : Searched C} (k : Float → Searched C) → w ≡ counted s n → s ≡ tested d 0 → w ≡ Ok x → r ≡ k x → r ≡ cond (not_finite d) (no_root (record { reason = reason.NotFinite; place = 0 }) n) (k d)
unfolding on_searched
tested-given d n k e h v p =
    p ∙ ap (λ (z : Searched Float). on_searched z Err k) (sym v ∙ e) ∙ ap (λ (z : Answer). on_searched (counted z n) Err k) h ∙ by_test (not_finite d) d n k

pub tested-refused : {C : Type 0} {s : Answer} {w : Searched Float} (d : Float) (n : ℕ) {q : NoRoot} {r : Searched C} (go : Searched C) → w ≡ counted s n → s ≡ tested d 0 → w ≡ Err q → r ≡ Err q → r ≡ cond (not_finite d) (no_root (record { reason = reason.NotFinite; place = 0 }) n) go
unfolding on_searched
tested-refused {C} d n go e h v p =
    p ∙ ap (λ (z : Searched Float). on_searched z Err k) (sym v ∙ e) ∙ ap (λ (z : Answer). on_searched (counted z n) Err k) h ∙ by_test (not_finite d) d n k
  where
    k : Float → Searched C
    k y = go

-- Back from what is counted to what was worked out, and to the count.
uncounted : {A : Type 0} (s : Outcome A) (n : ℕ) → on_searched (counted s n) (λ q. Err q.refusal) Ok ≡ s
unfolding on_searched counted
uncounted (Ok x) n = refl
uncounted (Err r) n = refl

recounted : {A : Type 0} (s : Outcome A) (n : ℕ) → on_searched (counted s n) (λ q. no_root q.refusal n) Ok ≡ counted s n
unfolding on_searched counted
recounted (Ok x) n = refl
recounted (Err r) n = refl

pub was_given : {A : Type 0} {s : Outcome A} {w : Searched A} (n : ℕ) {x : A} → w ≡ counted s n → w ≡ Ok x → s ≡ Ok x
unfolding on_searched
was_given {A} {s} n e v = sym (uncounted s n) ∙ ap (λ (z : Searched A). on_searched z (λ q. Err q.refusal) Ok) (sym e ∙ v)

pub was_refused : {A : Type 0} {s : Outcome A} {w : Searched A} (n : ℕ) {q : NoRoot} → w ≡ counted s n → w ≡ Err q → s ≡ Err q.refusal
unfolding on_searched
was_refused {A} {s} n e v = sym (uncounted s n) ∙ ap (λ (z : Searched A). on_searched z (λ q. Err q.refusal) Ok) (sym e ∙ v)

pub refused_after : {A C : Type 0} (s : Outcome A) {w : Searched A} (n : ℕ) {q : NoRoot} {r : Searched C} → w ≡ counted s n → w ≡ Err q → r ≡ Err q → r ≡ no_root q.refusal n
unfolding on_searched
refused_after {A} {C} s n e v p =
    p ∙ ap (λ (z : Searched A). on_searched z Err (λ y. no_root other 0)) (sym v ∙ e ∙ sym (recounted s n) ∙ ap (λ (z : Searched A). on_searched z (λ q. no_root q.refusal n) Ok) (sym e ∙ v))
  where
    other : Refusal
    other = record { reason = reason.NotFinite; place = 0 }
