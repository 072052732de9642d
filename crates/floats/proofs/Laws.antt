-- Laws in the shape that `search` wants, and the set `answers` of them: what a test, a tested operation and an answer that was taken apart say of a definition.
-- Each concludes `r ≡ ..` at what the definition does next, so that one need of a straight function is one `search answers`. Assumes nothing.
use Rattle.std.specs.Prelude.{Ok, Err}
use Prim.Native.Nat.{ℕ, ◌≤◌, ◌<◌, ◌^◌}
use mathlib.Core.Path.{◌≡◌, sym, ap, subst, ◌∙◌}
use mathlib.Core.Bool.{Bool, true, false, cond, not, ◌&&◌}
use native.Mathlib.Nat.{le_trans, le_of_lt}
use borrow.Author.Rules.{rules}
use borrow.Author.Tests.{lt-ltb, le-ltb, le-leb, lt-leb, eq-eqb, ne_eqb, not-false}
use lib.Dec.{T, ltb, leb, eqb, leb→le, le→leb}
use lib.IntN.{pos}
use lib.Ieee.{Float, nan, inf, fin, binary64, is_nan, lt, le, eq, in_float}
use lib.Ieee.Scale.{finite}
use Rattle.floats.specs.Refusals.{Refusal}
use Rattle.floats.specs.Answers.{Outcome, on_outcome, not_finite}

-- ---- a test of the definition, by the flag that the code went by

pub taken : {A : Type 0} (b : Bool) {r : A} (x y : A) → b ≡ true → r ≡ x → r ≡ cond b x y
taken b x y t p = p ∙ sym (ap (λ (z : Bool). cond z x y) t)

pub left : {A : Type 0} (b : Bool) {r : A} (x y : A) → b ≡ false → r ≡ y → r ≡ cond b x y
left b x y t p = p ∙ sym (ap (λ (z : Bool). cond z x y) t)

-- The flag f came from a call, which ensures that it is b.
pub taken-call : {A : Type 0} {f : Bool} (b : Bool) {r : A} (x y : A) → f ≡ b → f ≡ true → r ≡ x → r ≡ cond b x y
taken-call b x y e t p = taken b x y (sym e ∙ t) p

pub left_call : {A : Type 0} {f : Bool} (b : Bool) {r : A} (x y : A) → f ≡ b → f ≡ false → r ≡ y → r ≡ cond b x y
left_call b x y e t p = left b x y (sym e ∙ t) p

-- Both of two tests, and either of them failing.
pub taken_both : {A : Type 0} (b c : Bool) {r : A} (x y : A) → b ≡ true → c ≡ true → r ≡ x → r ≡ cond (b && c) x y
taken_both b c x y t u p = p ∙ sym (ap (λ (z : Bool). cond (z && c) x y) t ∙ ap (λ (z : Bool). cond z x y) u)

pub left_first : {A : Type 0} (b c : Bool) {r : A} (x y : A) → b ≡ false → r ≡ y → r ≡ cond (b && c) x y
left_first b c x y t p = p ∙ sym (ap (λ (z : Bool). cond (z && c) x y) t)

pub left_second : {A : Type 0} (b c : Bool) {r : A} (x y : A) → b ≡ true → c ≡ false → r ≡ y → r ≡ cond (b && c) x y
left_second b c x y t u p = p ∙ sym (ap (λ (z : Bool). cond (z && c) x y) t ∙ ap (λ (z : Bool). cond z x y) u)

-- ---- a comparison of two floats, at the head of the definition

pub taken-below : {A : Type 0} (a b : Float) {r : A} (x y : A) → lt a b ≡ true → r ≡ x → r ≡ cond (lt a b) x y
taken-below a b x y t p = taken (lt a b) x y t p

pub left_below : {A : Type 0} (a b : Float) {r : A} (x y : A) → lt a b ≡ false → r ≡ y → r ≡ cond (lt a b) x y
left_below a b x y t p = left (lt a b) x y t p

pub taken_atmost : {A : Type 0} (a b : Float) {r : A} (x y : A) → le a b ≡ true → r ≡ x → r ≡ cond (le a b) x y
taken_atmost a b x y t p = taken (le a b) x y t p

pub left_atmost : {A : Type 0} (a b : Float) {r : A} (x y : A) → le a b ≡ false → r ≡ y → r ≡ cond (le a b) x y
left_atmost a b x y t p = left (le a b) x y t p

pub taken_same : {A : Type 0} (a b : Float) {r : A} (x y : A) → eq a b ≡ true → r ≡ x → r ≡ cond (eq a b) x y
taken_same a b x y t p = taken (eq a b) x y t p

pub left_same : {A : Type 0} (a b : Float) {r : A} (x y : A) → eq a b ≡ false → r ≡ y → r ≡ cond (eq a b) x y
left_same a b x y t p = left (eq a b) x y t p

-- ---- a test of the definition, by what the code's test says of two numbers

pub taken_lt : {A : Type 0} (a b : ℕ) {r : A} (x y : A) → a < b → r ≡ x → r ≡ cond (ltb a b) x y
taken_lt a b x y h p = taken (ltb a b) x y (lt-ltb a b h) p

pub left_lt : {A : Type 0} (a b : ℕ) {r : A} (x y : A) → b ≤ a → r ≡ y → r ≡ cond (ltb a b) x y
left_lt a b x y h p = left (ltb a b) x y (le-ltb a b h) p

pub taken_le : {A : Type 0} (a b : ℕ) {r : A} (x y : A) → a ≤ b → r ≡ x → r ≡ cond (leb a b) x y
taken_le a b x y h p = taken (leb a b) x y (le-leb a b h) p

pub left_le : {A : Type 0} (a b : ℕ) {r : A} (x y : A) → b < a → r ≡ y → r ≡ cond (leb a b) x y
left_le a b x y h p = left (leb a b) x y (lt-leb a b h) p

pub taken_eq : {A : Type 0} (a b : ℕ) {r : A} (x y : A) → a ≡ b → r ≡ x → r ≡ cond (eqb a b) x y
taken_eq a b x y h p = taken (eqb a b) x y (eq-eqb a b h) p

pub left_eq : {A : Type 0} (a b : ℕ) {r : A} (x y : A) → (a ≡ b → ⊥) → r ≡ y → r ≡ cond (eqb a b) x y
left_eq a b x y h p = left (eqb a b) x y (ne_eqb a b h) p

-- ---- an answer s that a call gave, which ensures that it is a, taken apart

pub valued : {B : Type 0} {A : Type 0} {s : Outcome B} (a : Outcome B) {x : B} {r : A} (f : Refusal → A) (g : B → A) → s ≡ a → s ≡ Ok x → r ≡ g x → r ≡ on_outcome a f g
unfolding on_outcome
valued {B} a f g e v p = p ∙ ap (λ (z : Outcome B). on_outcome z f g) (sym v ∙ e)

pub refused : {B : Type 0} {A : Type 0} {s : Outcome B} (a : Outcome B) {q : Refusal} {r : A} (f : Refusal → A) (g : B → A) → s ≡ a → s ≡ Err q → r ≡ f q → r ≡ on_outcome a f g
unfolding on_outcome
refused {B} a f g e v p = p ∙ ap (λ (z : Outcome B). on_outcome z f g) (sym v ∙ e)

-- ---- a number that passed the test

pub finite_by_call : {f : Bool} (x : Float) → f ≡ not_finite x → f ≡ false → T (finite x)
finite_by_call x e t = T-of_failed (finite x) (sym e ∙ t)
  where
    T-of_failed : (b : Bool) → not b ≡ false → T b
    T-of_failed b p = subst T (sym (not-false b p)) tt

pub finite-no_nan : (x : Float) → T (finite x) → T (not (is_nan x))
unfolding is_nan
finite-no_nan nan h = h
finite-no_nan (inf s) h = tt
finite-no_nan (fin s m e) h = tt

-- ---- a count as a float

-- A number of at most m is exact where m is at most 2^53.
pub counted : (n m : ℕ) → n ≤ m → T (leb m (2 ^ 53)) → T (in_float binary64 (pos n))
unfolding in_float
counted n m h t = le→leb n (2 ^ 53) (le_trans h (leb→le m (2 ^ 53) t))

pub counted-below : (n m : ℕ) → n < m → T (leb m (2 ^ 53)) → T (in_float binary64 (pos n))
counted-below n m h t = counted n m (le_of_lt h) t

-- A test of the definition that is a comparison of two floats or two numbers, or the answer of a call.
pub ruleset answers = (valued, refused, left_call, taken-call, left_below, taken-below, left_atmost, taken_atmost, left_same, taken_same, left_lt, taken_lt, left_le, taken_le, left_eq, taken_eq, finite_by_call, finite-no_nan, counted, counted-below, rules)

-- Beside it, for a test of the definition of any other kind: a flag that is a parameter or a field, and two tests joined.
pub ruleset flags = (left, taken, taken_both, left_first, left_second)
