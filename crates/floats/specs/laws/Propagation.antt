-- What isn't finite stays so: a sum, a difference or a product with a part that isn't finite, and a quotient of a numerator that isn't, are not finite.
-- So one test at the end of a chain of such operations equals a test of each operation. Assumes nothing.
use Rattle.std.specs.Prelude.{ℕ, ◌≡◌, refl, Bool, true, false, cond, T, eqb, Float, Ok, Err}
use Rattle.std.proofs.Common.{sym, ap, subst, ◌∙◌, T_not, arith}
use Rattle.std.specs.Float.{nan, inf, fin, Format}
use Rattle.std.specs.Float.Ieee.{unlike, add, sub, mul, div, neg}
use Rattle.std.specs.Float.Ieee.Scale.{finite}
use Rattle.floats.specs.Refusals.{Refusal}
use Rattle.floats.specs.Answers.{Answer, Outcome, refusal, on_outcome, follow, not_finite, when_finite, tested}
use Rattle.floats.specs.declared.Reason.TheVariants as reason

-- ---- the operations

either : (b : Bool) (s : Bool) → T (not_finite (cond b nan (inf s)))
either true s = tt
either false s = tt

pub add_left : (f : Format) (x y : Float) → T (not_finite x) → T (not_finite (add f x y))
unfolding add
add_left f nan y h = tt
add_left f (inf s) nan h = tt
add_left f (inf true) (inf true) h = tt
add_left f (inf true) (inf false) h = tt
add_left f (inf false) (inf true) h = tt
add_left f (inf false) (inf false) h = tt
add_left f (inf s) (fin t n d) h = tt
add_left f (fin s m e) y h = absurd h

pub add_right : (f : Format) (x y : Float) → T (not_finite y) → T (not_finite (add f x y))
unfolding add
add_right f nan y h = tt
add_right f (inf s) y h = add_left f (inf s) y tt
add_right f (fin s m e) nan h = tt
add_right f (fin s m e) (inf t) h = tt
add_right f (fin s m e) (fin t n d) h = absurd h

neg_spoils : (x : Float) → T (not_finite x) → T (not_finite (neg x))
unfolding neg
neg_spoils nan h = tt
neg_spoils (inf s) h = tt
neg_spoils (fin s m e) h = h

pub sub-left : (f : Format) (x y : Float) → T (not_finite x) → T (not_finite (sub f x y))
unfolding sub
sub-left f x y h = add_left f x (neg y) h

pub sub_right : (f : Format) (x y : Float) → T (not_finite y) → T (not_finite (sub f x y))
unfolding sub
sub_right f x y h = add_right f x (neg y) (neg_spoils y h)

pub mul_left : (f : Format) (x y : Float) → T (not_finite x) → T (not_finite (mul f x y))
unfolding mul
mul_left f nan y h = tt
mul_left f (inf s) nan h = tt
mul_left f (inf s) (inf t) h = tt
mul_left f (inf s) (fin t n d) h = either (eqb n 0) (unlike s t)
mul_left f (fin s m e) y h = absurd h

pub mul_right : (f : Format) (x y : Float) → T (not_finite y) → T (not_finite (mul f x y))
unfolding mul
mul_right f nan y h = tt
mul_right f (inf s) y h = mul_left f (inf s) y tt
mul_right f (fin s m e) nan h = tt
mul_right f (fin s m e) (inf t) h = either (eqb m 0) (unlike s t)
mul_right f (fin s m e) (fin t n d) h = absurd h

pub div_left : (f : Format) (x y : Float) → T (not_finite x) → T (not_finite (div f x y))
unfolding div
div_left f nan y h = tt
div_left f (inf s) nan h = tt
div_left f (inf s) (inf t) h = tt
div_left f (inf s) (fin t n d) h = tt
div_left f (fin s m e) y h = absurd h

-- ---- the other way round

pub finite-clash : (x : Float) → T (finite x) → T (not_finite x) → ⊥
finite-clash x f n = T_not (finite x) n f

pub finite-back : (x : Float) → (T (not_finite x) → ⊥) → T (finite x)
finite-back nan h = absurd (h tt)
finite-back (inf s) h = absurd (h tt)
finite-back (fin s m e) h = tt

-- ---- one test for two

-- g gives nothing finite for what isn't finite
abbrev pub Spoils : (Float → Float) → Type 0
Spoils g = (x : Float) → T (not_finite x) → T (not_finite (g x))

caught : (b : Bool) (x y : Answer) → T b → x ≡ cond b x y
caught true x y h = refl
caught false x y h = absurd h

pub test_later : (g : Float → Float) (x : Float) (place : ℕ) → Spoils g → when_finite x place (λ t. tested (g t) place) ≡ tested (g x) place
test_later g nan place h = caught (not_finite (g nan)) (refusal reason.NotFinite place) (Ok (g nan)) (h nan tt)
test_later g (inf s) place h = caught (not_finite (g (inf s))) (refusal reason.NotFinite place) (Ok (g (inf s))) (h (inf s) tt)
test_later g (fin s m e) place h = refl

-- k tests the value of g at every finite number
pub then_chain : (k : Float → Answer) (g : Float → Float) (x : Float) (place : ℕ) → ((y : Float) → T (finite y) → k y ≡ tested (g y) place) → Spoils g → follow (tested x place) k ≡ tested (g x) place
unfolding on_outcome
then_chain k g nan place e h = caught (not_finite (g nan)) (refusal reason.NotFinite place) (Ok (g nan)) (h nan tt)
then_chain k g (inf s) place e h = caught (not_finite (g (inf s))) (refusal reason.NotFinite place) (Ok (g (inf s))) (h (inf s) tt)
then_chain k g (fin s m e) place l h = l (fin s m e) tt

pub then_later : (g : Float → Float) (x : Float) (place : ℕ) → Spoils g → follow (tested x place) (λ t. tested (g t) place) ≡ tested (g x) place
then_later g x place h = then_chain (λ t. tested (g t) place) g x place (λ y f. refl) h

-- a number known to be finite passes its test
pub passes : (x : Float) (place : ℕ) (k : Float → Answer) → T (finite x) → when_finite x place k ≡ k x
passes nan place k h = absurd h
passes (inf s) place k h = absurd h
passes (fin s m e) place k h = refl

-- what passes the test of a result is that number, and finite
pub passed_test : (x : Float) (place : ℕ) {y : Float} → tested x place ≡ Ok y → (y ≡ x) × T (finite x)
passed_test nan place h = absurd (let z : ◌≡◌ {A = ℕ} 0 1 = cc in omega arith)
passed_test (inf s) place h = absurd (let z : ◌≡◌ {A = ℕ} 0 1 = cc in omega arith)
passed_test (fin s m e) place {y} h = (cc, tt)

-- what is made of the number that passed is made of the number that was tested
pub passed_on : {A : Type 0} (k : Float → Outcome A) (x : Float) (place : ℕ) {y : Float} {a : Outcome A} → tested x place ≡ Ok y → (T (finite y) → a ≡ k y) → a ≡ when_finite x place k
passed_on k nan place h e = absurd (passed_test nan place h).1
passed_on k (inf s) place h e = absurd (passed_test (inf s) place h).1
passed_on k (fin s m d) place h e =
    let q = passed_test (fin s m d) place h in
    e (subst (λ (v : Float). T (finite v)) (sym q.0) q.1) ∙ ap k q.0

-- and what was refused is not gone on with
pub stopped : {A : Type 0} (k : Float → Outcome A) (x : Float) (place : ℕ) {r : Refusal} {a : Outcome A} → tested x place ≡ Err r → a ≡ Err r → a ≡ when_finite x place k
stopped k nan place h e = cc
stopped k (inf s) place h e = cc
stopped k (fin s m d) place h e = cc

-- ---- what the code's own test says: its flag f tells whether y is not finite

-- y is z, which the definition tests
pub tested_bad : {f : Bool} {y : Float} (z : Float) (place : ℕ) → y ≡ z → f ≡ not_finite y → f ≡ true → refusal reason.NotFinite place ≡ tested z place
tested_bad {f} {y} z place q e t = ap (λ (b : Bool). cond b (refusal reason.NotFinite place) (Ok y)) (sym t ∙ e) ∙ ap (λ (x : Float). tested x place) q

pub tested-good : {f : Bool} {y : Float} (z : Float) (place : ℕ) → y ≡ z → f ≡ not_finite y → f ≡ false → Ok y ≡ tested z place
tested-good {f} {y} z place q e t = ap (λ (b : Bool). cond b (refusal reason.NotFinite place) (Ok y)) (sym t ∙ e) ∙ ap (λ (x : Float). tested x place) q
