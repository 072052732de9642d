-- Laws in the shape that `search` wants, for tests of the definitions that are joined by or. Assumes nothing.
use mathlib.Core.Path.{◌≡◌, sym, ap, ◌∙◌}
use mathlib.Core.Bool.{Bool, true, false, cond, ◌||◌}
use Rattle.floats.proofs.Laws.{answers}

pub either_first : {A : Type 0} (b c : Bool) {r : A} (x y : A) → b ≡ true → r ≡ x → r ≡ cond (b || c) x y
either_first b c x y t p = p ∙ sym (ap (λ (z : Bool). cond (z || c) x y) t)

pub either_second : {A : Type 0} (b c : Bool) {r : A} (x y : A) → b ≡ false → c ≡ true → r ≡ x → r ≡ cond (b || c) x y
either_second b c x y t u p = p ∙ sym (ap (λ (z : Bool). cond (z || c) x y) t ∙ ap (λ (z : Bool). cond z x y) u)

pub neither : {A : Type 0} (b c : Bool) {r : A} (x y : A) → b ≡ false → c ≡ false → r ≡ y → r ≡ cond (b || c) x y
neither b c x y t u p = p ∙ sym (ap (λ (z : Bool). cond (z || c) x y) t ∙ ap (λ (z : Bool). cond z x y) u)

-- The last two of three tests.
pub or_first : (b c : Bool) → b ≡ true → (b || c) ≡ true
or_first b c t = ap (λ (z : Bool). z || c) t

pub or_second : (b c : Bool) → b ≡ false → c ≡ true → (b || c) ≡ true
or_second b c t u = ap (λ (z : Bool). z || c) t ∙ u

pub or_none : (b c : Bool) → b ≡ false → c ≡ false → (b || c) ≡ false
or_none b c t u = ap (λ (z : Bool). z || c) t ∙ u

pub ruleset transitions = (either_first, either_second, neither, or_first, or_second, or_none, answers)
