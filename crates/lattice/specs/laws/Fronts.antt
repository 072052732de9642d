-- The first entries of a slice, once written. Assumes nothing.
use Rattle.std.specs.Prelude.{◌≤◌, ◌≡◌, refl, List, [], ◌∷◌, length, set, drop}
use Rattle.std.proofs.Common.{arith}

pub set_one : {A : Type 0} (l : List A) (a : A) → 1 ≤ length l → set l 0 a ≡ a ∷ drop 1 l
set_one [] a h = absurd (omega arith)
set_one (x ∷ l) a h = refl

pub set_two : {A : Type 0} (l : List A) (a b : A) → 2 ≤ length l → set (set l 0 a) 1 b ≡ a ∷ b ∷ drop 2 l
set_two [] a b h = absurd (omega arith)
set_two (x ∷ []) a b h = absurd (omega arith)
set_two (x ∷ y ∷ l) a b h = refl

pub set_three : {A : Type 0} (l : List A) (a b c : A) → 3 ≤ length l → set (set (set l 0 a) 1 b) 2 c ≡ a ∷ b ∷ c ∷ drop 3 l
set_three [] a b c h = absurd (omega arith)
set_three (x ∷ []) a b c h = absurd (omega arith)
set_three (x ∷ y ∷ []) a b c h = absurd (omega arith)
set_three (x ∷ y ∷ z ∷ l) a b c h = refl
