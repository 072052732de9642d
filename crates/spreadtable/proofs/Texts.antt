-- A cell by what a call answered. Assumes nothing.
use Rattle.std.specs.Prelude.{Ok, Err, Option, Some, None}
use Prim.Native.Nat.{ℕ}
use native.Mathlib.Omega.{arith}
use mathlib.Core.Path.{◌≡◌, sym, ap, ◌∙◌}
use mathlib.Core.Bool.{Bool, true, false, cond}
use mathlib.Core.List.{List}
use lib.Ieee.{Float}
use Rattle.floats.specs.Refusals.{Refusal}
use Rattle.floats.specs.Reasons.{reason_number}
use Rattle.floats.specs.Answers.{Answer, Check}
use Rattle.terms.specs.Numbers.{float}
use Rattle.terms.specs.Checks.{beyond}
use Rattle.closingsheet.specs.Cells.{fitted_cell, value_cell}
use Rattle.spreadtable.specs.Cells.{hash_cell, value_text, answer_text}
use Rattle.spreadtable.specs.laws.Refusing.{check_text}

too_wide_lem : (b : Bool) (cell : List ℕ) {r : List ℕ} → None ≡ cond b None (Some cell) → r ≡ hash_cell 32 → r ≡ cond b (hash_cell 32) cell
too_wide_lem true cell e p = p
too_wide_lem false cell e p = absurd (let z : ◌≡◌ {A = ℕ} 0 1 = cc in omega arith)

narrow_lem : (b : Bool) (cell : List ℕ) {t : List ℕ} → Some t ≡ cond b None (Some cell) → t ≡ cond b (hash_cell 32) cell
narrow_lem true cell e = absurd (let z : ◌≡◌ {A = ℕ} 0 1 = cc in omega arith)
narrow_lem false cell {t} e = let same : t ≡ cell = cc in same

pub too_wide : {v : Option (List ℕ)} {r : List ℕ} (x : Float) → v ≡ fitted_cell (value_cell x) → v ≡ None → r ≡ hash_cell 32 → r ≡ value_text x
too_wide x e t p = too_wide_lem (value_cell x).wide (value_cell x).cell (sym t ∙ e) p

pub narrow : {v : Option (List ℕ)} {t : List ℕ} (x : Float) → v ≡ fitted_cell (value_cell x) → v ≡ Some t → t ≡ value_text x
narrow x e s = narrow_lem (value_cell x).wide (value_cell x).cell (sym s ∙ e)

pub of_value_lem : {a : Answer} {r : List ℕ} (x : Float) → a ≡ Ok x → r ≡ value_text x → r ≡ answer_text a
unfolding answer_text
of_value_lem x e p = p ∙ sym (ap answer_text e)

pub of_refusal : {a : Answer} {r : List ℕ} (q : Refusal) → a ≡ Err q → r ≡ hash_cell (reason_number q.reason) → r ≡ answer_text a
unfolding answer_text
of_refusal q e p = p ∙ sym (ap answer_text e)

pub of_passed : {c : Check} {r : List ℕ} → c ≡ Ok tt → r ≡ hash_cell 0 → r ≡ check_text c
unfolding check_text
of_passed e p = p ∙ sym (ap check_text e)

pub of_refused : {c : Check} {r : List ℕ} (q : Refusal) → c ≡ Err q → r ≡ hash_cell (reason_number q.reason) → r ≡ check_text c
unfolding check_text
of_refused q e p = p ∙ sym (ap check_text e)

-- A spread within its range shows what its walk answers.
pub walked_as : {f : Bool} {a b : Answer} {r : List ℕ} (s : Float) → f ≡ beyond (float 1) s → f ≡ false → a ≡ b → r ≡ answer_text a → r ≡ cond (beyond (float 1) s) (hash_cell 4) (answer_text b)
walked_as {b = b} s e t h p = p ∙ ap answer_text h ∙ sym (ap (λ (z : Bool). cond z (hash_cell 4) (answer_text b)) (sym e ∙ t))

pub checked_as : {k : Check} {text : List ℕ} (c : Check) → k ≡ c → text ≡ check_text k → text ≡ check_text c
checked_as c e p = p ∙ ap check_text e
