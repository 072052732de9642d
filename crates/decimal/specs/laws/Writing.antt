-- A number to a few decimals by its exact value. Assumes nothing.
use Rattle.std.specs.Prelude.{ℕ, ◌*◌, ◌^◌, ◌≤◌, ◌<◌, ◌≡◌, refl, Bool, true, false, cond, ◌||◌, ltb, leb, Float, Option, Some, None}
use Rattle.std.proofs.Common.{sym, ap, ◌∙◌, le_trans, le_of_eq, lt_of_lt_of_le, lt_of_le_of_lt, mul_assoc, mul_right_comm, mul-le-mul_right, mul-lt-mul_of_pos_right, lt_of_mul-lt-mul_right, le_of_mul-le-mul_right, lt-ltb, le-ltb, le-leb}
use Rattle.std.proofs.lemmas.Bool.{lt-leb}
use Rattle.std.specs.Float.{nan, inf, fin}
use Rattle.std.specs.Float.Ieee.{up, down}
use Rattle.std.specs.Float.Ieee.Exact.{HasValue}
use Rattle.std.specs.Float.Ieee.Fits.{down_pos}
use Rattle.std.specs.Float.Ieee.Nearest.{closest, closest_same}
use Rattle.decimal.specs.declared.Rounded.{Rounded}
use Rattle.decimal.specs.Writing.{whole_digits, in_units, decimals_of}

-- ---- how many digits a whole part may have

pub few-digits : (places : ℕ) → places ≤ 4 → whole_digits places ≡ 49
few-digits places h = ap (λ (z : Bool). cond z 41 49) (le-ltb 4 places h)

pub fewer_digits : (places : ℕ) → 4 < places → whole_digits places ≡ 41
fewer_digits places h = ap (λ (z : Bool). cond z 41 49) (lt-ltb 4 places h)

-- ---- more decimals than six, and a number whose exact value is ±a / c

neither : {b c : Bool} (y : Option Rounded) → b ≡ false → c ≡ false → cond (b || c) None y ≡ y
neither {b} {c} y p q = ap (λ (z : Bool). cond (z || c) None y) p ∙ ap (λ (z : Bool). cond z None y) q

second : (b : Bool) {c : Bool} (y : Option Rounded) → c ≡ true → cond (b || c) None y ≡ None
second true y q = refl
second false y q = ap (λ (z : Bool). cond z None y) q

pub too_many : (places : ℕ) (x : Float) → 6 < places → decimals_of places x ≡ None
unfolding decimals_of
too_many places nan h = refl
too_many places (inf s) h = refl
too_many places (fin s m e) h =
    ap (λ (z : Bool). cond (z || leb (2 ^ whole_digits places * down e) (m * up e)) None (Some (in_units s places (closest (10 ^ places * (m * up e)) (down e))))) (lt-ltb 6 places h)

pub shown : (places : ℕ) → places ≤ 6 → (x : Float) (s : Bool) (a c : ℕ) → 0 < c → HasValue x s a c → a < 2 ^ whole_digits places * c
    → decimals_of places x ≡ Some (in_units s places (closest (10 ^ places * a) c))
unfolding decimals_of
shown places g nan s a c C v h = absurd v
shown places g (inf t) s a c C v h = absurd v
shown places g (fin t m e) s a c C v h =
    let less : m * up e < 2 ^ whole_digits places * down e = lt_of_mul-lt-mul_right c (lt_of_le_of_lt (le_of_eq v.1) (lt_of_lt_of_le (mul-lt-mul_of_pos_right h (down_pos e)) (le_of_eq (mul_right_comm (2 ^ whole_digits places) c (down e))))) in
    let same : closest (10 ^ places * (m * up e)) (down e) ≡ closest (10 ^ places * a) c =
    closest_same (10 ^ places * (m * up e)) (down e) (10 ^ places * a) c (down_pos e) C (mul_assoc (10 ^ places) (m * up e) c ∙ ap (λ (z : ℕ). 10 ^ places * z) v.1 ∙ sym (mul_assoc (10 ^ places) a (down e))) in
    neither _ (le-ltb 6 places g) (lt-leb (2 ^ whole_digits places * down e) (m * up e) less)
    ∙ ap (λ (z : ℕ). Some (in_units t places z)) same
    ∙ ap (λ (b : Bool). Some (in_units b places (closest (10 ^ places * a) c))) v.0

pub hidden : (places : ℕ) (x : Float) (s : Bool) (a c : ℕ) → 0 < c → HasValue x s a c → 2 ^ whole_digits places * c ≤ a → decimals_of places x ≡ None
unfolding decimals_of
hidden places nan s a c C v h = refl
hidden places (inf t) s a c C v h = refl
hidden places (fin t m e) s a c C v h =
    let more : 2 ^ whole_digits places * down e ≤ m * up e = le_of_mul-le-mul_right (le_trans (le_of_eq (mul_right_comm (2 ^ whole_digits places) (down e) c)) (le_trans (mul-le-mul_right (down e) h) (le_of_eq (sym v.1)))) C in
    second (ltb 6 places) (Some (in_units t places (closest (10 ^ places * (m * up e)) (down e)))) (le-leb (2 ^ whole_digits places * down e) (m * up e) more)
