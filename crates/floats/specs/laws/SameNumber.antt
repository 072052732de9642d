-- Two floats of a format that are equal as numbers and have one sign are equal as data, bit for bit. Assumes nothing.
use Rattle.std.specs.Prelude.{◌≡◌, refl, Bool, true, false, cond, ◌||◌, ℕ, ◌+◌, ◌-◌, ◌*◌, ◌/◌, ◌^◌, ℤ, T, eqb, Float}
use Rattle.std.proofs.Common.{sym, ap, ◌∙◌, mul_right_comm, eqb→eq}
use Rattle.std.specs.Bool.{beq}
use Rattle.std.specs.Float.{nan, inf, fin, Format}
use Rattle.std.specs.Float.Ieee.{prec, low, top, hid, up, down, size, unlike, round, mul, div, lt, eq, fits, to_bits, of_bits}
use Rattle.std.specs.Float.Ieee.Scale.{finite}
use Rattle.std.specs.Float.Ieee.Fits.{down_pos, and_l}
use Rattle.std.specs.Float.Ieee.Nearest.{div_same}
use Rattle.std.specs.Float.Ieee.Bits.{of_bits-to_bits}
use Rattle.floats.specs.Answers.{plus_zero}
use Rattle.floats.specs.laws.Rounding.{Signed, round-signed}
use Rattle.floats.specs.laws.Finite.{infinite}

-- the bits of a finite number, from its sign and its magnitude in smallest units
abbrev written : Format → Bool → ℕ → ℕ
written f s n = cond s (top f) 0 + (size n - prec f) * hid f + n / 2 ^ (size n - prec f)

same_units : (m : ℕ) (e : ℤ) (n : ℕ) (d : ℤ) (l : ℕ) → m * up e * down d ≡ n * up d * down e → m * up e * l / down e ≡ n * up d * l / down d
same_units m e n d l h =
    div_same (m * up e * l) (down e) (n * up d * l) (down d) (down_pos e) (down_pos d)
    (mul_right_comm (m * up e) l (down d) ∙ ap (λ (x : ℕ). x * l) h ∙ mul_right_comm (n * up d) (down e) l)

same_bits : (f : Format) (s : Bool) (x y : Float) → Signed s x → Signed s y → T (eq x y) → to_bits f x ≡ to_bits f y
unfolding to_bits eq
same_bits f s nan y p q h = absurd p
same_bits f s (inf t) nan p q h = absurd q
same_bits f s (inf t) (inf u) p q h = rw (p, q)
same_bits f s (inf t) (fin u n d) p q h = absurd h
same_bits f s (fin t m e) nan p q h = absurd q
same_bits f s (fin t m e) (inf u) p q h = absurd h
same_bits f s (fin t m e) (fin u n d) p q h =
    let k = eqb→eq (m * up e * down d) (n * up d * down e) (and_l (eqb (m * up e * down d) (n * up d * down e)) (beq t u || eqb (m * up e * down d) 0) h) in
    ap (λ (b : Bool). written f b (m * up e * 2 ^ low f / down e)) (p ∙ sym q) ∙ ap (written f u) (same_units m e n d (2 ^ low f) k)

pub same_of_eq : (f : Format) (s : Bool) (x y : Float) → T (fits f x) → T (fits f y) → Signed s x → Signed s y → T (eq x y) → x ≡ y
same_of_eq f s x y F G p q h = sym (of_bits-to_bits f x F) ∙ ap (of_bits f) (same_bits f s x y p q h) ∙ of_bits-to_bits f y G

-- ---- the sign of a finite product and of a finite quotient

pub signed_of-positive : (x : Float) → T (lt plus_zero x) → Signed false x
unfolding lt of_bits
signed_of-positive nan h = h
signed_of-positive (inf true) h = absurd h
signed_of-positive (inf false) h = refl
signed_of-positive (fin true m e) h = absurd h
signed_of-positive (fin false m e) h = refl

pub mul-signed : (f : Format) (s t : Bool) (x y : Float) → Signed s x → Signed t y → T (finite (mul f x y)) → Signed (unlike s t) (mul f x y)
unfolding mul
mul-signed f s t nan y p q h = absurd h
mul-signed f s t (inf u) nan p q h = absurd h
mul-signed f s t (inf u) (inf v) p q h = absurd h
mul-signed f s t (inf u) (fin v n d) p q h = absurd (infinite (eqb n 0) (unlike u v) h)
mul-signed f s t (fin u m e) nan p q h = absurd h
mul-signed f s t (fin u m e) (inf v) p q h = absurd (infinite (eqb m 0) (unlike u v) h)
mul-signed f s t (fin u m e) (fin v n d) p q h = rw (← p, ← q) (round-signed f (unlike u v) (m * up e * (n * up d)) (down e * down d))

pub div-signed : (f : Format) (s t : Bool) (x y : Float) → Signed s x → Signed t y → T (finite (div f x y)) → Signed (unlike s t) (div f x y)
unfolding div
div-signed f s t nan y p q h = absurd h
div-signed f s t (inf u) nan p q h = absurd h
div-signed f s t (inf u) (inf v) p q h = absurd h
div-signed f s t (inf u) (fin v n d) p q h = absurd h
div-signed f s t (fin u m e) nan p q h = absurd h
div-signed f s t (fin u m e) (inf v) p q h = rw (p, q)
div-signed f s t (fin u m e) (fin v n d) p q h = go (eqb n 0) h
  where
    r : Float
    r = round f (unlike u v) (m * up e * down d) (n * up d * down e)

    go : (b : Bool) → T (finite (cond b (cond (eqb m 0) nan (inf (unlike u v))) r)) → Signed (unlike s t) (cond b (cond (eqb m 0) nan (inf (unlike u v))) r)
    go true h = absurd (infinite (eqb m 0) (unlike u v) h)
    go false h = rw (← p, ← q) (round-signed f (unlike u v) (m * up e * down d) (n * up d * down e))
