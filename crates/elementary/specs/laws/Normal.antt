-- A finite double that is not below 2^-1022 has a clear sign bit and an exponent's field from 1 to 2046. Assumes nothing.
use Rattle.std.specs.Prelude.{ℕ, zero, suc, ◌+◌, ◌*◌, ◌/◌, ◌%◌, ◌^◌, ◌≤◌, ◌<◌, ◌≡◌, Bool, true, false, not, cond, T, leb, eqb, Float}
use Rattle.std.proofs.Common.{sym, subst, mul-one, mul-lt-mul_of_pos_right, not-le_of_lt, arith, eq-eqb, leb→le, pow_pos}
use Rattle.std.proofs.Math.Dec.{nleb→lt}
use Rattle.std.specs.Float.{nan, inf, fin, binary64}
use Rattle.std.specs.Float.Ieee.{odd, of_fields, of_bits, to_bits, fits, lt, le}
use Rattle.std.specs.Float.Ieee.Bits.{of_bits-to_bits, to_bits-lt}
use Rattle.std.specs.Float.Ieee.Scale.{finite}
use Rattle.std.specs.Float.Ieee.Exact.{odd_sign}
use Rattle.std.specs.Float.Ieee.Positive.{positive, above, above_of_le, values_of_le, own_value}
use Rattle.elementary.specs.Logarithm.{smallest_normal}
use Rattle.floats.specs.laws.Order as order

-- The bits of such a double.
pub record Normal (b : ℕ) : Type 0 where
  pub low : 2 ^ 52 ≤ b
  pub high : b < 2047 * 2 ^ 52

-- ---- above zero

positive_of : (y : Float) → T (finite y) → T (le smallest_normal y) → T (positive y)
unfolding of_bits
positive_of y f h = go y f (above_of_le smallest_normal y tt h)
  where
    go : (y : Float) → T (finite y) → T (above y) → T (positive y)
    go nan f a = absurd f
    go (inf s) f a = absurd f
    go (fin true m e) f a = absurd a
    go (fin false m e) f a = a

odd-negative : (d q k l : ℕ) → T (positive (odd d true q k l)) → ⊥
unfolding odd
odd-negative d zero k l h = h
odd-negative d (suc q) k l h = h

-- an infinity or a NaN
special : (b : Bool) (s : Bool) → T (positive (cond b (inf s) nan)) → ⊥
special true s h = h
special false s h = h

-- ---- the fields

sign_clear : (f t : ℕ) → T (positive (of_fields binary64 true f t)) → ⊥
unfolding of_fields
sign_clear zero t h = odd-negative 53 t 0 1074 h
sign_clear (suc f) t h = go (eqb (suc f) 2047) h
  where
    go : (b : Bool) → T (positive (cond b (cond (eqb t 0) (inf true) nan) (odd 53 true (2 ^ 52 + t) f 1074))) → ⊥
    go true h = special (eqb t 0) true h
    go false h = odd-negative 53 (2 ^ 52 + t) f 1074 h

field_below : (f t : ℕ) → T (positive (of_fields binary64 false f t)) → f ≡ 2047 → ⊥
unfolding of_fields
field_below zero t h e = omega arith
field_below (suc f) t h e = special (eqb t 0) false (subst (λ (b : Bool). T (positive (cond b (cond (eqb t 0) (inf false) nan) (odd 53 false (2 ^ 52 + t) f 1074)))) (eq-eqb (suc f) 2047 e) h)

-- a field of 0 stands for a number below 2^-1022
field-above : (t : ℕ) → t < 2 ^ 52 → T (positive (of_fields binary64 false 0 t)) → T (le smallest_normal (of_fields binary64 false 0 t)) → ⊥
unfolding of_fields of_bits
field-above t l p h =
    not-le_of_lt (subst (λ (z : ℕ). z * 2 ^ 1022 < 2 ^ 1074) (sym (mul-one t)) (mul-lt-mul_of_pos_right l (pow_pos 1022)))
    (values_of_le smallest_normal (odd 53 false t 0 1074) 1 (2 ^ 1022) (t * 2 ^ 0) (2 ^ 1074) tt p (own_value smallest_normal tt) (odd_sign 53 false t 0 1074) h)

pub normal_range : (b : ℕ) → b < 2 ^ 64 → T (finite (of_bits binary64 b)) → T (le smallest_normal (of_bits binary64 b)) → Normal b
unfolding of_bits
normal_range b w f h = go (leb (2 ^ 63) b) (leb→le (2 ^ 63) b) (nleb→lt (2 ^ 63) b) (positive_of (of_bits binary64 b) f h) h
  where
    fields : Bool → Float
    fields s = of_fields binary64 s (b % 2 ^ 63 / 2 ^ 52) (b % 2 ^ 52)

    low : T (positive (fields false)) → T (le smallest_normal (fields false)) → b % 2 ^ 63 / 2 ^ 52 ≡ 0 → ⊥
    low p h e = field-above (b % 2 ^ 52) (omega arith) (subst (λ (z : ℕ). T (positive (of_fields binary64 false z (b % 2 ^ 52)))) e p) (subst (λ (z : ℕ). T (le smallest_normal (of_fields binary64 false z (b % 2 ^ 52)))) e h)

    go : (s : Bool) → (T s → 2 ^ 63 ≤ b) → (T (not s) → b < 2 ^ 63) → T (positive (fields s)) → T (le smallest_normal (fields s)) → Normal b
    go true k l p h = absurd (sign_clear (b % 2 ^ 63 / 2 ^ 52) (b % 2 ^ 52) p)
    go false k l p h =
        let s : b < 2 ^ 63 = l tt in
        let o = low p h in
        let u = field_below (b % 2 ^ 63 / 2 ^ 52) (b % 2 ^ 52) p in
        record { low = omega arith; high = omega arith }

-- ---- what ln takes

pub record Loggable (x : Float) : Type 0 where
  pub is_finite : T (finite x)
  pub low : T (le smallest_normal x)

pub loggable : (x : Float) → T (finite x) → lt x smallest_normal ≡ false → Loggable x
unfolding of_bits
loggable x f h = record { is_finite = f; low = order.le_of_not_lt x smallest_normal (order.number_of-finite x f) tt (order.T-of_not (lt x smallest_normal) h) }

pub loggable-normal : (x : Float) → T (fits binary64 x) → Loggable x → Normal (to_bits binary64 x)
loggable-normal x f h =
    let e = sym (of_bits-to_bits binary64 x f) in
    normal_range (to_bits binary64 x) (to_bits-lt binary64 x f) (subst (λ (y : Float). T (finite y)) e h.is_finite) (subst (λ (y : Float). T (le smallest_normal y)) e h.low)
