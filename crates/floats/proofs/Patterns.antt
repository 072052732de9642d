-- A finite double by its bits: the exponent's field and the digits give its exact value. Assumes nothing.
use Prim.Native.Nat.{ℕ, zero, suc, ◌+◌, ◌-◌, ◌*◌, ◌/◌, ◌%◌, ◌^◌, ◌≤◌, ◌<◌}
use native.Mathlib.Nat.{lt_of_lt_of_le, le_trans, le_of_eq, mul-one, mul_assoc, mul_right_comm, mul-pos, mul-lt-mul_of_pos_right, eq_of_mul-eq-mul_right}
use native.Mathlib.Omega.{arith}
use mathlib.Core.Path.{◌≡◌, sym, ap, subst, ◌∙◌}
use mathlib.Core.Bool.{Bool, true, false, cond}
use lib.Dec.{T, leb, eqb}
use lib.Pow.{pow-add, pow_pos, pow_mono}
use lib.Ieee.{Float, nan, inf, fin, Format, binary64, prec, low, up, down, odd, fits, hid, ones, of_fields, of_bits, to_bits}
use lib.Ieee.Bits.{of_bits-to_bits}
use lib.Ieee.Exact.{HasValue, odd_sign}
use lib.Ieee.Scale.{finite}

-- from one fraction to another of the same size
revalue : (x : Float) (s : Bool) (w l n d : ℕ) → 0 < l → n * l ≡ w * d → HasValue x s w l → HasValue x s n d
revalue nan s w l n d p h v = v
revalue (inf t) s w l n d p h v = v
revalue (fin t m e) s w l n d p h v = (
  v.0,
  eq_of_mul-eq-mul_right l p (m * up e * d) (n * down e)
      (mul_right_comm (m * up e) d l ∙ ap (λ (z : ℕ). z * d) v.1 ∙ mul_right_comm w (down e) d ∙ ap (λ (z : ℕ). z * down e) (sym h) ∙ mul_right_comm n l (down e)),
)

shifted : (q k d l : ℕ) → k + d ≡ l → q * 2 ^ l ≡ q * 2 ^ k * 2 ^ d
shifted q k d l e = ap (λ (z : ℕ). q * z) (ap (λ (z : ℕ). 2 ^ z) (sym e) ∙ pow-add 2 k d) ∙ sym (mul_assoc q (2 ^ k) (2 ^ d))

-- ---- what the fields are read as

field-zero : (f : Format) (s : Bool) (t : ℕ) → HasValue (of_fields f s 0 t) s t (2 ^ low f)
unfolding of_fields
field-zero f s t = subst (λ (a : ℕ). HasValue (odd (prec f) s t 0 (low f)) s a (2 ^ low f)) (mul-one t) (odd_sign (prec f) s t 0 (low f))

field-suc : (f : Format) (s : Bool) (k t : ℕ) → T (finite (of_fields f s (suc k) t)) → HasValue (of_fields f s (suc k) t) s ((hid f + t) * 2 ^ k) (2 ^ low f)
unfolding of_fields
field-suc f s k t h = go (eqb (suc k) (ones f)) (eqb t 0) h
  where
    go : (b c : Bool) → T (finite (cond b (cond c (inf s) nan) (odd (prec f) s (hid f + t) k (low f)))) → HasValue (cond b (cond c (inf s) nan) (odd (prec f) s (hid f + t) k (low f))) s ((hid f + t) * 2 ^ k) (2 ^ low f)
    go true true q = absurd q
    go true false q = absurd q
    go false c q = odd_sign (prec f) s (hid f + t) k (low f)

-- ---- the size in units of the smallest value, where the field is at most j

pub record Low (y : Float) (s : Bool) (x t j : ℕ) : Type 0 where
  pub size : ℕ
  pub value : HasValue y s size (2 ^ 1074)
  pub small : size < 2 ^ (52 + j)
  pub some : 0 < x + t → 0 < size
  pub none : x + t ≡ 0 → size ≡ 0

nonzero : (k t : ℕ) → suc k + t ≡ 0 → ⊥
nonzero k t g = omega arith

low_of : (s : Bool) (x t j : ℕ) → T (finite (of_fields binary64 s x t)) → t < 2 ^ 52 → x ≤ j → Low (of_fields binary64 s x t) s x t j
low_of s zero t j h b l = record { size = t; value = field-zero binary64 s t; small = lt_of_lt_of_le b (pow_mono {i = 52} (omega arith)); some = λ g. omega arith; none = λ g. omega arith }
low_of s (suc k) t j h b l = record {
  size = (2 ^ 52 + t) * 2 ^ k;
  value = field-suc binary64 s k t h;
  small = lt_of_lt_of_le (mul-lt-mul_of_pos_right {n = 2 ^ 53} (omega arith) (pow_pos k)) (le_trans (le_of_eq (sym (pow-add 2 53 k))) (pow_mono {i = 53 + k} (omega arith)));
  some = λ g. mul-pos (omega arith) (pow_pos k);
  none = λ g. absurd (nonzero k t g);
}

-- ---- the double x
abbrev pub sign_of : Float → Bool
sign_of x = leb 9223372036854775808 (to_bits binary64 x)

abbrev pub field_of : Float → ℕ
field_of x = to_bits binary64 x % 9223372036854775808 / 4503599627370496

abbrev pub digits_of : Float → ℕ
digits_of x = to_bits binary64 x % 4503599627370496

module _ (x : Float) (p : T (fits binary64 x)) (q : T (finite x)) where
  read : of_fields binary64 (sign_of x) (field_of x) (digits_of x) ≡ x
  unfolding of_bits
  read = of_bits-to_bits binary64 x p

  fin-read : T (finite (of_fields binary64 (sign_of x) (field_of x) (digits_of x)))
  fin-read = subst (λ (y : Float). T (finite y)) (sym read) q

  pub low_value : (j : ℕ) → field_of x ≤ j → Low x (sign_of x) (field_of x) (digits_of x) j
  low_value j l = subst (λ (y : Float). Low y (sign_of x) (field_of x) (digits_of x) j) read (low_of (sign_of x) (field_of x) (digits_of x) j fin-read (omega arith) l)

  normal-value : (k : ℕ) → field_of x ≡ suc k → HasValue x (sign_of x) ((2 ^ 52 + digits_of x) * 2 ^ k) (2 ^ 1074)
  normal-value k e =
      subst (λ (y : Float). HasValue y (sign_of x) ((2 ^ 52 + digits_of x) * 2 ^ k) (2 ^ 1074)) (ap (λ (z : ℕ). of_fields binary64 (sign_of x) z (digits_of x)) (sym e) ∙ read)
      (field-suc binary64 (sign_of x) k (digits_of x) (subst (λ (z : ℕ). T (finite (of_fields binary64 (sign_of x) z (digits_of x)))) e fin-read))

  -- ---- a number with places after the point, and a whole number
  pub mid-value : 1 ≤ field_of x → field_of x ≤ 1074 → HasValue x (sign_of x) (2 ^ 52 + digits_of x) (2 ^ (1075 - field_of x))
  mid-value a b =
      revalue x (sign_of x) ((2 ^ 52 + digits_of x) * 2 ^ (field_of x - 1)) (2 ^ 1074) (2 ^ 52 + digits_of x) (2 ^ (1075 - field_of x)) (pow_pos 1074)
      (shifted (2 ^ 52 + digits_of x) (field_of x - 1) (1075 - field_of x) 1074 (omega arith)) (normal-value (field_of x - 1) (omega arith))

  pub large-value : 1074 < field_of x → HasValue x (sign_of x) ((2 ^ 52 + digits_of x) * 2 ^ (field_of x - 1075)) 1
  large-value a =
      revalue x (sign_of x) ((2 ^ 52 + digits_of x) * 2 ^ (field_of x - 1)) (2 ^ 1074) ((2 ^ 52 + digits_of x) * 2 ^ (field_of x - 1075)) 1 (pow_pos 1074)
      (sym (shifted (2 ^ 52 + digits_of x) (field_of x - 1075) 1074 (field_of x - 1) (omega arith)) ∙ sym (mul-one ((2 ^ 52 + digits_of x) * 2 ^ (field_of x - 1)))) (normal-value (field_of x - 1) (omega arith))
