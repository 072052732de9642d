-- A finite double by the fields of its bits, and its digits moved up to 63.
use mathlib.Core.Path.{◌≡◌, refl, sym, ap, ◌∙◌, subst}
use mathlib.Core.Logic.{◌⊎◌, inl, inr}
use Prim.Native.Nat.{ℕ, zero, suc, ◌+◌, ◌-◌, ◌*◌, ◌/◌, ◌%◌, ◌^◌, ◌≤◌, ◌<◌}
use native.Mathlib.Nat.{add_comm, add-sub_of_le, mod-eq_of_lt, mul_assoc, mul_comm, mul-le-mul_left, mul_right_comm, pow-succ', zero-mul}
use native.Mathlib.Omega.{arith}
use mathlib.Core.Bool.{Bool, true, false, not, cond}
use lib.Dec.{T, leb, eqb}
use lib.Pow.{field, pow-add, pow_mono}
use lib.Ieee.{Float, nan, inf, fin, is_nan, Format, binary64, prec, low, hid, ones, odd, fits, of_fields, of_bits, to_bits}
use lib.Ieee.Bits.{of_bits-to_bits}
use lib.Ieee.Exact.{HasValue, odd_sign}
use lib.Ieee.Fits.{eq→eqb}
use lib.Ieee.Positive.{num, den}
use lib.Ieee.Scale.{finite}
use Rattle.rounded.specs.laws.Packing.{Lifted}
use Rattle.rounded.specs.laws.Parts.{Ample, Digits, Parted, middle_is}
use Rattle.rounded.specs.laws.RoundToOdd.{ordered}

-- ---- m * 2^k with 63 digits

module _ (m k r : ℕ) (small : m < 9007199254740992) (l : Lifted m r) where
  -- a number of 53 digits is moved up by 11 places at least
  pub some-places : 11 ≤ r
  some-places = go (ordered 11 r)
    where
      go : (11 ≤ r) ⊎ (r < 11) → 11 ≤ r
      go (inl h) = h
      go (inr h) =
          let a : m * 2 ^ r ≤ m * 1024 = mul-le-mul_left m (pow_mono {i = r} {j = 10} (omega arith)) in
          let b : 9223372036854775808 ≤ m * 2 ^ r = l.full in
          omega arith

  twice : m * 2 ^ r ≡ 2 * (m * 2 ^ (r - 1))
  twice = ap (λ (z : ℕ). m * 2 ^ z) one ∙ ap (λ (z : ℕ). m * z) (pow-succ' 2 (r - 1)) ∙ sym (mul_assoc m 2 (2 ^ (r - 1))) ∙ ap (λ (z : ℕ). z * 2 ^ (r - 1)) (mul_comm m 2) ∙ mul_assoc 2 m (2 ^ (r - 1))
    where
      one : r ≡ suc (r - 1)
      one = omega (arith, some-places)

  again : m * 2 ^ (r - 1) ≡ 2 * (m * 2 ^ (r - 2))
  again = ap (λ (z : ℕ). m * 2 ^ z) one ∙ ap (λ (z : ℕ). m * z) (pow-succ' 2 (r - 2)) ∙ sym (mul_assoc m 2 (2 ^ (r - 2))) ∙ ap (λ (z : ℕ). z * 2 ^ (r - 2)) (mul_comm m 2) ∙ mul_assoc 2 m (2 ^ (r - 2))
    where
      one : r - 1 ≡ suc (r - 2)
      one = omega (arith, some-places)

  held : m * 2 ^ (r - 1) % 18446744073709551616 ≡ m * 2 ^ (r - 1)
  held = mod-eq_of_lt (let a = twice in let b = l.fits in omega arith)

  pub moved_value : m * 2 ^ (r - 1) % 18446744073709551616 * 2 ^ (k + 62 - (r - 1)) ≡ m * 2 ^ (k + 62)
  moved_value =
      ap (λ (z : ℕ). z * 2 ^ (k + 62 - (r - 1))) held
      ∙ mul_assoc m (2 ^ (r - 1)) (2 ^ (k + 62 - (r - 1)))
      ∙ ap (λ (z : ℕ). m * z) (sym (pow-add 2 (r - 1) (k + 62 - (r - 1))) ∙ ap (λ (z : ℕ). 2 ^ z) (add-sub_of_le few))
    where
      few : r - 1 ≤ k + 62
      few = omega (arith, l.few)

  pub moved_ample : k ≤ 2045 → Ample (m * 2 ^ (r - 1) % 18446744073709551616) (k + 62 - (r - 1))
  moved_ample h = subst (λ (z : ℕ). Ample z (k + 62 - (r - 1))) (sym held) (record {
    full = let a = twice in let b = l.full in omega arith;
    short = let a = twice in let b = l.fits in omega arith;
    even = let a = again in omega arith;
    within = omega (arith, some-places);
  })

-- ---- what the fields are read as

field-zero : (f : Format) (s : Bool) (t : ℕ) → HasValue (of_fields f s 0 t) s (t * 2 ^ 0) (2 ^ low f)
unfolding of_fields
field-zero f s t = odd_sign (prec f) s t 0 (low f)

-- a finite value's field is not the highest
field-suc : (f : Format) (s : Bool) (x t : ℕ) → T (finite (of_fields f s (suc x) t)) → (suc x ≡ ones f → ⊥) × HasValue (of_fields f s (suc x) t) s ((hid f + t) * 2 ^ x) (2 ^ low f)
unfolding of_fields
field-suc f s x t h = go (eqb (suc x) (ones f)) (eqb t 0) (λ (e : suc x ≡ ones f). eq→eqb e) h
  where
    go : (b c : Bool) → (suc x ≡ ones f → T b) → T (finite (cond b (cond c (inf s) nan) (odd (prec f) s (hid f + t) x (low f))))
        → (suc x ≡ ones f → ⊥) × HasValue (cond b (cond c (inf s) nan) (odd (prec f) s (hid f + t) x (low f))) s ((hid f + t) * 2 ^ x) (2 ^ low f)
    go true true e q = absurd q
    go true false e q = absurd q
    go false c e q = (e, odd_sign (prec f) s (hid f + t) x (low f))

pub finite_number : (x : Float) → T (finite x) → T (not (is_nan x))
unfolding is_nan
finite_number nan h = h
finite_number (inf s) h = absurd h
finite_number (fin s m e) h = tt

-- m * 2^k smallest doubles, by digits and a place
parted : (x : Float) (s r : Bool) (m k d p : ℕ) → HasValue x s (m * 2 ^ k) (2 ^ 1074) → r ≡ s → d * 2 ^ p ≡ m * 2 ^ (k + 62) → Digits d → p ≤ 2107 → Parted x r d p
parted nan s r m k d p v e h D w = absurd v
parted (inf t) s r m k d p v e h D w = absurd v
parted (fin t n g) s r m k d p v e h D w = record {
  sign = v.0 ∙ sym e;
  value =
      ap (λ (z : ℕ). num (fin t n g) * z) (ap (λ (z : ℕ). 2 ^ z) middle_is ∙ pow-add 2 1074 62)
      ∙ sym (mul_assoc (num (fin t n g)) (2 ^ 1074) (2 ^ 62))
      ∙ ap (λ (z : ℕ). z * 2 ^ 62) v.1
      ∙ mul_right_comm (m * 2 ^ k) (den (fin t n g)) (2 ^ 62)
      ∙ ap (λ (z : ℕ). z * den (fin t n g)) (mul_assoc m (2 ^ k) (2 ^ 62) ∙ ap (λ (z : ℕ). m * z) (sym (pow-add 2 k 62)) ∙ sym h);
  shape = D;
  within = w;
}

ample_digits : (d p : ℕ) → Ample d p → Digits d
ample_digits d p a = record { full = λ _. a.full; short = a.short; even = a.even }

-- ---- the double x

module _ (x : Float) (held_in : T (fits binary64 x)) (fin-x : T (finite x)) where
  abbrev bits : ℕ
  bits = to_bits binary64 x

  abbrev sgn : Bool
  sgn = leb 9223372036854775808 bits

  read : of_fields binary64 sgn (bits % 9223372036854775808 / 4503599627370496) (bits % 4503599627370496) ≡ x
  unfolding of_bits
  read = of_bits-to_bits binary64 x held_in

  same_field : bits % 9223372036854775808 / 4503599627370496 ≡ bits / 4503599627370496 % 2048
  same_field = field bits 11 52

  by_field : (j : ℕ) → bits / 4503599627370496 % 2048 ≡ j → of_fields binary64 sgn j (bits % 4503599627370496) ≡ x
  by_field j e = ap (λ (z : ℕ). of_fields binary64 sgn z (bits % 4503599627370496)) (sym (same_field ∙ e)) ∙ read

  known : (j : ℕ) → bits / 4503599627370496 % 2048 ≡ suc j → (suc j ≡ 2047 → ⊥) × HasValue x sgn ((4503599627370496 + bits % 4503599627370496) * 2 ^ j) (2 ^ 1074)
  known j e =
      let q = by_field (suc j) e in
      let k = field-suc binary64 sgn j (bits % 4503599627370496) (subst (λ (y : Float). T (finite y)) (sym q) fin-x) in
      (k.0, subst (λ (y : Float). HasValue y sgn ((4503599627370496 + bits % 4503599627370496) * 2 ^ j) (2 ^ 1074)) q k.1)

  pub field-most : 0 < bits / 4503599627370496 % 2048 → bits / 4503599627370496 % 2048 - 1 ≤ 2045
  field-most h = go (bits / 4503599627370496 % 2048) refl (omega arith)
    where
      go : (j : ℕ) → bits / 4503599627370496 % 2048 ≡ j → j < 2048 → j - 1 ≤ 2045
      go zero e l = omega arith
      go (suc j) e l = top (ordered (suc j) 2046)
        where
          top : (suc j ≤ 2046) ⊎ (2046 < suc j) → suc j - 1 ≤ 2045
          top (inl a) = omega arith
          top (inr a) = absurd ((known j e).0 (omega arith))

  pub normal-parts : (r : Bool) (d p : ℕ) → 0 < bits / 4503599627370496 % 2048 → r ≡ sgn
      → d * 2 ^ p ≡ (bits % 4503599627370496 + 4503599627370496) * 2 ^ (bits / 4503599627370496 % 2048 - 1 + 62) → Ample d p → Parted x r d p
  normal-parts r d p h e v a =
      parted x sgn r (bits % 4503599627370496 + 4503599627370496) (bits / 4503599627370496 % 2048 - 1) d p
      (subst (λ (z : ℕ). HasValue x sgn (z * 2 ^ (bits / 4503599627370496 % 2048 - 1)) (2 ^ 1074)) (add_comm 4503599627370496 (bits % 4503599627370496)) (known (bits / 4503599627370496 % 2048 - 1) (omega arith)).1)
      e v (ample_digits d p a) a.within

  low-known : bits / 4503599627370496 % 2048 ≤ 0 → HasValue x sgn (bits % 4503599627370496 * 2 ^ 0) (2 ^ 1074)
  low-known h = subst (λ (y : Float). HasValue y sgn (bits % 4503599627370496 * 2 ^ 0) (2 ^ 1074)) (by_field 0 (omega arith)) (field-zero binary64 sgn (bits % 4503599627370496))

  pub low_parts : (r : Bool) (d p : ℕ) → bits / 4503599627370496 % 2048 ≤ 0 → r ≡ sgn → d * 2 ^ p ≡ bits % 4503599627370496 * 2 ^ (0 + 62) → Ample d p → Parted x r d p
  low_parts r d p h e v a = parted x sgn r (bits % 4503599627370496) 0 d p (low-known h) e v (ample_digits d p a) a.within

  pub zero-parts : bits / 4503599627370496 % 2048 ≤ 0 → bits % 4503599627370496 ≤ 0 → Parted x sgn 0 0
  zero-parts h l =
      parted x sgn sgn (bits % 4503599627370496) 0 0 0 (low-known h) refl
      (sym (ap (λ (z : ℕ). z * 2 ^ (0 + 62)) none ∙ zero-mul (2 ^ (0 + 62))))
      (record { full = λ k. omega arith; short = omega arith; even = refl })
      (omega arith)
    where
      none : bits % 4503599627370496 ≡ 0
      none = omega arith
