-- A double's bit pattern from a whole number of powers of two: the bits of q * 2^k smallest values are k * 2^52 + q, also where q carries into the exponent's field and on into infinity.
use Rattle.std.specs.Prelude.{◌≡◌, ◌⊎◌, Bool, not, ltb, Float}
use Rattle.std.proofs.Math.Path.{refl, ap}
use Rattle.std.proofs.Common.{sym, ◌∙◌, subst, inl, inr, eq-zero-or-pos, mul-one, one-mul, zero-add, add_comm, le_trans, le_of_eq, eq-or-lt_of_le, le_antisymm, lt_of_lt_of_le, lt_of_le_of_lt, lt_of_not-le, not-le_of_lt, add-mul, mul-le-mul_right, mul-div_cancel, div-one, le_of_mul-le-mul_right, arith, ltb→lt, nltb→le, pow-add, pow_pos, pow_mono, shl_lt}
use Prim.Native.Nat.{ℕ, zero, suc, ◌+◌, ◌-◌, ◌*◌, ◌/◌, ◌%◌, ◌^◌, ◌≤◌, ◌<◌}
use Rattle.std.proofs.Math.Nat.{add_assoc, pow-succ'}
use Rattle.std.proofs.Math.Bool.{true, false, cond}
use Rattle.std.proofs.Math.Arith.{le→nltb}
use Rattle.std.proofs.Math.Dec.{T}
use Rattle.std.proofs.Math.Pow.{pow-lt}
use Rattle.std.specs.Float.{inf, fin, Format, binary32, binary64}
use Rattle.std.specs.Float.Ieee.{is_nan, nan_bits, prec, emax, low, hid, ones, top, up, down, size, odd, units, to_bits, of_bits}
use Rattle.std.specs.Float.Ieee as ieee
use Rattle.std.specs.Float.Ieee.Digits.{size-lt, size-le}
use Rattle.std.specs.Float.Ieee.Fits.{two, odd-fits, inf-fits, down_pos}
use Rattle.std.specs.Float.Ieee.Exact.{HasValue, odd_sign}
use Rattle.std.specs.Float.Ieee.Bits.{of_bits-to_bits, nan_bits_is, cond_no}
use Rattle.rounded.specs.laws.RoundToOdd.{ordered}

-- The packing functions answer in units of 2^-scale, which is far below the smallest double.
unfoldable pub scale : ℕ
scale = 2336

-- 2^64: a number of two words is high * word + low.
abbrev pub word : ℕ
word = 18446744073709551616

-- What is kept of a number after it is rounded: q * 2^k smallest values, with all 53 digits or with k = 0, and no larger than an infinity's pattern.
pub record Kept (q k : ℕ) : Type 0 where
  pub digits : q ≤ 9007199254740992
  pub full : 1 ≤ k → 4503599627370496 ≤ q
  pub under : k * 4503599627370496 + q ≤ 9218868437227405312

-- w moved up by r places has all its 64 digits.
pub record Lifted (w r : ℕ) : Type 0 where
  pub full : 9223372036854775808 ≤ w * 2 ^ r
  pub fits : w * 2 ^ r < 18446744073709551616
  pub few : r ≤ 63

-- r is w, made odd where the rest is not 0.
pub record Stuck (w rest r : ℕ) : Type 0 where
  pub none : rest ≡ 0 → r ≡ w
  pub some : 1 ≤ rest → r ≡ w + (1 - w % 2)

-- ---- the pattern of a value that is known by its size

to_bits-of_value : (f : Format) (x : Float) (s : Bool) (a : ℕ) → HasValue x s a (2 ^ low f) → to_bits f x ≡ cond s (top f) 0 + (size a - prec f) * hid f + a / 2 ^ (size a - prec f)
unfolding to_bits
to_bits-of_value f (fin t m e) s a v =
    let n : m * up e * 2 ^ low f / down e ≡ a = ap (λ (z : ℕ). z / down e) v.1 ∙ mul-div_cancel a (down_pos e) in
    ap (λ (z : Bool). cond z (top f) 0 + (size (m * up e * 2 ^ low f / down e) - prec f) * hid f + m * up e * 2 ^ low f / down e / 2 ^ (size (m * up e * 2 ^ low f / down e) - prec f)) v.0
    ∙ ap (λ (z : ℕ). cond s (top f) 0 + (size z - prec f) * hid f + z / 2 ^ (size z - prec f)) n
to_bits-of_value f ieee.nan s a v = elim v [ ]
to_bits-of_value f (inf _) s a v = elim v [ ]

size_exact : (a n : ℕ) → 2 ^ a ≤ n → n < 2 ^ suc a → size n ≡ suc a
size_exact a n lo hi = le_antisymm (size-le n (suc a) hi) (lt_of_not-le (λ (g : size n ≤ a). not-le_of_lt (lt_of_lt_of_le (size-lt n) (pow_mono g)) lo))

-- ---- the digits and the field of q * 2^k

module _ (p q k : ℕ) (P : 2 ≤ p) where
  small : q < 2 ^ (p - 1) → k ≡ 0 → (size (q * 2 ^ k) - p) * 2 ^ (p - 1) + q * 2 ^ k / 2 ^ (size (q * 2 ^ k) - p) ≡ k * 2 ^ (p - 1) + q
  small h z =
      let n : q * 2 ^ k ≡ q = ap (λ (x : ℕ). q * 2 ^ x) z ∙ mul-one q in
      let d : size q - p ≡ k = few (size q) (size-le q (p - 1) h) in
      ap (λ (x : ℕ). (size x - p) * 2 ^ (p - 1) + x / 2 ^ (size x - p)) n
      ∙ ap (λ (x : ℕ). x * 2 ^ (p - 1) + q / 2 ^ x) d
      ∙ ap (λ (x : ℕ). k * 2 ^ (p - 1) + q / 2 ^ x) z
      ∙ ap (λ (x : ℕ). k * 2 ^ (p - 1) + x) (div-one q)
    where
      few : (y : ℕ) → y ≤ p - 1 → y - p ≡ k
      few y g = omega arith

  middle : 2 ^ (p - 1) ≤ q → q < 2 ^ p → (size (q * 2 ^ k) - p) * 2 ^ (p - 1) + q * 2 ^ k / 2 ^ (size (q * 2 ^ k) - p) ≡ k * 2 ^ (p - 1) + q
  middle g h =
      let lo : 2 ^ (p - 1 + k) ≤ q * 2 ^ k = le_trans (le_of_eq (pow-add 2 (p - 1) k)) (mul-le-mul_right (2 ^ k) g) in
      let hi : q * 2 ^ k < 2 ^ suc (p - 1 + k) = subst (λ (x : ℕ). q * 2 ^ k < 2 ^ x) (omega arith) (shl_lt p k h) in
      let d : size (q * 2 ^ k) - p ≡ k = ap (λ (x : ℕ). x - p) (size_exact (p - 1 + k) (q * 2 ^ k) lo hi) ∙ omega arith in
      ap (λ (x : ℕ). x * 2 ^ (p - 1) + q * 2 ^ k / 2 ^ x) d ∙ ap (λ (x : ℕ). k * 2 ^ (p - 1) + x) (mul-div_cancel q (pow_pos k))

  carried : q ≡ 2 ^ p → (size (q * 2 ^ k) - p) * 2 ^ (p - 1) + q * 2 ^ k / 2 ^ (size (q * 2 ^ k) - p) ≡ k * 2 ^ (p - 1) + q
  carried e =
      let a : q * 2 ^ k ≡ 2 ^ (p + k) = ap (λ (x : ℕ). x * 2 ^ k) e ∙ sym (pow-add 2 p k) in
      let s : size (2 ^ (p + k)) ≡ suc (p + k) = size_exact (p + k) (2 ^ (p + k)) (le_of_eq refl) (pow-lt (omega arith)) in
      let d : size (2 ^ (p + k)) - p ≡ k + 1 = ap (λ (x : ℕ). x - p) s ∙ omega arith in
      let b : 2 ^ (p + k) ≡ 2 ^ (p - 1) * 2 ^ (k + 1) = ap (λ (x : ℕ). 2 ^ x) (omega arith) ∙ pow-add 2 (p - 1) (k + 1) in
      let c : q ≡ 2 * 2 ^ (p - 1) = e ∙ ap (λ (x : ℕ). 2 ^ x) (omega arith) ∙ pow-succ' 2 (p - 1) in
      let m : (k + 1) * 2 ^ (p - 1) ≡ k * 2 ^ (p - 1) + 2 ^ (p - 1) = simp (add-mul, one-mul) in
      ap (λ (x : ℕ). (size x - p) * 2 ^ (p - 1) + x / 2 ^ (size x - p)) a
      ∙ ap (λ (x : ℕ). x * 2 ^ (p - 1) + 2 ^ (p + k) / 2 ^ x) d
      ∙ ap (λ (x : ℕ). (k + 1) * 2 ^ (p - 1) + x / 2 ^ (k + 1)) b
      ∙ ap (λ (x : ℕ). (k + 1) * 2 ^ (p - 1) + x) (mul-div_cancel (2 ^ (p - 1)) (pow_pos (k + 1)))
      ∙ omega arith

zero-emax : (f : Format) → 2 * emax f ≤ 0 → ⊥
zero-emax binary32 h = omega arith
zero-emax binary64 h = omega arith

-- ---- the pattern is the sign and k * 2^52 + q

module _ (f : Format) (q k : ℕ) (most : q ≤ 2 ^ prec f) (full : (k ≡ 0) ⊎ (hid f ≤ q)) (under : k * hid f + q ≤ ones f * hid f) where
  finite-field : (size (q * 2 ^ k) - prec f) * hid f + q * 2 ^ k / 2 ^ (size (q * 2 ^ k) - prec f) ≡ k * hid f + q
  finite-field = go (eq-or-lt_of_le most) full
    where
      halves : (a b : ℕ) → (a < b) ⊎ (b ≤ a)
      halves a b = flip (ordered b a)
        where
          flip : (b ≤ a) ⊎ (a < b) → (a < b) ⊎ (b ≤ a)
          flip (inl h) = inr h
          flip (inr h) = inl h

      go : (q ≡ 2 ^ prec f) ⊎ (q < 2 ^ prec f) → (k ≡ 0) ⊎ (hid f ≤ q) → (size (q * 2 ^ k) - prec f) * hid f + q * 2 ^ k / 2 ^ (size (q * 2 ^ k) - prec f) ≡ k * hid f + q
      go (inl e) m = carried (prec f) q k (two f) e
      go (inr l) (inr g) = middle (prec f) q k (two f) g l
      go (inr l) (inl z) = elim (halves q (hid f)) [ inl h ↦ small (prec f) q k (two f) h z | inr h ↦ middle (prec f) q k (two f) h l ]

  -- an infinity's field
  infinite-field : 2 ^ (low f + suc (emax f)) ≤ q * 2 ^ k → ones f * hid f ≡ k * hid f + q
  infinite-field h = le_antisymm (go (ordered (2 * emax f) k) full) under
    where
      reach : prec f + k < low f + suc (emax f) → ⊥
      reach g = not-le_of_lt (lt_of_le_of_lt (le_trans (mul-le-mul_right (2 ^ k) most) (le_of_eq (sym (pow-add 2 (prec f) k)))) (pow-lt g)) h

      last : k + 1 ≡ 2 * emax f → 2 ^ prec f ≤ q
      last e =
          le_of_mul-le-mul_right
          (le_trans (le_of_eq (sym (pow-add 2 (prec f) k) ∙ ap (λ (z : ℕ). 2 ^ z) (omega (arith, two f)))) h)
          (pow_pos k)

      twice_hid : 2 ^ prec f ≡ 2 * hid f
      twice_hid = ap (λ (x : ℕ). 2 ^ x) (omega (arith, two f)) ∙ pow-succ' 2 (prec f - 1)

      some : (k ≡ 0) ⊎ (hid f ≤ q) → 2 * emax f ≤ k → hid f ≤ q
      some (inl z) g = absurd (zero-emax f (omega arith))
      some (inr l) g = l

      go : (2 * emax f ≤ k) ⊎ (k < 2 * emax f) → (k ≡ 0) ⊎ (hid f ≤ q) → ones f * hid f ≤ k * hid f + q
      go (inl g) m =
          let a : 2 * emax f * hid f ≤ k * hid f = mul-le-mul_right (hid f) g in
          let b : ones f * hid f ≡ 2 * emax f * hid f + hid f = simp (add-mul, one-mul) in
          let l : hid f ≤ q = some m g in
          omega arith
      go (inr g) m =
          let e : k + 1 ≡ 2 * emax f = lt_eq (ordered (k + 2) (2 * emax f)) in
          let a : ones f * hid f ≡ k * hid f + 2 * hid f = ap (λ (z : ℕ). z * hid f) (omega arith) ∙ add-mul k 2 (hid f) in
          omega (arith, last e, twice_hid)
        where
          lt_eq : (k + 2 ≤ 2 * emax f) ⊎ (2 * emax f < k + 2) → k + 1 ≡ 2 * emax f
          lt_eq (inl l) = absurd (reach (omega (arith, two f)))
          lt_eq (inr l) = omega arith

  units-fits : (s : Bool) → T (ieee.fits f (units f s q k))
  unfolding units
  units-fits s = go (ltb (q * 2 ^ k) (2 ^ (low f + suc (emax f)))) (ltb→lt (q * 2 ^ k) (2 ^ (low f + suc (emax f))))
    where
      go : (b : Bool) → (T b → q * 2 ^ k < 2 ^ (low f + suc (emax f))) → T (ieee.fits f (cond b (odd (suc (prec f)) s q k (low f)) (inf s)))
      go true h = odd-fits f (suc (prec f)) s q k (lt_of_le_of_lt most (pow-lt (omega arith))) most (h tt)
      go false h = inf-fits f s

  inf_bits : (s : Bool) → to_bits f (inf s) ≡ cond s (top f) 0 + ones f * hid f
  unfolding to_bits
  inf_bits s = refl

  units-to_bits : (s : Bool) → to_bits f (units f s q k) ≡ cond s (top f) 0 + (k * hid f + q)
  unfolding units
  units-to_bits s = go (ltb (q * 2 ^ k) (2 ^ (low f + suc (emax f)))) (nltb→le (q * 2 ^ k) (2 ^ (low f + suc (emax f))))
    where
      go : (b : Bool) → (T (not b) → 2 ^ (low f + suc (emax f)) ≤ q * 2 ^ k) → to_bits f (cond b (odd (suc (prec f)) s q k (low f)) (inf s)) ≡ cond s (top f) 0 + (k * hid f + q)
      go true h =
          to_bits-of_value f (odd (suc (prec f)) s q k (low f)) s (q * 2 ^ k) (odd_sign (suc (prec f)) s q k (low f))
          ∙ add_assoc (cond s (top f) 0) ((size (q * 2 ^ k) - prec f) * hid f) (q * 2 ^ k / 2 ^ (size (q * 2 ^ k) - prec f))
          ∙ ap (λ (z : ℕ). cond s (top f) 0 + z) finite-field
      go false h = inf_bits s ∙ ap (λ (z : ℕ). cond s (top f) 0 + z) (infinite-field (h tt))

  pub units-bits : (s : Bool) → of_bits f (cond s (top f) 0 + (k * hid f + q)) ≡ units f s q k
  units-bits s = ap (of_bits f) (sym (units-to_bits s)) ∙ of_bits-to_bits f (units f s q k) (units-fits s)

-- ---- in the words of the code

filled : (q k : ℕ) → Kept q k → (k ≡ 0) ⊎ (hid binary64 ≤ q)
filled q k h = go (eq-zero-or-pos k)
  where
    go : (k ≡ 0) ⊎ (0 < k) → (k ≡ 0) ⊎ (hid binary64 ≤ q)
    go (inl e) = inl e
    go (inr l) = inr (h.full l)

pub plain_bits : (q k : ℕ) → Kept q k → of_bits binary64 (k * 4503599627370496 + q) ≡ units binary64 false q k
plain_bits q k h = ap (of_bits binary64) (sym (zero-add (k * 4503599627370496 + q))) ∙ units-bits binary64 q k h.digits (filled q k h) h.under false

pub signed-bits : (q k : ℕ) → Kept q k → of_bits binary64 (k * 4503599627370496 + q + 9223372036854775808) ≡ units binary64 true q k
signed-bits q k h = ap (of_bits binary64) (add_comm (k * 4503599627370496 + q) 9223372036854775808) ∙ units-bits binary64 q k h.digits (filled q k h) h.under true

pub units_number : (f : Format) (s : Bool) (q k : ℕ) → is_nan (units f s q k) ≡ false
unfolding units odd is_nan
units_number f s q k = go (ltb (q * 2 ^ k) (2 ^ (low f + suc (emax f)))) q
  where
    go : (b : Bool) (q : ℕ) → is_nan (cond b (odd (suc (prec f)) s q k (low f)) (inf s)) ≡ false
    go true zero = refl
    go true (suc q) = refl
    go false q = refl

-- such a pattern is no NaN's
no_nan : (n : ℕ) (x : Float) → of_bits binary64 n ≡ x → is_nan x ≡ false → T (not (nan_bits binary64 n))
no_nan n x e h = subst (λ (b : Bool). T (not b)) (sym (nan_bits_is binary64 n ∙ ap is_nan e ∙ h)) tt

pub plain_number : (q k : ℕ) → Kept q k → T (not (nan_bits binary64 (k * 4503599627370496 + q)))
plain_number q k h = no_nan (k * 4503599627370496 + q) (units binary64 false q k) (plain_bits q k h) (units_number binary64 false q k)

pub signed-number : (q k : ℕ) → Kept q k → T (not (nan_bits binary64 (k * 4503599627370496 + q + 9223372036854775808)))
signed-number q k h = no_nan (k * 4503599627370496 + q + 9223372036854775808) (units binary64 true q k) (signed-bits q k h) (units_number binary64 true q k)

-- ---- laws on `scale`, and on a value too large for the format

pub scale_is : scale ≡ 2336
unfolding scale
scale_is = refl

pub units-over : (f : Format) (s : Bool) (q k : ℕ) → 2 ^ (low f + suc (emax f)) ≤ q * 2 ^ k → units f s q k ≡ inf s
unfolding units
units-over f s q k h = cond_no (ltb (q * 2 ^ k) (2 ^ (low f + suc (emax f)))) (odd (suc (prec f)) s q k (low f)) (inf s) (le→nltb (q * 2 ^ k) (2 ^ (low f + suc (emax f))) h)
