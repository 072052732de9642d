-- mul_add's sum from the digits and places of its three numbers.
use mathlib.Core.Path.{◌≡◌, refl, sym, ap, ◌∙◌}
use Prim.Native.Nat.{ℕ, ◌+◌, ◌*◌, ◌/◌, ◌%◌, ◌^◌, ◌≤◌, ◌<◌}
use native.Mathlib.Nat.{mod-eq_of_lt, mul-mod_left, le_of_eq, le_trans, lt_of_le_of_lt, lt_of_lt_of_le, mul_assoc, mul_comm, mul_left_comm, mul-le-mul, mul-pos, mul-lt-mul_of_pos_right, zero-mul}
use native.Mathlib.Omega.{arith}
use mathlib.Core.Bool.{Bool}
use lib.Pow.{pow-add, pow_pos}
use lib.Ieee.{Float, unlike}
use lib.Ieee.Positive.{num, den, den_pos, first_pos}
use Rattle.rounded.specs.Fused.{is_negative, rounded_sum, mul_add}
use Rattle.rounded.specs.laws.Packing.{word, scale, scale_is}
use Rattle.rounded.specs.laws.Parts.{Digits, Joinable, Parted, middle, middle_is}
use Rattle.rounded.specs.laws.Sums.{none_with, rounded_sum_same, with_none}

-- ---- the addend's digits, one word up

pub upper : (c : ℕ) → c < word → c * word % 340282366920938463463374607431768211456 ≡ c * word
upper c h = mod-eq_of_lt (omega arith)

-- ---- one part is 0

pub vanished : (s t : Bool) (p a b e q : ℕ) → p ≡ a * b → p ≡ 0 → {r : Float} → r ≡ rounded_sum t q t 0 (2 ^ scale) → r ≡ rounded_sum s (a * b * 2 ^ e) t q (2 ^ scale)
vanished s t p a b e q h z given =
    given
    ∙ none_with s t q (2 ^ scale) (pow_pos scale)
    ∙ ap (λ (x : ℕ). rounded_sum s x t q (2 ^ scale)) (sym (ap (λ (x : ℕ). x * 2 ^ e) (sym h ∙ z) ∙ zero-mul (2 ^ e)))

pub unadded : (s t : Bool) (p a b e c e2 : ℕ) → p ≡ a * b → c ≡ 0 → {r : Float} → r ≡ rounded_sum s (p * 2 ^ e) s 0 (2 ^ scale) → r ≡ rounded_sum s (a * b * 2 ^ e) t (c * 2 ^ e2) (2 ^ scale)
unadded s t p a b e c e2 h z given =
    given
    ∙ (ap (λ (x : ℕ). rounded_sum s (x * 2 ^ e) s 0 (2 ^ scale)) h
    ∙ sym (with_none s t (a * b * 2 ^ e) (2 ^ scale))
    ∙ ap (λ (x : ℕ). rounded_sum s (a * b * 2 ^ e) t x (2 ^ scale)) (sym (ap (λ (x : ℕ). x * 2 ^ e2) z ∙ zero-mul (2 ^ e2))))

pub multiplied : (s t : Bool) (p a b e q : ℕ) → p ≡ a * b → {r : Float} → r ≡ rounded_sum s (p * 2 ^ e) t q (2 ^ scale) → r ≡ rounded_sum s (a * b * 2 ^ e) t q (2 ^ scale)
multiplied s t p a b e q h given = given ∙ ap (λ (x : ℕ). rounded_sum s (x * 2 ^ e) t q (2 ^ scale)) h

-- ---- the product of two numbers of 63 digits

module _ (p a b c : ℕ) (A : Digits a) (B : Digits b) (C : Digits c) (h : p ≡ a * b) where
  some : (p ≡ 0 → ⊥) → 1 ≤ a × 1 ≤ b
  some n = let k : 0 < a * b = omega arith in (first_pos a b k, first_pos b a (le_trans k (le_of_eq (mul_comm a b))))

  pub joinable : (p ≡ 0 → ⊥) → (c * word ≡ 0 → ⊥) → Joinable p (c * word)
  joinable n m =
      let u = some n in
      let v : 1 ≤ c = omega arith in
      record {
        least = le_trans (mul-le-mul {n₁ = 4611686018427387904} {m₁ = 4611686018427387904} (A.full u.0) (B.full u.1)) (le_of_eq (sym h));
        most = lt_of_le_of_lt (le_of_eq h) (lt_of_lt_of_le (mul-lt-mul_of_pos_right A.short u.1) (mul-le-mul {n₁ = 9223372036854775808} {m₁ = b} (le_of_eq refl) (le_of_lt B.short)));
        even = ap (λ (z : ℕ). z % 2) h ∙ twice a b A.even;
        full = let f = C.full v in omega arith;
        short = let f = C.short in omega arith;
        upper = mul-mod_left c word;
      }
    where
      le_of_lt : {m n : ℕ} → m < n → m ≤ n
      le_of_lt k = omega arith

      twice : (m n : ℕ) → m % 2 ≡ 0 → m * n % 2 ≡ 0
      twice m n e =
          let h : m ≡ 2 * (m / 2) = omega arith in
          ap (λ (z : ℕ). z * n % 2) h ∙ ap (λ (z : ℕ). z % 2) (mul_assoc 2 (m / 2) n) ∙ omega arith

-- ---- the three numbers by their parts

scale-parts : 2 ^ scale ≡ 2 ^ middle * 2 ^ middle * word
scale-parts = ap (λ (z : ℕ). 2 ^ z) both ∙ pow-add 2 (middle + middle) 64 ∙ ap (λ (z : ℕ). z * word) (pow-add 2 middle middle)
  where
    both : scale ≡ middle + middle + 64
    both = omega (arith, scale_is, middle_is)

-- with E for 2^middle, each number n / c is d * p / E
product-cross : (n c d p m k e q z E : ℕ) → n * E ≡ d * p * c → m * E ≡ e * q * k → n * m * z * (E * E * word) ≡ d * e * (p * q * word) * (c * k * z)
product-cross n c d p m k e q z E h g =
    first n m z E word ∙ ap (λ (x : ℕ). x * (m * E) * (z * word)) h ∙ ap (λ (x : ℕ). d * p * c * x * (z * word)) g ∙ last d p c e q k z word
  where
    first : (n m z E w : ℕ) → n * m * z * (E * E * w) ≡ n * E * (m * E) * (z * w)
    first n m z E w = simp (mul_assoc, mul_left_comm)

    last : (d p c e q k z w : ℕ) → d * p * c * (e * q * k) * (z * w) ≡ d * e * (p * q * w) * (c * k * z)
    last d p c e q k z w = simp (mul_assoc, mul_comm, mul_left_comm)

addend_cross : (n c d p a b E : ℕ) → n * E ≡ d * p * c → n * (a * b) * (E * E * word) ≡ d * word * (p * E) * (a * b * c)
addend_cross n c d p a b E h = first n (a * b) E word ∙ ap (λ (x : ℕ). x * (E * (a * b) * word)) h ∙ last d p c (a * b) E word
  where
    first : (n a E w : ℕ) → n * a * (E * E * w) ≡ n * E * (E * a * w)
    first n a E w = simp (mul_assoc, mul_comm, mul_left_comm)

    last : (d p c a E w : ℕ) → d * p * c * (E * a * w) ≡ d * w * (p * E) * (a * c)
    last d p c a E w = simp (mul_assoc, mul_comm, mul_left_comm)

mul_add_is : (x y z : Float) → mul_add x y z ≡ rounded_sum (unlike (is_negative x) (is_negative y)) (num x * num y * den z) (is_negative z) (num z * (den x * den y)) (den x * den y * den z)
unfolding mul_add
mul_add_is x y z = refl

pub by_parts : (x y z : Float) (s t r : Bool) (a p b q c k : ℕ) → Parted x s a p → Parted y t b q → Parted z r c k
    → {v : Float} → v ≡ rounded_sum (unlike s t) (a * b * 2 ^ (p + q + 64)) r (c * word * 2 ^ (k + 1136)) (2 ^ scale) → v ≡ mul_add x y z
by_parts x y z s t r a p b q c k X Y Z given =
    let P = num x * num y * den z in
    let Q = num z * (den x * den y) in
    let C = den x * den y * den z in
    given
    ∙ sym (mul_add_is x y z
    ∙ ap (λ (u : Bool). rounded_sum (unlike u (is_negative y)) P (is_negative z) Q C) X.sign
    ∙ ap (λ (u : Bool). rounded_sum (unlike s u) P (is_negative z) Q C) Y.sign
    ∙ ap (λ (u : Bool). rounded_sum (unlike s t) P u Q C) Z.sign
    ∙ rounded_sum_same (unlike s t) r P Q C (a * b * 2 ^ (p + q + 64)) (c * word * 2 ^ (k + 1136)) (2 ^ scale) (mul-pos (mul-pos (den_pos x) (den_pos y)) (den_pos z)) (pow_pos scale)
    (ap (λ (u : ℕ). P * u) scale-parts
    ∙ product-cross (num x) (den x) a (2 ^ p) (num y) (den y) b (2 ^ q) (den z) (2 ^ middle) X.value Y.value
    ∙ ap (λ (u : ℕ). a * b * u * C) (sym (pow-add 2 (p + q) 64 ∙ ap (λ (u : ℕ). u * word) (pow-add 2 p q))))
    (ap (λ (u : ℕ). Q * u) scale-parts
    ∙ addend_cross (num z) (den z) c (2 ^ k) (den x) (den y) (2 ^ middle) Z.value
    ∙ ap (λ (u : ℕ). c * word * u * C) (sym (pow-add 2 k 1136 ∙ ap (λ (u : ℕ). 2 ^ k * 2 ^ u) (sym middle_is)))))
