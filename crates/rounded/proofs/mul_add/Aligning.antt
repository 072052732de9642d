-- The sum of two numbers of two words, and the one with the lower place moved down to the other: either nothing is cut off, or what is moved is far smaller.
use mathlib.Core.Path.{◌≡◌, refl, sym, ap, ◌∙◌, subst}
use mathlib.Core.Logic.{◌⊎◌, inl, inr}
use Prim.Native.Nat.{ℕ, ◌+◌, ◌-◌, ◌*◌, ◌/◌, ◌%◌, ◌^◌, ◌≤◌, ◌<◌}
use native.Mathlib.Nat.{add-mul, add-zero, add-sub_of_le, le_of_eq, le_of_lt, lt_of_lt_of_le, lt_of_le_of_lt, lt_of_mul-lt-mul_right, mul_assoc, mul-le-mul_left, mul-le-mul_right, mul-lt-mul_of_pos_right, mul-pos, one-mul, sub-add_cancel, zero-mul}
use native.Mathlib.Omega.{arith}
use mathlib.Core.Bool.{Bool, true, false, not, beq}
use lib.Pow.{pow-add, pow_pos, pow_mono}
use lib.Ieee.{Float}
use Rattle.floats.specs.Answers.{plus_zero}
use Rattle.rounded.specs.Fused.{rounded_sum}
use Rattle.rounded.specs.laws.Packing.{word, scale}
use Rattle.rounded.specs.laws.Parts.{Joinable}
use Rattle.rounded.specs.laws.RoundToOdd.{Odd, exact, near, ordered}
use Rattle.rounded.specs.laws.Sums.{aligned, both_zero, fall, gather, minus-mul, rise, rounded_sum_comm}

-- ---- a number that is 0 or not

pub some : (w e : ℕ) → (w ≡ 0 → ⊥) → 0 < w * 2 ^ e
some w e h = mul-pos (omega arith) (pow_pos e)

pub none : (s : Bool) (w e : ℕ) → w ≡ 0 → plus_zero ≡ rounded_sum s (w * 2 ^ e) s 0 (2 ^ scale)
none s w e h = sym (both_zero s s (w * 2 ^ e) 0 (2 ^ scale) (add-zero (w * 2 ^ e) ∙ ap (λ (z : ℕ). z * 2 ^ e) h ∙ zero-mul (2 ^ e)))

-- ---- the sum at one place

pub same_signs : (s t : Bool) → beq s t ≡ true → t ≡ s
same_signs true true e = refl
same_signs true false e = e
same_signs false true e = sym e
same_signs false false e = refl

pub other-signs : (s t : Bool) → beq s t ≡ false → t ≡ not s
other-signs true true e = e
other-signs true false e = refl
other-signs false true e = refl
other-signs false false e = sym e

pub added : (s t : Bool) (P Q W e : ℕ) → t ≡ s → W ≡ P + Q → {r : Float} → r ≡ rounded_sum s (W * 2 ^ e) s 0 (2 ^ scale) → r ≡ rounded_sum s (P * 2 ^ e) t (Q * 2 ^ e) (2 ^ scale)
added s t P Q W e z w given =
    given
    ∙ (ap (λ (x : ℕ). rounded_sum s x s 0 (2 ^ scale)) (ap (λ (x : ℕ). x * 2 ^ e) w ∙ add-mul P Q (2 ^ e))
    ∙ gather s (P * 2 ^ e) (Q * 2 ^ e) (2 ^ scale)
    ∙ ap (λ (b : Bool). rounded_sum s (P * 2 ^ e) b (Q * 2 ^ e) (2 ^ scale)) (sym z))

pub second_more : (s t : Bool) (P Q W e : ℕ) → t ≡ not s → W ≡ Q - P → P < Q → {r : Float} → r ≡ rounded_sum t (W * 2 ^ e) t 0 (2 ^ scale) → r ≡ rounded_sum s (P * 2 ^ e) t (Q * 2 ^ e) (2 ^ scale)
second_more s t P Q W e z w h given =
    given
    ∙ (subst (λ (t : Bool). rounded_sum t (W * 2 ^ e) t 0 (2 ^ scale) ≡ rounded_sum s (P * 2 ^ e) t (Q * 2 ^ e) (2 ^ scale)) (sym z)
    (ap (λ (x : ℕ). rounded_sum (not s) x (not s) 0 (2 ^ scale)) (ap (λ (x : ℕ). x * 2 ^ e) w ∙ minus-mul Q P (2 ^ e))
    ∙ fall s (P * 2 ^ e) (Q * 2 ^ e) (2 ^ scale) (mul-lt-mul_of_pos_right h (pow_pos e))))

pub first_more : (s t : Bool) (P Q W e : ℕ) → t ≡ not s → W ≡ P - Q → Q ≤ P → {r : Float} → r ≡ rounded_sum s (W * 2 ^ e) s 0 (2 ^ scale) → r ≡ rounded_sum s (P * 2 ^ e) t (Q * 2 ^ e) (2 ^ scale)
first_more s t P Q W e z w h given =
    given
    ∙ (subst (λ (t : Bool). rounded_sum s (W * 2 ^ e) s 0 (2 ^ scale) ≡ rounded_sum s (P * 2 ^ e) t (Q * 2 ^ e) (2 ^ scale)) (sym z)
    (ap (λ (x : ℕ). rounded_sum s x s 0 (2 ^ scale)) (ap (λ (x : ℕ). x * 2 ^ e) w ∙ minus-mul P Q (2 ^ e))
    ∙ rise s (P * 2 ^ e) (Q * 2 ^ e) (2 ^ scale) (pow_pos scale) (mul-le-mul_right (2 ^ e) h)))

-- ---- the lower place moved down

-- w is at most a, where X / D is below a
bound : (X D w a : ℕ) → 0 < D → Odd X D w → X < a * D → w ≤ a
bound X D w a d (exact e) h = le_of_lt (lt_of_mul-lt-mul_right D (lt_of_le_of_lt (le_of_eq (sym e)) h))
bound X D w a d (near o u l) h =
    let n : (a + 1) * D ≡ a * D + D = add-mul a 1 D ∙ ap (λ (z : ℕ). a * D + z) (one-mul D) in
    let k : w * D < (a + 1) * D = omega arith in
    let g : w < a + 1 = lt_of_mul-lt-mul_right D k in
    omega arith

-- a whole multiple loses nothing
whole : (X D w c : ℕ) → 0 < D → Odd X D w → X ≡ c * D → X ≡ w * D
whole X D w c d (exact e) h = e
whole X D w c d (near o u l) h =
    let n : (w + 1) * D ≡ w * D + D = add-mul w 1 D ∙ ap (λ (z : ℕ). w * D + z) (one-mul D) in
    let m : (c + 1) * D ≡ c * D + D = add-mul c 1 D ∙ ap (λ (z : ℕ). c * D + z) (one-mul D) in
    let a : c * D < (w + 1) * D = omega arith in
    let b : w * D < (c + 1) * D = omega arith in
    let i : c < w + 1 = lt_of_mul-lt-mul_right D a in
    let j : w < c + 1 = lt_of_mul-lt-mul_right D b in
    h ∙ ap (λ (z : ℕ). z * D) (omega arith)

module _ (p a : ℕ) (j : Joinable p a) where
  addend_even : a % 2 ≡ 0
  addend_even = let u = j.upper in omega arith

  -- the addend is moved down: its low half is empty, and by more places than that it is far below the product
  addend_moved : (d w : ℕ) → Odd a (2 ^ d) w → (a ≡ w * 2 ^ d) ⊎ (w + 18014398509481984 ≤ p)
  addend_moved d w o = go (ordered d 64)
    where
      upper : a ≡ a / word * word
      upper = let u = j.upper in omega arith

      small : 64 < d → a < 9223372036854775808 * 2 ^ d
      small h = lt_of_lt_of_le j.short (mul-le-mul_left 9223372036854775808 (pow_mono {i = 64} {j = d} (le_of_lt h)))

      far : w ≤ 9223372036854775808 → w + 18014398509481984 ≤ p
      far h = let l = j.least in omega arith

      go : (d ≤ 64) ⊎ (64 < d) → (a ≡ w * 2 ^ d) ⊎ (w + 18014398509481984 ≤ p)
      go (inl h) =
          inl (whole a (2 ^ d) w (a / word * 2 ^ (64 - d)) (pow_pos d) o
          (upper ∙ ap (λ (z : ℕ). a / word * z) (sym (ap (λ (z : ℕ). 2 ^ z) (sub-add_cancel h)) ∙ pow-add 2 (64 - d) d) ∙ sym (mul_assoc (a / word) (2 ^ (64 - d)) (2 ^ d))))
      go (inr h) = inr (far (bound a (2 ^ d) w 9223372036854775808 (pow_pos d) o (small h)))

  -- the product is moved down, by one place at least
  product-moved : (d w : ℕ) → 1 ≤ d → Odd p (2 ^ d) w → w + 18014398509481984 ≤ a
  product-moved d w g o = far (bound p (2 ^ d) w 42535295865117307932921825928971026432 (pow_pos d) o small)
    where
      far : w ≤ 42535295865117307932921825928971026432 → w + 18014398509481984 ≤ a
      far h = let f = j.full in omega arith

      small : p < 42535295865117307932921825928971026432 * 2 ^ d
      small = lt_of_lt_of_le j.most (mul-le-mul_left 42535295865117307932921825928971026432 (pow_mono {i = 1} {j = d} g))

  pub addend_down : (s t : Bool) (e e2 w : ℕ) → e2 ≤ e → Odd a (2 ^ (e - e2)) w
      → {r : Float} → r ≡ rounded_sum s (p * 2 ^ e) t (w * 2 ^ e) (2 ^ scale) → r ≡ rounded_sum s (p * 2 ^ e) t (a * 2 ^ e2) (2 ^ scale)
  addend_down s t e e2 w h o given =
      given
      ∙ (subst (λ (z : ℕ). rounded_sum s (p * 2 ^ z) t (w * 2 ^ z) (2 ^ scale) ≡ rounded_sum s (p * 2 ^ z) t (a * 2 ^ e2) (2 ^ scale)) (add-sub_of_le h)
      (sym (aligned s t p a w e2 (e - e2) scale j.even o (addend_moved (e - e2) w o))))

  pub product_down : (s t : Bool) (e e2 w : ℕ) → e < e2 → Odd p (2 ^ (e2 - e)) w
      → {r : Float} → r ≡ rounded_sum s (w * 2 ^ e2) t (a * 2 ^ e2) (2 ^ scale) → r ≡ rounded_sum s (p * 2 ^ e) t (a * 2 ^ e2) (2 ^ scale)
  product_down s t e e2 w h o given =
      given
      ∙ (subst (λ (z : ℕ). rounded_sum s (w * 2 ^ z) t (a * 2 ^ z) (2 ^ scale) ≡ rounded_sum s (p * 2 ^ e) t (a * 2 ^ z) (2 ^ scale)) (add-sub_of_le (le_of_lt h))
      (rounded_sum_comm s t (w * 2 ^ (e + (e2 - e))) (a * 2 ^ (e + (e2 - e))) (2 ^ scale) (pow_pos scale)
      ∙ sym (aligned t s a p w e (e2 - e) scale addend_even o (inr (product-moved (e2 - e) w (omega arith) o)))
      ∙ rounded_sum_comm t s (a * 2 ^ (e + (e2 - e))) (p * 2 ^ e) (2 ^ scale) (pow_pos scale)))
