-- Where the exact root lies against the midpoints between its rounded value and the other doubles, in whole numbers.
-- The root of n = digits × 2^places, doubled and rounded to odd, is w; rounded to a multiple q × u of the unit u = 2^k, it is nearest to the root.
-- Assumes nothing.
use Rattle.std.specs.Prelude.{◌≡◌, refl, ◌⊎◌, ℕ, suc, ◌+◌, ◌-◌, ◌*◌, ◌/◌, ◌%◌, ◌^◌, ◌≤◌, ◌<◌}
use Rattle.std.proofs.Common.{sym, ap, ◌∙◌, subst, inl, inr, le_trans, le_of_eq, le_of_lt, lt_of_lt_of_le, lt_of_le_of_lt, not-le_of_lt, eq-or-lt_of_le, mul-le-mul, mul-le-mul_right, mul-lt-mul_of_pos_right, mul_assoc, mul_comm, mul_left_comm, add-mul, mul-add, one-mul, mul-one, div-add-mod', mod-lt, lt_of_mul-lt-mul_right, le-mul_of_pos_right, arith, pow-add, pow_pos, pow_mono}
use Rattle.std.proofs.Math.Nat.{mul-mul-mul_comm, eq_of_mul-eq-mul_right, pow-succ'}
use Rattle.std.specs.Float.Ieee.Nearest.{closest}
use Rattle.rounded.specs.laws.Root.{IsRoot}
use Rattle.rounded.specs.laws.RootValue.{Twice, whole, cut}
use Rattle.rounded.specs.laws.RoundToOdd.{ordered, closest_down, closest_up, closest-tie}

-- ---- the nearest multiple of b is at most b / 2 away

pub record Within (a b m : ℕ) : Type 0 where
  pub not_over : 2 * m ≤ 2 * a + b
  pub not_under : 2 * a ≤ 2 * m + b

pub next : (q b : ℕ) → (q + 1) * b ≡ q * b + b
next q b = simp (add-mul, one-mul)

module _ (a b q r : ℕ) (p : 0 < b) (is : a ≡ q * b + r) (less : r < b) where
  at : (c : ℕ) → closest a b ≡ c → Within a b (c * b) → Within a b (closest a b * b)
  at c e h = subst (λ (z : ℕ). Within a b (z * b)) (sym e) h

  down : r * 2 ≤ b → Within a b (q * b)
  down h = omega arith

  up : b ≤ r * 2 → Within a b ((q + 1) * b)
  up h = omega (arith, next q b)

  tie : r * 2 ≡ b → (q % 2 ≤ 0) ⊎ (0 < q % 2) → Within a b ((q + q % 2) * b)
  tie h (inl z) = let e : q + q % 2 ≡ q = omega arith in subst (λ (z : ℕ). Within a b (z * b)) (sym e) (down (omega arith))
  tie h (inr z) = let e : q + q % 2 ≡ q + 1 = omega arith in subst (λ (z : ℕ). Within a b (z * b)) (sym e) (up (omega arith))

  within_at : (b ≤ r * 2) ⊎ (r * 2 < b) → Within a b (closest a b * b)
  within_at (inr l) = at q (closest_down a b q r is l) (down (le_of_lt l))
  within_at (inl l) = elim (eq-or-lt_of_le l) [
    | inl e ↦ at (q + q % 2) (closest-tie a b q r is (sym e) p) (tie (sym e) (ordered (q % 2) 0))
    | inr g ↦ at (q + 1) (closest_up a b q r is g less) (up l)
  ]

pub closest-within : (a b : ℕ) → 0 < b → Within a b (closest a b * b)
closest-within a b p = within_at a b (a / b) (a % b) p (sym (div-add-mod' a b)) (mod-lt a p) (ordered b (a % b * 2))

-- ---- the root is no midpoint: its square would have too many digits

-- an odd number times a power of two has no more digits before its zeros than any other way to write it
odd_part : (c a m b : ℕ) → c % 2 ≡ 1 → c * 2 ^ a ≡ m * 2 ^ b → c ≤ m
odd_part c a m b o e = elim (ordered b a) [
  | inl l ↦
      let k : m ≡ c * 2 ^ (a - b) = eq_of_mul-eq-mul_right (2 ^ b) (pow_pos b) m (c * 2 ^ (a - b)) (sym e ∙ ap (λ (z : ℕ). c * 2 ^ z) (back a b l) ∙ ap (λ (z : ℕ). c * z) (pow-add 2 (a - b) b) ∙ sym (mul_assoc c (2 ^ (a - b)) (2 ^ b))) in
      le_trans (le-mul_of_pos_right c (pow_pos (a - b))) (le_of_eq (sym k))
  | inr l ↦
      let d = b - suc a in
      let k : c ≡ m * 2 ^ suc d = eq_of_mul-eq-mul_right (2 ^ a) (pow_pos a) c (m * 2 ^ suc d) (e ∙ ap (λ (z : ℕ). m * 2 ^ z) (forth a b l) ∙ ap (λ (z : ℕ). m * z) (pow-add 2 (suc d) a) ∙ sym (mul_assoc m (2 ^ suc d) (2 ^ a))) in
      absurd (even c (m * 2 ^ d) o (k ∙ ap (λ (z : ℕ). m * z) (pow-succ' 2 d) ∙ mul_left_comm m 2 (2 ^ d)))
]
  where
    back : (a b : ℕ) → b ≤ a → a ≡ a - b + b
    back a b h = omega arith

    forth : (a b : ℕ) → a < b → b ≡ suc (b - suc a) + a
    forth a b h = omega arith

    even : (c d : ℕ) → c % 2 ≡ 1 → c ≡ 2 * d → ⊥
    even c d o e = omega arith

odd-square : (c : ℕ) → c % 2 ≡ 1 → c * c % 2 ≡ 1
odd-square c o = half (c / 2) (omega arith)
  where
    half : (d : ℕ) → c ≡ 2 * d + 1 → c * c % 2 ≡ 1
    half d e = rw e (simp (add-mul, mul-add, mul_assoc, one-mul, mul-one) (omega arith))

no_tie : (c k r digits places : ℕ) → c % 2 ≡ 1 → 2 ^ 53 ≤ c + 1 → digits < 2 ^ 53 → r ≡ c * 2 ^ k → r * r ≡ digits * 2 ^ places → ⊥
no_tie c k r digits places o big small e s =
    let q : c * c ≤ digits = odd_part (c * c) (k + k) digits places (odd-square c o) (ap (λ (z : ℕ). c * c * z) (pow-add 2 k k) ∙ mul-mul-mul_comm c c (2 ^ k) (2 ^ k) ∙ (λ i. sym e i * sym e i) ∙ s) in
    omega (arith, mul-le-mul {n₁ = 2} {m₁ = c} {n₂ = c} {m₂ = c} (omega arith) (omega arith))

-- ---- from 2^52 units on every double is a whole number of units

multiple : (k m j : ℕ) → m < 2 ^ 53 → 2 ^ 52 * 2 ^ k ≤ m * 2 ^ j → (a : ℕ) × (m * 2 ^ j ≡ a * 2 ^ k)
multiple k m j small large = elim (ordered k j) [
  | inl l ↦ (m * 2 ^ (j - k), ap (λ (z : ℕ). m * 2 ^ z) (back j k l) ∙ ap (λ (z : ℕ). m * z) (pow-add 2 (j - k) k) ∙ sym (mul_assoc m (2 ^ (j - k)) (2 ^ k)))
  | inr l ↦
      absurd
      (not-le_of_lt
      (lt_of_lt_of_le (mul-lt-mul_of_pos_right small (pow_pos j))
      (le_trans (le_of_eq (mul_assoc (2 ^ 52) 2 (2 ^ j) ∙ ap (λ (z : ℕ). 2 ^ 52 * z) (sym (pow-succ' 2 j)))) (mul-le-mul {n₁ = 2 ^ 52} {m₁ = 2 ^ suc j} {n₂ = 2 ^ 52} {m₂ = 2 ^ k} (le_of_eq refl) (pow_mono l))))
      large)
]
  where
    back : (j k : ℕ) → k ≤ j → j ≡ j - k + k
    back j k h = omega arith

module _ (k q m j : ℕ) (normal : 2 ^ 52 ≤ q) (small : m < 2 ^ 53) where
  pub gap_up : q * 2 ^ k < m * 2 ^ j → q * 2 ^ k + 2 ^ k ≤ m * 2 ^ j
  gap_up h =
      let a = multiple k m j small (le_trans (mul-le-mul_right (2 ^ k) normal) (le_of_lt h)) in
      let l : q < a.0 = lt_of_mul-lt-mul_right (2 ^ k) (subst (λ (z : ℕ). q * 2 ^ k < z) a.1 h) in
      le_trans (le_of_eq (sym (next q (2 ^ k)))) (le_trans (mul-le-mul_right {m = q + 1} {n = a.0} (2 ^ k) (omega arith)) (le_of_eq (sym a.1)))

  pub gap_down : m * 2 ^ j < q * 2 ^ k → (m * 2 ^ j + 2 ^ k ≤ q * 2 ^ k) ⊎ (q ≡ 2 ^ 52)
  gap_down h = elim (ordered (2 ^ 52 * 2 ^ k) (m * 2 ^ j)) [
    | inl g ↦
        let a = multiple k m j small g in
        let l : a.0 < q = lt_of_mul-lt-mul_right (2 ^ k) (subst (λ (z : ℕ). z < q * 2 ^ k) a.1 h) in
        inl (le_trans (le_of_eq (ap (λ (z : ℕ). z + 2 ^ k) a.1 ∙ sym (next a.0 (2 ^ k)))) (mul-le-mul_right {m = a.0 + 1} {n = q} (2 ^ k) (omega arith)))
    | inr g ↦ elim (eq-or-lt_of_le normal) [
      | inl e ↦ inr (sym e)
      | inr l ↦
          let d : 2 ^ 52 * 2 ^ k + 2 ^ k ≤ q * 2 ^ k = le_trans (le_of_eq (sym (next (2 ^ 52) (2 ^ k)))) (mul-le-mul_right {m = 2 ^ 52 + 1} {n = q} (2 ^ k) (omega arith)) in
          inl (le_trans (le_of_lt (more (2 ^ 52 * 2 ^ k) g)) d)
    ]
  ]
    where
      more : (b : ℕ) → m * 2 ^ j < b → m * 2 ^ j + 2 ^ k < b + 2 ^ k
      more b g = omega arith

-- ---- the squares of the midpoints

four : (a : ℕ) → 2 * a * (2 * a) ≡ 4 * (a * a)
four a = simp (mul_assoc, mul_left_comm) (omega arith)

-- A number a of half units that is at least 2 × (r + 1), or below 2 × r, or at most 2 × r where the root is cut.
over : (r n a : ℕ) → IsRoot r n → 2 * (r + 1) ≤ a → 4 * n < a * a
over r n a h l = lt_of_lt_of_le (more h.next) (le_trans (le_of_eq (sym (four (r + 1)))) (mul-le-mul l l))
  where
    more : {b : ℕ} → n < b → 4 * n < 4 * b
    more g = omega arith

under-cut : (r n a : ℕ) → r * r < n → a ≤ 2 * r → a * a < 4 * n
under-cut r n a h l = lt_of_le_of_lt (mul-le-mul l l) (lt_of_le_of_lt (le_of_eq (four r)) (more (r * r) h))
  where
    more : (b : ℕ) → b < n → 4 * b < 4 * n
    more b g = omega arith

under_whole : (r n a : ℕ) → r * r ≡ n → a < 2 * r → a * a < 4 * n
under_whole r n a h l = lt_of_lt_of_le (square_lt a (2 * r) l) (le_of_eq (four r ∙ ap (λ (z : ℕ). 4 * z) h))
  where
    square_lt : (a b : ℕ) → a < b → a * a < b * b
    square_lt a b g = lt_of_le_of_lt (mul-le-mul_right a (le_of_lt g)) (subst (λ (z : ℕ). z < b * b) (mul_comm a b) (mul-lt-mul_of_pos_right g (omega arith)))

-- The root lies on the near side of every midpoint a / 2 that is half a unit u or more away from the rounded root y, and of those below y where y isn't above it.
pub record Sides (y u w n : ℕ) : Type 0 where
  pub above : (a : ℕ) → y + (y + u) ≤ a → 4 * n < a * a
  pub below : (a : ℕ) → a + u ≤ y + y → a * a < 4 * n
  pub below-exact : (a : ℕ) → a < y + y → 2 * y ≤ w → a * a < 4 * n

module _ (k q w r n digits places : ℕ) (h : IsRoot r n) (t : Twice r n w) (is : n ≡ digits * 2 ^ places) (small : digits < 2 ^ 53) (normal : 2 ^ 52 ≤ q)
    (near : Within w (2 * 2 ^ suc k) (q * (2 * 2 ^ suc k))) where
  unit : 2 ^ suc k ≡ 2 * 2 ^ k
  unit = pow-succ' 2 k

  whole-unit : q * (2 * 2 ^ suc k) ≡ 2 * (q * 2 ^ suc k)
  whole-unit = mul_left_comm q 2 (2 ^ suc k)

  halves : q * 2 ^ suc k ≡ 2 * (q * 2 ^ k)
  halves = ap (λ (z : ℕ). q * z) unit ∙ mul_left_comm q 2 (2 ^ k)

  upper : (2 * q + 1) * 2 ^ k ≡ q * 2 ^ suc k + 2 ^ k
  upper = simp (add-mul, one-mul, mul_assoc) (omega (arith, halves))

  lower : (c : ℕ) → c + 1 ≡ 2 * q → c * 2 ^ k + 2 ^ k ≡ q * 2 ^ suc k
  lower c e = sym (next c (2 ^ k)) ∙ ap (λ (z : ℕ). z * 2 ^ k) e ∙ mul_assoc 2 q (2 ^ k) ∙ sym halves

  above : (a : ℕ) → q * 2 ^ suc k + (q * 2 ^ suc k + 2 ^ suc k) ≤ a → 4 * n < a * a
  above a l = go t
    where
      go : Twice r n w → 4 * n < a * a
      go (cut x y) = over r n a h (omega (arith, near.not_under, whole-unit, unit))
      go (whole x y) = elim (ordered (q * 2 ^ suc k + 2 ^ k) r) [
        | inl g ↦ absurd (no_tie (2 * q + 1) k r digits places (omega arith) (omega arith) small (omega (arith, upper, near.not_under, whole-unit, unit)) (x ∙ is))
        | inr g ↦ over r n a h (omega (arith, unit))
      ]

  below : (a : ℕ) → a + 2 ^ suc k ≤ q * 2 ^ suc k + q * 2 ^ suc k → a * a < 4 * n
  below a l = go t
    where
      go : Twice r n w → a * a < 4 * n
      go (cut x y) = under-cut r n a x (omega (arith, near.not_over, whole-unit, unit))
      go (whole x y) = elim (ordered (r + 2 ^ k) (q * 2 ^ suc k)) [
        | inl g ↦ absurd (no_tie (2 * q - 1) k r digits places (omega arith) (omega arith) small (omega (arith, lower (2 * q - 1) (omega arith), near.not_over, whole-unit, unit)) (x ∙ is))
        | inr g ↦ under_whole r n a x (omega (arith, unit))
      ]

  -- where the rounded root isn't above the exact one
  below-exact : (a : ℕ) → a < q * 2 ^ suc k + q * 2 ^ suc k → 2 * (q * 2 ^ suc k) ≤ w → a * a < 4 * n
  below-exact a l g = go t
    where
      go : Twice r n w → a * a < 4 * n
      go (cut x y) = under-cut r n a x (omega arith)
      go (whole x y) = under_whole r n a x (omega arith)

  pub sides : Sides (q * 2 ^ suc k) (2 ^ suc k) w n
  sides = record { above = above; below = below; below-exact = below-exact }
