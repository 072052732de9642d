-- `roundedSum`, by the signs and the order of its two parts: equal fractions give equal sums, the two parts may change places, and the smaller part may be rounded to odd.
use Rattle.std.specs.Prelude.{◌≡◌, refl, ◌⊎◌, ℕ, ◌+◌, ◌-◌, ◌*◌, ◌/◌, ◌%◌, ◌^◌, ◌≤◌, ◌<◌, Bool, true, false, not, ◌&&◌, cond, ltb, eqb}
use Rattle.std.proofs.Common.{sym, ap, ◌∙◌, subst, inl, inr, add-zero, le_of_eq, le_of_lt, lt_of_lt_of_le, lt_of_le_of_lt, lt_irrefl, eq-or-lt_of_le, lt_of_mul-lt-mul_right, mul-lt-mul_of_pos_right, mul-pos, add_comm, add-mul, mul_comm, mul_assoc, mul_left_comm, zero-mul, eq-zero-or-pos, arith, eqb→eq, lt→ltb, pow-add, pow_pos}
use Rattle.std.proofs.Math.Nat.{sub-zero, eq_of_mul-eq-mul_right, mul-sub}
use Rattle.std.proofs.Math.Dec.{not_T}
use Rattle.std.proofs.Math.Arith.{le→nltb}
use Rattle.std.specs.Float.{binary64}
use Rattle.std.specs.Float.Ieee.{sum, round, of_bits}
use Rattle.std.specs.Float.Ieee.Bits.{is_true, is_false}
use Rattle.std.specs.Float.Ieee.Scale.{round_same}
use Rattle.floats.specs.Answers.{plus_zero}
use Rattle.rounded.specs.Fused.{rounded_sum}
use Rattle.rounded.specs.laws.RoundToOdd.{Odd, exact, near, ordered, even_lt, round-odd}

-- ---- by cases

not_zero : (n : ℕ) → 0 < n → eqb n 0 ≡ false
not_zero n h = is_false (eqb n 0) (not_T (eqb n 0) (λ t. lt_irrefl 0 (subst (λ (z : ℕ). 0 < z) (eqb→eq n 0 t) h)))

no_less : (a b : ℕ) → b ≤ a → ltb a b ≡ false
no_less a b h = is_false (ltb a b) (le→nltb a b h)

yes_less : (a b : ℕ) → a < b → ltb a b ≡ true
yes_less a b h = is_true (ltb a b) (lt→ltb a b h)

pub both_zero : (s t : Bool) (p q d : ℕ) → p + q ≡ 0 → rounded_sum s p t q d ≡ plus_zero
unfolding rounded_sum
both_zero s t p q d h = ap (λ (z : ℕ). cond (eqb z 0) plus_zero (sum binary64 s p t q d)) h

open_sum : (s t : Bool) (p q d : ℕ) → 0 < p + q → rounded_sum s p t q d ≡ sum binary64 s p t q d
unfolding rounded_sum
open_sum s t p q d h = ap (λ (b : Bool). cond b plus_zero (sum binary64 s p t q d)) (not_zero (p + q) h)

sum_alike : (s : Bool) (p q d : ℕ) → sum binary64 s p s q d ≡ round binary64 s (p + q) d
unfolding sum
sum_alike true p q d = refl
sum_alike false p q d = refl

sum-unlike : (s : Bool) (p q d : ℕ) → sum binary64 s p (not s) q d ≡ cond (ltb p q) (round binary64 (not s) (q - p) d) (round binary64 (s && ltb q p) (p - q) d)
unfolding sum
sum-unlike true p q d = refl
sum-unlike false p q d = refl

some : (p q : ℕ) → p < q → 0 < p + q
some p q h = omega arith

pub alike : (s : Bool) (p q d : ℕ) → 0 < p + q → rounded_sum s p s q d ≡ round binary64 s (p + q) d
alike s p q d h = open_sum s s p q d h ∙ sum_alike s p q d

pub lower : (s : Bool) (p q d : ℕ) → p < q → rounded_sum s p (not s) q d ≡ round binary64 (not s) (q - p) d
lower s p q d h = open_sum s (not s) p q d (some p q h) ∙ sum-unlike s p q d ∙ ap (λ (b : Bool). cond b (round binary64 (not s) (q - p) d) (round binary64 (s && ltb q p) (p - q) d)) (yes_less p q h)

and_true : (s : Bool) → (s && true) ≡ s
and_true true = refl
and_true false = refl

and_false : (s : Bool) → (s && false) ≡ false
and_false true = refl
and_false false = refl

not_lower : (s : Bool) (p q d : ℕ) → 0 < p + q → q ≤ p → rounded_sum s p (not s) q d ≡ round binary64 (s && ltb q p) (p - q) d
not_lower s p q d g h = open_sum s (not s) p q d g ∙ sum-unlike s p q d ∙ ap (λ (b : Bool). cond b (round binary64 (not s) (q - p) d) (round binary64 (s && ltb q p) (p - q) d)) (no_less p q h)

pub higher : (s : Bool) (p q d : ℕ) → q < p → rounded_sum s p (not s) q d ≡ round binary64 s (p - q) d
higher s p q d h = not_lower s p q d (subst (λ (z : ℕ). 0 < z) (add_comm q p) (some q p h)) (le_of_lt h) ∙ ap (λ (b : Bool). round binary64 b (p - q) d) (ap (λ (b : Bool). s && b) (yes_less q p h) ∙ and_true s)

zero_at_one : round binary64 false 0 1 ≡ plus_zero
unfolding round of_bits
zero_at_one = refl

round-zero : (d : ℕ) → 0 < d → round binary64 false 0 d ≡ plus_zero
round-zero d h = round_same binary64 false 0 d 0 1 h (pow_pos 0) (sym (zero-mul d)) ∙ zero_at_one

pub level : (s : Bool) (p q d : ℕ) → 0 < d → p ≡ q → rounded_sum s p (not s) q d ≡ plus_zero
level s p q d D e = go (eq-zero-or-pos (p + q))
  where
    go : (p + q ≡ 0) ⊎ (0 < p + q) → rounded_sum s p (not s) q d ≡ plus_zero
    go (inl z) = both_zero s (not s) p q d z
    go (inr h) =
        not_lower s p q d h (le_of_eq (sym e))
        ∙ ap (λ (b : Bool). round binary64 b (p - q) d) (ap (λ (b : Bool). s && b) (no_less q p (le_of_eq e)) ∙ and_false s)
        ∙ ap (λ (z : ℕ). round binary64 false z d) (omega arith)
        ∙ round-zero d D

pub signs : (s t : Bool) → (t ≡ s) ⊎ (t ≡ not s)
signs true true = inl refl
signs true false = inr refl
signs false true = inr refl
signs false false = inl refl

-- ---- equal fractions, and the parts in the other order

module _ (p q d p' q' d' : ℕ) (D : 0 < d) (D' : 0 < d') (e : p * d' ≡ p' * d) (f : q * d' ≡ q' * d) where
  sums : (p + q) * d' ≡ (p' + q') * d
  sums = add-mul p q d' ∙ ap (λ (z : ℕ). z + q * d') e ∙ ap (λ (z : ℕ). p' * d + z) f ∙ sym (add-mul p' q' d)

  differences : (p - q) * d' ≡ (p' - q') * d
  differences =
      mul_comm (p - q) d' ∙ mul-sub d' p q
      ∙ ap (λ (z : ℕ). z - d' * q) (mul_comm d' p ∙ e ∙ mul_comm p' d)
      ∙ ap (λ (z : ℕ). d * p' - z) (mul_comm d' q ∙ f ∙ mul_comm q' d)
      ∙ sym (mul-sub d p' q') ∙ mul_comm d (p' - q')

  less_too : p < q → p' < q'
  less_too h = lt_of_mul-lt-mul_right d (lt_of_le_of_lt (le_of_eq (sym e)) (lt_of_lt_of_le (mul-lt-mul_of_pos_right h D') (le_of_eq f)))

  level_too : p ≡ q → p' ≡ q'
  level_too h = eq_of_mul-eq-mul_right d D p' q' (sym e ∙ ap (λ (z : ℕ). z * d') h ∙ f)

  none_too : p + q ≡ 0 → p' + q' ≡ 0
  none_too h = eq_of_mul-eq-mul_right d D (p' + q') 0 (sym sums ∙ ap (λ (z : ℕ). z * d') h ∙ zero-mul d' ∙ sym (zero-mul d))

  some_too : 0 < p + q → 0 < p' + q'
  some_too h = lt_of_mul-lt-mul_right d (lt_of_le_of_lt (le_of_eq (zero-mul d)) (lt_of_lt_of_le (mul-pos h D') (le_of_eq sums)))

pub rounded_sum_same : (s t : Bool) (p q d p' q' d' : ℕ) → 0 < d → 0 < d' → p * d' ≡ p' * d → q * d' ≡ q' * d → rounded_sum s p t q d ≡ rounded_sum s p' t q' d'
rounded_sum_same s t p q d p' q' d' D D' e f = go (signs s t)
  where
    same_signs : (p + q ≡ 0) ⊎ (0 < p + q) → rounded_sum s p s q d ≡ rounded_sum s p' s q' d'
    same_signs (inl z) = both_zero s s p q d z ∙ sym (both_zero s s p' q' d' (none_too p q d p' q' d' D D' e f z))
    same_signs (inr h) =
        alike s p q d h ∙ round_same binary64 s (p + q) d (p' + q') d' D D' (sums p q d p' q' d' D D' e f) ∙ sym (alike s p' q' d' (some_too p q d p' q' d' D D' e f h))

    other-signs : (p ≤ q) ⊎ (q < p) → rounded_sum s p (not s) q d ≡ rounded_sum s p' (not s) q' d'
    other-signs (inr h) =
        higher s p q d h ∙ round_same binary64 s (p - q) d (p' - q') d' D D' (differences p q d p' q' d' D D' e f) ∙ sym (higher s p' q' d' (less_too q p d q' p' d' D D' f e h))
    other-signs (inl l) = elim (eq-or-lt_of_le l) [
      | inl z ↦ level s p q d D z ∙ sym (level s p' q' d' D' (level_too p q d p' q' d' D D' e f z))
      | inr h ↦ lower s p q d h ∙ round_same binary64 (not s) (q - p) d (q' - p') d' D D' (differences q p d q' p' d' D D' f e) ∙ sym (lower s p' q' d' (less_too p q d p' q' d' D D' e f h))
    ]

    go : (t ≡ s) ⊎ (t ≡ not s) → rounded_sum s p t q d ≡ rounded_sum s p' t q' d'
    go (inl z) = subst (λ (t : Bool). rounded_sum s p t q d ≡ rounded_sum s p' t q' d') (sym z) (same_signs (eq-zero-or-pos (p + q)))
    go (inr z) = subst (λ (t : Bool). rounded_sum s p t q d ≡ rounded_sum s p' t q' d') (sym z) (other-signs (ordered p q))

not_not : (s : Bool) → not (not s) ≡ s
not_not true = refl
not_not false = refl

pub rounded_sum_comm : (s t : Bool) (p q d : ℕ) → 0 < d → rounded_sum s p t q d ≡ rounded_sum t q s p d
rounded_sum_comm s t p q d D = go (signs s t)
  where
    same_signs : (p + q ≡ 0) ⊎ (0 < p + q) → rounded_sum s p s q d ≡ rounded_sum s q s p d
    same_signs (inl z) = both_zero s s p q d z ∙ sym (both_zero s s q p d (add_comm q p ∙ z))
    same_signs (inr h) = alike s p q d h ∙ ap (λ (z : ℕ). round binary64 s z d) (add_comm p q) ∙ sym (alike s q p d (subst (λ (z : ℕ). 0 < z) (add_comm p q) h))

    other-signs : (p ≤ q) ⊎ (q < p) → rounded_sum s p (not s) q d ≡ rounded_sum (not s) q (not (not s)) p d
    other-signs (inr h) = higher s p q d h ∙ ap (λ (b : Bool). round binary64 b (p - q) d) (sym (not_not s)) ∙ sym (lower (not s) q p d h)
    other-signs (inl l) = elim (eq-or-lt_of_le l) [
      | inl z ↦ level s p q d D z ∙ sym (level (not s) q p d D (sym z))
      | inr h ↦ lower s p q d h ∙ sym (higher (not s) q p d h)
    ]

    go : (t ≡ s) ⊎ (t ≡ not s) → rounded_sum s p t q d ≡ rounded_sum t q s p d
    go (inl z) = subst (λ (t : Bool). rounded_sum s p t q d ≡ rounded_sum t q s p d) (sym z) (same_signs (eq-zero-or-pos (p + q)))
    go (inr z) = subst (λ (t : Bool). rounded_sum s p t q d ≡ rounded_sum t q s p d) (sym z) (subst (λ (b : Bool). rounded_sum s p (not s) q d ≡ rounded_sum (not s) q b p d) (not_not s) (other-signs (ordered p q)))

-- ---- a sum whose second part is 0

pub alone : (s : Bool) (p d : ℕ) → 0 < p → round binary64 s p d ≡ rounded_sum s p s 0 d
alone s p d h = ap (λ (z : ℕ). round binary64 s z d) (sym (add-zero p)) ∙ sym (alike s p 0 d (subst (λ (z : ℕ). 0 < z) (sym (add-zero p)) h))

pub with_none : (s t : Bool) (p d : ℕ) → rounded_sum s p t 0 d ≡ rounded_sum s p s 0 d
with_none s t p d = go (signs s t) (eq-zero-or-pos p)
  where
    go : (t ≡ s) ⊎ (t ≡ not s) → (p ≡ 0) ⊎ (0 < p) → rounded_sum s p t 0 d ≡ rounded_sum s p s 0 d
    go (inl z) h = ap (λ (t : Bool). rounded_sum s p t 0 d) z
    go (inr z) (inl e) = both_zero s t p 0 d (omega arith) ∙ sym (both_zero s s p 0 d (omega arith))
    go (inr z) (inr h) = ap (λ (t : Bool). rounded_sum s p t 0 d) z ∙ higher s p 0 d h ∙ ap (λ (z : ℕ). round binary64 s z d) (sub-zero p) ∙ alone s p d h

pub none_with : (s t : Bool) (q d : ℕ) → 0 < d → rounded_sum t q t 0 d ≡ rounded_sum s 0 t q d
none_with s t q d D = sym (with_none t s q d) ∙ rounded_sum_comm t s q 0 d D

-- ---- a sum from the sum or the difference of its parts

pub gather : (s : Bool) (p q d : ℕ) → rounded_sum s (p + q) s 0 d ≡ rounded_sum s p s q d
gather s p q d = go (eq-zero-or-pos (p + q))
  where
    go : (p + q ≡ 0) ⊎ (0 < p + q) → rounded_sum s (p + q) s 0 d ≡ rounded_sum s p s q d
    go (inl e) = both_zero s s (p + q) 0 d (omega arith) ∙ sym (both_zero s s p q d e)
    go (inr h) = sym (alone s (p + q) d h) ∙ sym (alike s p q d h)

pub fall : (s : Bool) (p q d : ℕ) → p < q → rounded_sum (not s) (q - p) (not s) 0 d ≡ rounded_sum s p (not s) q d
fall s p q d h = sym (alone (not s) (q - p) d (omega arith)) ∙ sym (lower s p q d h)

pub rise : (s : Bool) (p q d : ℕ) → 0 < d → q ≤ p → rounded_sum s (p - q) s 0 d ≡ rounded_sum s p (not s) q d
rise s p q d D h = go (eq-or-lt_of_le h)
  where
    go : (q ≡ p) ⊎ (q < p) → rounded_sum s (p - q) s 0 d ≡ rounded_sum s p (not s) q d
    go (inl e) = both_zero s s (p - q) 0 d (omega arith) ∙ sym (level s p q d D (sym e))
    go (inr l) = sym (alone s (p - q) d (omega arith)) ∙ sym (higher s p q d l)

-- ---- an even number plus or minus a number that is rounded to odd

pub odd-plus : {X D w : ℕ} (a : ℕ) → Odd X D w → Odd (2 * a * D + X) D (2 * a + w)
odd-plus {X} {D} {w} a (exact e) = exact (ap (λ (z : ℕ). 2 * a * D + z) e ∙ sym (add-mul (2 * a) w D))
odd-plus {X} {D} {w} a (near o u l) =
    let m : (2 * a + w) * D ≡ 2 * a * D + w * D = add-mul (2 * a) w D in
    near {X = 2 * a * D + X} {D = D} {w = 2 * a + w} (omega arith) (omega arith) (omega arith)

pub minus-mul : (b c d : ℕ) → (b - c) * d ≡ b * d - c * d
minus-mul b c d = mul_comm (b - c) d ∙ mul-sub d b c ∙ ap (λ (z : ℕ). z - d * c) (mul_comm d b) ∙ ap (λ (z : ℕ). b * d - z) (mul_comm d c)

pub odd-minus : {X D w : ℕ} (a : ℕ) → w < 2 * a → Odd X D w → Odd (2 * a * D - X) D (2 * a - w)
odd-minus {X} {D} {w} a h (exact e) = exact (ap (λ (z : ℕ). 2 * a * D - z) e ∙ sym (minus-mul (2 * a) w D))
odd-minus {X} {D} {w} a h (near o u l) =
    let k : 2 * a - w + w ≡ 2 * a = omega arith in
    let m : (2 * a - w) * D + w * D ≡ 2 * a * D = sym (add-mul (2 * a - w) w D) ∙ ap (λ (z : ℕ). z * D) k in
    near {X = 2 * a * D - X} {D = D} {w = 2 * a - w} (omega arith) (omega arith) (omega arith)

module _ (s t : Bool) (a X D w e B : ℕ) (D-pos : 0 < D) (o : Odd X D w) where
  exact-sum : X ≡ w * D → rounded_sum s (2 * a * D * 2 ^ e) t (X * 2 ^ e) (D * 2 ^ B) ≡ rounded_sum s (2 * a * 2 ^ e) t (w * 2 ^ e) (2 ^ B)
  exact-sum h =
      rounded_sum_same s t (2 * a * D * 2 ^ e) (X * 2 ^ e) (D * 2 ^ B) (2 * a * 2 ^ e) (w * 2 ^ e) (2 ^ B) (mul-pos D-pos (pow_pos B)) (pow_pos B)
      (swap (2 * a) D (2 ^ e) (2 ^ B))
      (ap (λ (z : ℕ). z * 2 ^ e * 2 ^ B) h ∙ swap w D (2 ^ e) (2 ^ B))
    where
      swap : (x d y b : ℕ) → x * d * y * b ≡ x * y * (d * b)
      swap x d y b = simp (mul_assoc, mul_left_comm)

  near-sum : w + 18014398509481984 ≤ 2 * a → (t ≡ s) ⊎ (t ≡ not s) → rounded_sum s (2 * a * D * 2 ^ e) t (X * 2 ^ e) (D * 2 ^ B) ≡ rounded_sum s (2 * a * 2 ^ e) t (w * 2 ^ e) (2 ^ B)
  near-sum h (inl z) =
      subst (λ (t : Bool). rounded_sum s (2 * a * D * 2 ^ e) t (X * 2 ^ e) (D * 2 ^ B) ≡ rounded_sum s (2 * a * 2 ^ e) t (w * 2 ^ e) (2 ^ B)) (sym z)
      (alike s (2 * a * D * 2 ^ e) (X * 2 ^ e) (D * 2 ^ B) (first (2 * a * D * 2 ^ e) (X * 2 ^ e) (mul-pos (mul-pos (omega arith) D-pos) (pow_pos e)))
      ∙ ap (λ (z : ℕ). round binary64 s z (D * 2 ^ B)) (sym (add-mul (2 * a * D) X (2 ^ e)))
      ∙ round-odd binary64 s (2 * a * D + X) D (2 * a + w) e B D-pos (odd-plus a o) (inr (omega arith))
      ∙ ap (λ (z : ℕ). round binary64 s z (2 ^ B)) (add-mul (2 * a) w (2 ^ e))
      ∙ sym (alike s (2 * a * 2 ^ e) (w * 2 ^ e) (2 ^ B) (first (2 * a * 2 ^ e) (w * 2 ^ e) (mul-pos (omega arith) (pow_pos e)))))
    where
      first : (p q : ℕ) → 0 < p → 0 < p + q
      first p q h = omega arith
  near-sum h (inr z) =
      subst (λ (t : Bool). rounded_sum s (2 * a * D * 2 ^ e) t (X * 2 ^ e) (D * 2 ^ B) ≡ rounded_sum s (2 * a * 2 ^ e) t (w * 2 ^ e) (2 ^ B)) (sym z)
      (higher s (2 * a * D * 2 ^ e) (X * 2 ^ e) (D * 2 ^ B) (mul-lt-mul_of_pos_right (even_lt a D-pos o (omega arith)) (pow_pos e))
      ∙ ap (λ (z : ℕ). round binary64 s z (D * 2 ^ B)) (sym (minus-mul (2 * a * D) X (2 ^ e)))
      ∙ round-odd binary64 s (2 * a * D - X) D (2 * a - w) e B D-pos (odd-minus a (omega arith) o) (inr (omega arith))
      ∙ ap (λ (z : ℕ). round binary64 s z (2 ^ B)) (minus-mul (2 * a) w (2 ^ e))
      ∙ sym (higher s (2 * a * 2 ^ e) (w * 2 ^ e) (2 ^ B) (mul-lt-mul_of_pos_right (omega arith) (pow_pos e))))

  pub rounded_sum-odd : (X ≡ w * D) ⊎ (w + 18014398509481984 ≤ 2 * a) → rounded_sum s (2 * a * D * 2 ^ e) t (X * 2 ^ e) (D * 2 ^ B) ≡ rounded_sum s (2 * a * 2 ^ e) t (w * 2 ^ e) (2 ^ B)
  rounded_sum-odd (inl h) = exact-sum h
  rounded_sum-odd (inr h) = near-sum h (signs s t)

-- A and X / 2^d of 2^(e + d) / 2^B: X moved down by d places and rounded to odd
pub aligned : (s t : Bool) (A X w e d B : ℕ) → A % 2 ≡ 0 → Odd X (2 ^ d) w → (X ≡ w * 2 ^ d) ⊎ (w + 18014398509481984 ≤ A)
    → rounded_sum s (A * 2 ^ (e + d)) t (X * 2 ^ e) (2 ^ B) ≡ rounded_sum s (A * 2 ^ (e + d)) t (w * 2 ^ (e + d)) (2 ^ B)
aligned s t A X w e d B even o h =
    subst (λ (A : ℕ). ((X ≡ w * 2 ^ d) ⊎ (w + 18014398509481984 ≤ A)) → rounded_sum s (A * 2 ^ (e + d)) t (X * 2 ^ e) (2 ^ B) ≡ rounded_sum s (A * 2 ^ (e + d)) t (w * 2 ^ (e + d)) (2 ^ B))
    halves go h
  where
    halves : 2 * (A / 2) ≡ A
    halves = omega arith

    one : (x y z b : ℕ) → x * y * (z * b) ≡ x * z * y * b
    one x y z b = simp (mul_assoc, mul_left_comm)

    two : (x y z b : ℕ) → x * y * (z * b) ≡ x * (y * z) * b
    two x y z b = simp (mul_assoc)

    go : (X ≡ w * 2 ^ d) ⊎ (w + 18014398509481984 ≤ 2 * (A / 2)) → rounded_sum s (2 * (A / 2) * 2 ^ (e + d)) t (X * 2 ^ e) (2 ^ B) ≡ rounded_sum s (2 * (A / 2) * 2 ^ (e + d)) t (w * 2 ^ (e + d)) (2 ^ B)
    go k =
        rounded_sum_same s t (2 * (A / 2) * 2 ^ (e + d)) (X * 2 ^ e) (2 ^ B) (2 * (A / 2) * 2 ^ d * 2 ^ (e + d)) (X * 2 ^ (e + d)) (2 ^ d * 2 ^ B) (pow_pos B) (mul-pos (pow_pos d) (pow_pos B))
        (one (2 * (A / 2)) (2 ^ (e + d)) (2 ^ d) (2 ^ B))
        (two X (2 ^ e) (2 ^ d) (2 ^ B) ∙ ap (λ (z : ℕ). X * z * 2 ^ B) (sym (pow-add 2 e d)))
        ∙ rounded_sum-odd s t (A / 2) X (2 ^ d) w (e + d) B (pow_pos d) o k
