-- exp's k: a whole number from -1010 to 1010, and the bits of 2^k. Assumes nothing.
use Rattle.std.specs.Prelude.{ℕ, zero, suc, ◌+◌, ◌-◌, ◌*◌, ◌/◌, ◌^◌, ◌≤◌, ◌<◌, ◌≡◌, Bool, true, false, cond, T, ℤ, pos, negsuc, Float}
use Rattle.std.proofs.Math.Path.{refl}
use Rattle.std.proofs.Common.{sym, ap, ◌∙◌, subst, div-lt_iff_lt-mul, mul-pos, arith, lt-ltb, le→leb, lt→ltb, lit<, lit≤}
use Rattle.std.proofs.Math.Dec.{eqb-suc-zero}
use Rattle.std.specs.Float.{nan, inf, fin}
use Rattle.std.specs.Float.Ieee.{binary64, up, down, minus, round, sum, add, mul, neg, lt, le, of_int, of_bits, to_signed, to_unsigned, in_unsigned, in_float}
use Rattle.std.specs.Float.Ieee.Scale.{finite}
use Rattle.std.specs.Float.Ieee.Fits.{down_pos}
use Rattle.std.specs.Float.Ieee.Exact.{HasValue}
use Rattle.std.specs.Float.Ieee.Back.{round_whole, unsigned_back, positive_back, negative_back}
use Rattle.floats.specs.Answers.{plus_zero}
use Rattle.floats.specs.Whole.{rounded, whole_of}
use Rattle.elementary.specs.Exponential.{inverse_ln2, seven_hundred, power_of_two}
use Rattle.floats.specs.laws.Fractions.{leq_of_le}
use Rattle.floats.specs.laws.Order as order
use Rattle.floats.specs.laws.Arithmetic.{mul_mono_left}
use Rattle.floats.specs.laws.Integers.{over, under, gap, minus_pos, minus-neg, minus_same, add-whole}
use Rattle.floats.specs.laws.Patterns.{power-bits}
use Rattle.elementary.specs.laws.Exponential.{steps}

-- k is the whole number index - 1010
pub record Step (k : Float) : Type 0 where
  pub index : ℕ
  pub within : index ≤ 2020
  pub same : k ≡ of_int binary64 (minus index 1010)

-- ---- a rounded number that is not far from 0

abbrev pub limit : Float
limit = of_bits binary64 0x408f_9000_0000_0000

round-below : (a d : ℕ) → 0 < d → a ≤ 1010 * d → (2 * a + d) / (2 * d) ≤ 1010
round-below a d h l = let k : (2 * a + d) / (2 * d) < 1011 = (div-lt_iff_lt-mul (mul-pos (lit< tt) h)).1 (omega arith) in omega arith

whole_is : (s : Bool) (n : ℕ) → whole_of s (suc n) ≡ round binary64 s (suc n) 1
unfolding whole_of
whole_is s n = ap (λ (b : Bool). cond b plus_zero (round binary64 s (suc n) 1)) (eqb-suc-zero n)

whole-step : (s : Bool) (n : ℕ) → n ≤ 1010 → Step (whole_of s n)
unfolding of_int
whole-step s zero h = record { index = 1010; within = lit≤ tt; same = unfold whole_of of_bits round in refl }
whole-step false (suc n) h = record {
  index = 1010 + suc n;
  within = omega arith;
  same = whole_is false n ∙ sym (ap (of_int binary64) (minus_pos (1010 + suc n) 1010 (suc n) refl));
}
whole-step true (suc n) h = record {
  index = 1010 - suc n;
  within = omega arith;
  same = whole_is true n ∙ sym (ap (of_int binary64) (minus-neg (1010 - suc n) 1010 n (omega arith)));
}

pub rounded-step : (y : Float) → T (le (neg limit) y) → T (le y limit) → Step (rounded y)
unfolding rounded neg of_bits
rounded-step y a b = go y (order.between (neg limit) y limit tt tt a b) a b
  where
    go : (y : Float) → T (finite y) → T (le (neg limit) y) → T (le y limit) → Step (rounded y)
    go nan p a b = absurd p
    go (inf s) p a b = absurd p
    go (fin false m e) p a b =
        let l = (leq_of_le (fin false m e) limit tt tt b).holds in
        whole-step false ((2 * (m * up e) + down e) / (2 * down e)) (round-below (m * up e) (down e) (down_pos e) (omega arith))
    go (fin true m e) p a b =
        let l = (leq_of_le (neg limit) (fin true m e) tt tt a).holds in
        whole-step true ((2 * (m * up e) + down e) / (2 * down e)) (round-below (m * up e) (down e) (down_pos e) (omega arith))

-- exp reduces the arguments from -700 to 700
pub record Reducible (x : Float) : Type 0 where
  pub low : T (le (neg seven_hundred) x)
  pub high : T (le x seven_hundred)

pub reducible : (x : Float) → T (finite x) → lt seven_hundred x ≡ false → lt x (neg seven_hundred) ≡ false → Reducible x
unfolding of_bits neg
reducible x f a b = record {
  low = order.le_of_not_lt x (neg seven_hundred) (order.number_of-finite x f) tt (order.T-of_not (lt x (neg seven_hundred)) b);
  high = order.le_of_not_lt seven_hundred x tt (order.number_of-finite x f) (order.T-of_not (lt seven_hundred x) a);
}

module _ (x : Float) (h : Reducible x) where
  pub reducible-finite : T (finite x)
  unfolding of_bits neg
  reducible-finite = order.between (neg seven_hundred) x seven_hundred tt tt h.low h.high

  pub quotient-low : T (le (neg limit) (mul binary64 x inverse_ln2))
  unfolding of_bits neg mul le
  quotient-low = order.le_trans (neg limit) (mul binary64 (neg seven_hundred) inverse_ln2) (mul binary64 x inverse_ln2) tt (mul_mono_left binary64 (neg seven_hundred) x inverse_ln2 tt reducible-finite tt tt h.low)

  pub quotient-high : T (le (mul binary64 x inverse_ln2) limit)
  unfolding of_bits neg mul le
  quotient-high = order.le_trans (mul binary64 x inverse_ln2) (mul binary64 seven_hundred inverse_ln2) limit (mul_mono_left binary64 x seven_hundred inverse_ln2 reducible-finite tt tt tt h.high) tt

  pub quotient-finite : T (finite (mul binary64 x inverse_ln2))
  unfolding of_bits neg
  quotient-finite = order.between (neg limit) (mul binary64 x inverse_ln2) limit tt tt quotient-low quotient-high

  pub steps-step : Step (steps x)
  steps-step = rounded-step (mul binary64 x inverse_ln2) quotient-low quotient-high

-- ---- 2^k from its bits: the field is k + 1023

-- 1023
abbrev pub bias : Float
bias = of_bits binary64 0x408f_f800_0000_0000

bias_val : HasValue bias false 1023 1
unfolding of_bits
bias_val = (refl, refl)

field-sum : (i : ℕ) → i ≤ 2020 → add binary64 (of_int binary64 (minus i 1010)) bias ≡ of_int binary64 (pos (i + 13))
unfolding of_int sum
field-sum i h =
    elim (gap i 1010) [
      | over c e ↦
          let g : c + 1023 ≡ i + 13 = omega arith in
          ap (λ (z : ℤ). add binary64 (of_int binary64 z) bias) (minus_pos i 1010 c e)
          ∙ add-whole binary64 (round binary64 false c 1) bias false c false 1023 (round_whole binary64 false c (omega arith)) bias_val
          ∙ ap (λ (n : ℕ). round binary64 false n 1) g
      | under c e ↦
          let g : 1023 - suc c ≡ i + 13 = omega arith in
          ap (λ (z : ℤ). add binary64 (of_int binary64 z) bias) (minus-neg i 1010 c e)
          ∙ add-whole binary64 (round binary64 true (suc c) 1) bias true (suc c) false 1023 (round_whole binary64 true (suc c) (omega arith)) bias_val
          ∙ (rw (lt-ltb (suc c) 1023 (omega arith)) (ap (λ (n : ℕ). round binary64 false n 1) g))
    ]

small : (n : ℕ) → n ≤ 2 ^ 53 → T (in_float binary64 (pos n))
unfolding in_float
small n h = le→leb n (2 ^ 53) h

small-neg : (n : ℕ) → n < 2 ^ 53 → T (in_float binary64 (negsuc n))
unfolding in_float
small-neg n h = lt→ltb n (2 ^ 53) h

exponent_of_lem : (i : ℕ) → i ≤ 2020 → to_signed 31 (of_int binary64 (minus i 1010)) ≡ minus i 1010
exponent_of_lem i h =
    elim (gap i 1010) [
      | over c e ↦ rw (minus_pos i 1010 c e) (positive_back binary64 31 c (small c (omega arith)) (omega arith)).1
      | under c e ↦ rw (minus-neg i 1010 c e) (negative_back binary64 31 c (small-neg c (omega arith)) (omega arith)).1
    ]

-- the code's cast of k + 1023 is exact, and the field with no digits is 2^k
pub field_casts : {k : Float} (s : Step k) → T (in_unsigned binary64 32 (add binary64 k bias)) × (to_unsigned 32 (add binary64 k bias) ≡ s.index + 13)
field_casts {k} s =
    let w = s.within in
    let e : add binary64 k bias ≡ of_int binary64 (pos (s.index + 13)) = ap (λ (z : Float). add binary64 z bias) s.same ∙ field-sum s.index w in
    subst (λ (z : Float). T (in_unsigned binary64 32 z) × (to_unsigned 32 z ≡ s.index + 13)) (sym e)
    (unsigned_back binary64 32 (s.index + 13) (small (s.index + 13) (omega arith)) (omega arith))

pub field-power : {k : Float} (s : Step k) → of_bits binary64 ((s.index + 13) * 2 ^ 52) ≡ power_of_two k
field-power {k} s =
    let w = s.within in
    let i = s.index in
    let b : (i + 13) * 2 ^ 52 ≡ suc (i + 12) * 2 ^ 52 + 0 = omega arith in
    ap (of_bits binary64) b
    ∙ power-bits (i + 12) (omega arith)
    ∙ ap (fin false 1) (minus_same (i + 12 + 52) 1074 i 1010 (omega arith) ∙ sym (exponent_of_lem i w) ∙ ap (to_signed 31) (sym s.same))
