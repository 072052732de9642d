-- ln's m and k of a double, from the exponent's field j + 1 and the digits t of its bits: m has the same digits, and the field 1023 or, from 1.5 on, 1022. Assumes nothing.
use Prim.Native.Nat.{ℕ, zero, suc, ◌+◌, ◌-◌, ◌*◌, ◌/◌, ◌%◌, ◌^◌, ◌≤◌, ◌<◌, zero-le}
use Rattle.std.specs.Prelude.{◌≡◌, refl, Bool, true, T, leb, ℤ, negsuc, ◌+ℤ◌, Float}
use Rattle.std.proofs.Math.Path.{sym, ap}
use Rattle.std.proofs.Common.{◌∙◌, subst, le_trans, le_of_eq, le_of_suc-le-suc, lt_irrefl, zero-mul, one-mul, lt_of_lt_of_le, lt_of_not-le, not-le_of_lt, le_antisymm, mul_assoc, mul-one, mul-le-mul, mul-le-mul_right, le-leb, lt-ltb, le-ltb, lit<, pow-add, pow_pos, pow_mono}
use Rattle.std.proofs.Math.Bool.{false, cond}
use Rattle.std.proofs.Math.Nat.{pow-succ', le_of_mul-le-mul_right, lt_of_mul-lt-mul_right}
use native.Mathlib.Omega.{arith}
use Rattle.std.proofs.lemmas.Bool.{lt-leb}
use Rattle.std.specs.Int.Count.{count_trailing_zeros}
use Rattle.std.proofs.Math.IntN.{pos, sub_ℕ}
use Rattle.std.specs.Float.{fin, binary64}
use Rattle.std.specs.Float.Ieee.{minus, size, odd, round, sum, add, sub, neg, of_int, of_bits, le}
use Rattle.std.specs.Float.Ieee.Digits.{Equals, odd_val, size-lt, size-le}
use Rattle.std.specs.Float.Ieee.Exact.{odd_sign}
use Rattle.std.specs.Float.Ieee.Order.{le_of_values}
use Rattle.std.specs.Float.Ieee.Scale.{finite}
use Rattle.std.specs.Float.Ieee.Back.{round_whole}
use Rattle.floats.specs.Answers.{one, two, plus_zero}
use Rattle.elementary.specs.Logarithm.{scale, fraction, exponent}
use Rattle.floats.specs.laws.Order as order
use Rattle.floats.specs.laws.Arithmetic.{add_mono_left}
use Rattle.floats.specs.laws.Integers.{Gap, over, under, gap, minus_pos, minus-neg, minus_same, add-whole}
use Rattle.floats.specs.laws.Patterns.{normal-bits}
use Rattle.elementary.specs.laws.Normal.{Normal}
use Rattle.elementary.specs.laws.Steps.{bias}

-- ---- `odd` of a number above 0, and its closing zeros

odd_is : (d : ℕ) (s : Bool) (q k l : ℕ) → 0 < q → odd d s q k l ≡ fin s (q / 2 ^ count_trailing_zeros d q) (minus (k + count_trailing_zeros d q) l)
unfolding odd
odd_is d s zero k l h = absurd (not-le_of_lt h (omega arith))
odd_is d s (suc q) k l h = refl

zeros-out : (d q : ℕ) → 0 < q → q / 2 ^ count_trailing_zeros d q * 2 ^ count_trailing_zeros d q ≡ q
zeros-out d q h =
    let z = count_trailing_zeros d q in
    let v = subst (λ (y : Float). Equals y (q * 2 ^ 0) (2 ^ 0)) (odd_is d false q 0 0 h ∙ ap (fin false (q / 2 ^ z)) (minus_pos (0 + z) 0 z refl)) (odd_val d false q 0 0) in
    sym (mul-one (q / 2 ^ z * 2 ^ z)) ∙ v ∙ mul-one (q * 1) ∙ mul-one q

few-zeros : (n z q : ℕ) → n * 2 ^ z ≡ q → 0 < q → q < 2 ^ 53 → z ≤ 52
few-zeros zero z q e h l = absurd (lt_irrefl 0 (subst (λ (x : ℕ). 0 < x) (sym e ∙ zero-mul (2 ^ z)) h))
few-zeros (suc n) z q e h l =
    let p : 2 ^ z ≤ q = le_trans (le_of_eq (sym (one-mul (2 ^ z)))) (le_trans (mul-le-mul_right (2 ^ z) (omega arith)) (le_of_eq e)) in
    le_of_suc-le-suc (lt_of_not-le (λ (g : 53 ≤ z). not-le_of_lt l (le_trans (pow_mono g) p)))

-- ---- how many digits, and the scale

size_is : (n j : ℕ) → 2 ^ j ≤ n → n < 2 ^ suc j → size n ≡ suc j
size_is n j a b = le_antisymm (size-le n (suc j) b) (lt_of_not-le (λ (g : size n ≤ j). not-le_of_lt (lt_of_lt_of_le (size-lt n) (pow_mono g)) a))

-- n has c + 1 digits, and with z zeros more it is 2^52 + t
module _ (n c z t : ℕ) (e : n * 2 ^ z ≡ 2 ^ 52 + t) (l : t < 2 ^ 52) (g : c + z ≡ 52) where
  widened : (a : ℕ) → a * 2 ^ c * 2 ^ z ≡ a * 2 ^ 52
  widened a = mul_assoc a (2 ^ c) (2 ^ z) ∙ ap (λ (x : ℕ). a * x) (sym (pow-add 2 c z) ∙ ap (λ (x : ℕ). 2 ^ x) g)

  doubled : 2 * n * 2 ^ z ≡ 2 * (2 ^ 52 + t)
  doubled = mul_assoc 2 n (2 ^ z) ∙ ap (λ (x : ℕ). 2 * x) e

  digits : size n ≡ suc c
  digits =
      size_is n c
      (subst (λ (x : ℕ). x ≤ n) (one-mul (2 ^ c)) (le_of_mul-le-mul_right (let w = widened 1 in omega arith) (pow_pos z)))
      (subst (λ (x : ℕ). n < x) (sym (pow-succ' 2 c)) (lt_of_mul-lt-mul_right (2 ^ z) (let w = widened 2 in omega arith)))

  scale_is : scale n ≡ c + t / 2 ^ 51
  unfolding scale
  scale_is =
      let o : suc c - 1 ≡ c = omega arith in
      ap (λ (s : ℕ). cond (leb (3 * 2 ^ (s - 1)) (2 * n)) s (s - 1)) digits
      ∙ ap (λ (s : ℕ). cond (leb (3 * 2 ^ s) (2 * n)) (suc c) s) o
      ∙ elim (gap t (2 ^ 51)) [
        | over d h ↦
            let k : 3 * 2 ^ c ≤ 2 * n = le_of_mul-le-mul_right (let w = widened 3 in let v = doubled in omega arith) (pow_pos z) in
            let r : suc c ≡ c + t / 2 ^ 51 = omega arith in
            ap (λ (b : Bool). cond b (suc c) c) (le-leb (3 * 2 ^ c) (2 * n) k) ∙ r
        | under d h ↦
            let k : 2 * n < 3 * 2 ^ c = lt_of_mul-lt-mul_right (2 ^ z) (let w = widened 3 in let v = doubled in omega arith) in
            let r : c ≡ c + t / 2 ^ 51 = omega arith in
            ap (λ (b : Bool). cond b (suc c) c) (lt-leb (3 * 2 ^ c) (2 * n) k) ∙ r
      ]

-- ---- m and k

minus_plus : (a b c : ℕ) → minus a b +ℤ pos c ≡ minus (a + c) b
minus_plus a b c =
    elim (gap a b) [
      | over d h ↦ ap (λ (y : ℤ). y +ℤ pos c) (minus_pos a b d h) ∙ sym (minus_pos (a + c) b (d + c) (omega arith))
      | under d h ↦ ap (λ (y : ℤ). y +ℤ pos c) (minus-neg a b d h) ∙ down_by d h (gap c (suc d))
    ]
  where
    down_by : (d : ℕ) → b ≡ a + suc d → Gap c (suc d) → sub_ℕ c (suc d) ≡ minus (a + c) b
    down_by d h (over e k) = let r : c - suc d ≡ e = omega arith in rw (le-ltb c (suc d) (omega arith)) (ap pos r ∙ sym (minus_pos (a + c) b e (omega arith)))
    down_by d h (under e k) = let r : suc d - suc c ≡ e = omega arith in rw (lt-ltb c (suc d) (omega arith)) (ap negsuc r ∙ sym (minus-neg (a + c) b e (omega arith)))

module _ (j t : ℕ) (l : t < 2 ^ 52) where
  zeros : ℕ
  zeros = count_trailing_zeros 53 (2 ^ 52 + t)

  odd_part : ℕ
  odd_part = (2 ^ 52 + t) / 2 ^ zeros

  scale-here : (zeros ≤ 52) × (scale odd_part ≡ 52 - zeros + t / 2 ^ 51)
  unfolding zeros odd_part
  scale-here =
      let e = zeros-out 53 (2 ^ 52 + t) (omega arith) in
      let w : zeros ≤ 52 = few-zeros odd_part zeros (2 ^ 52 + t) e (omega arith) (omega arith) in
      (w, scale_is odd_part (52 - zeros) zeros t e l (omega arith))

  pub fraction_is : fraction (odd 53 false (2 ^ 52 + t) j 1074) ≡ odd 53 false (2 ^ 52 + t) (1022 - t / 2 ^ 51) 1074
  unfolding fraction zeros odd_part
  fraction_is =
      let s = scale-here in
      let w = s.0 in
      ap fraction (odd_is 53 false (2 ^ 52 + t) j 1074 (omega arith))
      ∙ ap (fin false odd_part) (ap (minus 0) s.1 ∙ minus_same 0 (52 - zeros + t / 2 ^ 51) (1022 - t / 2 ^ 51 + zeros) 1074 (omega arith))
      ∙ sym (odd_is 53 false (2 ^ 52 + t) (1022 - t / 2 ^ 51) 1074 (omega arith))

  pub exponent_is : exponent (odd 53 false (2 ^ 52 + t) j 1074) ≡ of_int binary64 (minus (suc j + t / 2 ^ 51) 1023)
  unfolding exponent zeros odd_part
  exponent_is =
      let s = scale-here in
      let w = s.0 in
      ap exponent (odd_is 53 false (2 ^ 52 + t) j 1074 (omega arith))
      ∙ ap (of_int binary64)
      (ap (λ (x : ℕ). minus (j + zeros) 1074 +ℤ pos x) s.1
      ∙ minus_plus (j + zeros) 1074 (52 - zeros + t / 2 ^ 51)
      ∙ minus_same (j + zeros + (52 - zeros + t / 2 ^ 51)) 1074 (suc j + t / 2 ^ 51) 1023 (omega arith))

-- k as the code works it out: the field, one more from 1.5 on, less 1023
pub less_bias : (a : ℕ) → a ≤ 2 ^ 53 → sub binary64 (of_int binary64 (pos a)) bias ≡ of_int binary64 (minus a 1023)
unfolding sub neg of_int of_bits sum
less_bias a h =
    add-whole binary64 (round binary64 false a 1) (neg bias) false a true 1023 (round_whole binary64 false a h) (refl, refl)
    ∙ elim (gap a 1023) [
      | over c e ↦ let r : a - 1023 ≡ c = omega arith in
          rw (le-ltb a 1023 (omega arith)) (ap (λ (n : ℕ). round binary64 false n 1) r ∙ ap (of_int binary64) (sym (minus_pos a 1023 c e)))
      | under c e ↦ let r : 1023 - a ≡ suc c = omega arith in
          rw (lt-ltb a 1023 (omega arith)) (ap (λ (n : ℕ). round binary64 true n 1) r ∙ ap (of_int binary64) (sym (minus-neg a 1023 c e)))
    ]

-- m + 1 is at most 3
pub ratio-finite : (t k : ℕ) → t < 2 ^ 52 → k ≤ 1022 → T (finite (add binary64 (odd 53 false (2 ^ 52 + t) k 1074) one))
unfolding of_bits add
ratio-finite t k l h =
    let m = odd 53 false (2 ^ 52 + t) k 1074 in
    let v = odd_sign 53 false (2 ^ 52 + t) k 1074 in
    let a : T (le plus_zero m) = le_of_values plus_zero m 0 1 ((2 ^ 52 + t) * 2 ^ k) (2 ^ 1074) (lit< tt) (pow_pos 1074) (refl, refl) v zero-le in
    let b : T (le m two) = le_of_values m two ((2 ^ 52 + t) * 2 ^ k) (2 ^ 1074) 2 1 (pow_pos 1074) (lit< tt) v (refl, refl)
    (le_trans (le_of_eq (mul-one ((2 ^ 52 + t) * 2 ^ k))) (let c : 2 ^ 52 + t ≤ 2 ^ 53 = omega arith in mul-le-mul c (pow_mono h))) in
    let f : T (finite m) = order.between plus_zero m two tt tt a b in
    order.between (add binary64 plus_zero one) (add binary64 m one) (add binary64 two one) tt tt
    (add_mono_left binary64 plus_zero m one tt f tt a)
    (add_mono_left binary64 m two one f tt tt b)

-- ---- all of it, of the bits b of a normal double

abbrev pub half_up : ℕ → ℕ
half_up b = b % 2 ^ 52 / 2 ^ 51

module _ (b : ℕ) (n : Normal b) where
  whole-bits : of_bits binary64 b ≡ odd 53 false (2 ^ 52 + b % 2 ^ 52) (b / 2 ^ 52 - 1) 1074
  whole-bits =
      let e : b ≡ suc (b / 2 ^ 52 - 1) * 2 ^ 52 + b % 2 ^ 52 = omega arith in
      ap (of_bits binary64) e ∙ normal-bits (b / 2 ^ 52 - 1) (b % 2 ^ 52) (omega arith) (omega arith)

  pub fraction-bits : fraction (of_bits binary64 b) ≡ of_bits binary64 ((1023 - half_up b) * 2 ^ 52 + b % 2 ^ 52)
  fraction-bits =
      let t = b % 2 ^ 52 in
      let l : t < 2 ^ 52 = omega arith in
      let e : suc (1022 - half_up b) * 2 ^ 52 + t ≡ (1023 - half_up b) * 2 ^ 52 + t = omega arith in
      ap fraction whole-bits ∙ fraction_is (b / 2 ^ 52 - 1) t l ∙ sym (normal-bits (1022 - half_up b) t (omega arith) l) ∙ ap (of_bits binary64) e

  pub exponent-bits : exponent (of_bits binary64 b) ≡ sub binary64 (of_int binary64 (pos (b / 2 ^ 52 + half_up b))) bias
  exponent-bits =
      let l : b % 2 ^ 52 < 2 ^ 52 = omega arith in
      let e : suc (b / 2 ^ 52 - 1) + half_up b ≡ b / 2 ^ 52 + half_up b = omega arith in
      ap exponent whole-bits
      ∙ exponent_is (b / 2 ^ 52 - 1) (b % 2 ^ 52) l
      ∙ ap (λ (n : ℕ). of_int binary64 (minus n 1023)) e
      ∙ sym (less_bias (b / 2 ^ 52 + half_up b) (omega arith))

  pub fraction-ratio : T (finite (add binary64 (fraction (of_bits binary64 b)) one))
  fraction-ratio =
      let l : b % 2 ^ 52 < 2 ^ 52 = omega arith in
      rw (whole-bits, fraction_is (b / 2 ^ 52 - 1) (b % 2 ^ 52) l) (ratio-finite (b % 2 ^ 52) (1022 - half_up b) l (omega arith))
