-- The root of a number by its digits and their place: what `root_of` hands to `pack` is the root.
-- Assumes nothing.
use mathlib.Core.Path.{◌≡◌, sym, ap, ◌∙◌, subst}
use mathlib.Core.Bool.{Bool, false}
use Prim.Native.Nat.{ℕ, ◌+◌, ◌*◌, ◌%◌, ◌^◌, ◌≤◌, ◌<◌}
use native.Mathlib.Nat.{lt_of_lt_of_le, le_trans, le_of_eq, mul-lt-mul_of_pos_right, mul-le-mul, mul-le-mul_left, mod-eq_of_lt, mul-pos, mul_assoc, mul_right_comm, eq_of_mul-eq-mul_right}
use native.Mathlib.Omega.{arith}
use lib.Dec.{T}
use lib.Pow.{pow-add, pow_pos, pow_mono}
use lib.Ieee.{Float, binary64, fits, round}
use lib.Ieee.Positive.{num, den, den_pos, positive, positive-finite, own_value, value_pos, first_pos}
use Rattle.rounded.specs.Root.{root_of}
use Rattle.rounded.specs.laws.Packing.{scale}
use Rattle.rounded.specs.laws.Parts.{Parted, middle}
use Rattle.rounded.specs.laws.RootValue.{Doubled, number, number_is, number-below}
use Rattle.rounded.specs.laws.Sized.{sized}
use Rattle.rounded.proofs.sqrt.Scaled.{root-packed}

-- moved up by 44 places or 45 in 128
module _ (d up : ℕ) (short : d < 9223372036854775808) (few : up ≤ 45) where
  held_under : d * 2 ^ up < 2 ^ 124
  held_under = lt_of_lt_of_le (mul-lt-mul_of_pos_right short (pow_pos up)) (le_trans (mul-le-mul_left 9223372036854775808 (pow_mono {i = up} {j = 45} few)) (omega arith))

  pub held_up : d * 2 ^ up % 340282366920938463463374607431768211456 ≡ d * 2 ^ up
  held_up = mod-eq_of_lt (lt_of_lt_of_le held_under (omega arith))

  pub held_small : d * 2 ^ up % 340282366920938463463374607431768211456 < 2 ^ 124
  held_small = subst (λ (z : ℕ). z < 2 ^ 124) (sym held_up) held_under

pub held_full : (d up : ℕ) → 4611686018427387904 ≤ d → d < 9223372036854775808 → up ≤ 45 → 44 ≤ up → 2 ^ 53 * 2 ^ 53 ≤ d * 2 ^ up % 340282366920938463463374607431768211456
held_full d up full short few some =
    le_trans (le_trans (omega arith) (mul-le-mul full (pow_mono {i = 44} {j = up} some))) (le_of_eq (sym (held_up d up short few)))

-- moved up by `up` places, and down again by an even number of them
shifted : (digits place up t : ℕ) → up + (t + t) ≡ place + 1012 → digits * 2 ^ up * (2 ^ t * 2 ^ t) ≡ digits * 2 ^ place * 2 ^ 1012
shifted digits place up t e =
    ap (λ (z : ℕ). digits * 2 ^ up * z) (sym (pow-add 2 t t))
    ∙ mul_assoc digits (2 ^ up) (2 ^ (t + t))
    ∙ ap (λ (z : ℕ). digits * z) (sym (pow-add 2 up (t + t)) ∙ ap (λ (z : ℕ). 2 ^ z) e ∙ pow-add 2 place 1012)
    ∙ sym (mul_assoc digits (2 ^ place) (2 ^ 1012))

module _ (x : Float) (neg : Bool) (digits place : ℕ) (p : T (positive x)) (h : Parted x neg digits place) where
  above : 0 < num x
  above = value_pos x (num x) (den x) p (den_pos x) (own_value x p)

  pub full : 4611686018427387904 ≤ digits
  full =
      h.shape.full
      (first_pos digits (2 ^ place)
      (first_pos (digits * 2 ^ place) (den x) (subst (λ (z : ℕ). 0 < z) h.value (mul-pos above (pow_pos middle)))))

  value : num x * 2 ^ 2148 ≡ digits * 2 ^ place * 2 ^ 1012 * den x
  unfolding middle
  value =
      sym (mul_assoc (num x) (2 ^ 1136) (2 ^ 1012))
      ∙ ap (λ (z : ℕ). z * 2 ^ 1012) h.value
      ∙ mul_right_comm (digits * 2 ^ place) (den x) (2 ^ 1012)

  module _ (up n t e w : ℕ) (fit : T (fits binary64 x)) (is : n ≡ digits * 2 ^ up) (even : up + (t + t) ≡ place + 1012) (last : t + 1261 ≡ e) (enough : 2 ^ 53 * 2 ^ 53 ≤ n) (d : Doubled n w) where
    whole : n * (2 ^ t * 2 ^ t) ≡ digits * 2 ^ place * 2 ^ 1012
    whole = ap (λ (z : ℕ). z * (2 ^ t * 2 ^ t)) is ∙ shifted digits place up t even

    whole-value : num x * 2 ^ 2148 ≡ n * (2 ^ t * 2 ^ t) * den x
    whole-value = value ∙ ap (λ (z : ℕ). z * den x) (sym whole)

    below : n * (2 ^ t * 2 ^ t) < 4 ^ 1586
    below =
        let s = sized x fit (positive-finite x p) in
        subst (λ (z : ℕ). z < 4 ^ 1586)
        (eq_of_mul-eq-mul_right (den x) (den_pos x) (number x s) (n * (2 ^ t * 2 ^ t)) (sym (number_is x s) ∙ whole-value))
        (number-below x s)

    pub packed : round binary64 false (w * 2 ^ e) (2 ^ scale) ≡ root_of x
    packed =
        ap (λ (z : ℕ). round binary64 false (w * 2 ^ z) (2 ^ scale)) (sym last)
        ∙ sym (root-packed x n t w above whole-value below enough d)
