-- `upwards` meets its contract, by the exact value that the exponent's field and the digits give. Assumes nothing.
use Prim.Native.Nat.{ℕ, ◌+◌, ◌-◌, ◌*◌, ◌/◌, ◌%◌, ◌^◌, ◌≤◌, ◌<◌}
use native.Mathlib.Nat.{div-eq_of_lt, div-eq_of_lt-le, div-le_self, le_trans, mul-pos, le_of_suc-le-suc, div-lt_iff_lt-mul, add_comm}
use native.Mathlib.Omega.{arith}
use mathlib.Core.Path.{◌≡◌, refl, sym, ap, ◌∙◌}
use mathlib.Core.Bool.{Bool, true, false, cond}
use borrow.Author.Tests.{leb-false, eqb-true, eqb-false, le-leb, lt-leb}
use lib.Dec.{T, eqb}
use lib.Pow.{pow_pos}
use lib.Ieee.{Float, binary64, fits, to_bits, of_bits, round}
use lib.Ieee.Scale.{finite}
use Rattle.floats.specs.Answers.{plus_zero, one}
use Rattle.floats.specs.Whole.{whole_of, ceiled}
use Rattle.floats.specs.laws.Cuts.{whole-nil, whole_pos}
use Rattle.floats.specs.laws.Whole as laws
use Rattle.floats.specs.laws.Whole.{ceiled-value, ceiled_self}
use Rattle.floats.proofs.Laws.{answers}
use Rattle.floats.proofs.Patterns.{sign_of, field_of, digits_of, low_value, mid-value, large-value}
use Rattle.floats.proofs.ceil.upwards.Goals as goal

-- ---- sizes below 1
whole-one : whole_of false 1 ≡ one
whole-one = whole_pos false 1 (omega arith) ∙ (unfold round in unfold of_bits in refl)

up-nil : (c : ℕ) → 0 < c → (0 + (c - 1)) / c ≡ 0
up-nil c C = div-eq_of_lt (omega arith)

up_one : (a c : ℕ) → 0 < a → a < c → (a + (c - 1)) / c ≡ 1
up_one a c A h = div-eq_of_lt-le c (omega arith) (omega arith)

-- where s is the sign and z says that the size a is 0
small : (s z : Bool) (a c : ℕ) → 0 < c → a < c → (z ≡ true → a ≡ 0) → (z ≡ false → s ≡ false → 0 < a) → cond s plus_zero (cond z plus_zero one) ≡ whole_of s (laws.upwards s a c)
small true z a c C h n k = sym (ap (whole_of true) (div-eq_of_lt h) ∙ whole-nil true)
small false true a c C h n k = sym (ap (λ (b : ℕ). whole_of false (laws.upwards false b c)) (n refl) ∙ ap (whole_of false) (up-nil c C) ∙ whole-nil false)
small false false a c C h n k = sym (ap (whole_of false) (up_one a c (k refl refl) h) ∙ whole-one)

no_bits : (b : ℕ) → b ≡ 0 → b % 9223372036854775808 / 4503599627370496 + b % 4503599627370496 ≡ 0
no_bits b e = rw e

some_bits : (b : ℕ) → (b ≡ 0 → ⊥) → b < 9223372036854775808 → 0 < b % 9223372036854775808 / 4503599627370496 + b % 4503599627370496
some_bits b n h = omega arith

-- and no whole number comes out above 2^53
capped : (a c : ℕ) → 0 < c → a < 9007199254740992 → (a + (c - 1)) / c ≤ 9007199254740992
capped a c C h = le_of_suc-le-suc ((div-lt_iff_lt-mul {x = a + (c - 1)} {y = 9007199254740993} C).1 (omega arith))

module _ (x : Float) (p : T (fits binary64 x)) (q : T (finite x)) where
  tiny : field_of x < 1023 → cond (sign_of x) plus_zero (cond (eqb (to_bits binary64 x) 0) plus_zero one) ≡ ceiled x
  tiny h =
      let l = low_value x p q 1022 (omega arith) in
      small (sign_of x) (eqb (to_bits binary64 x) 0) l.size (2 ^ 1074) (pow_pos 1074) l.small
      (λ e. l.none (no_bits (to_bits binary64 x) (eqb-true (to_bits binary64 x) 0 e)))
      (λ e f. l.some (some_bits (to_bits binary64 x) (eqb-false (to_bits binary64 x) 0 e) (leb-false 9223372036854775808 (to_bits binary64 x) f)))
      ∙ sym (ceiled-value x (sign_of x) l.size (2 ^ 1074) (pow_pos 1074) l.value)

  large : 1074 < field_of x → x ≡ ceiled x
  large h =
      sym (ceiled_self x (sign_of x) ((2 ^ 52 + digits_of x) * 2 ^ (field_of x - 1075)) p (mul-pos (omega arith) (pow_pos (field_of x - 1075))) (large-value x p q h))

  mid : (s : Bool) → sign_of x ≡ s → 1023 ≤ field_of x → field_of x ≤ 1074 → ceiled x ≡ whole_of s (laws.upwards s (digits_of x + 4503599627370496) (2 ^ (1075 - field_of x)))
  mid s e h k =
      ceiled-value x (sign_of x) (2 ^ 52 + digits_of x) (2 ^ (1075 - field_of x)) (pow_pos (1075 - field_of x)) (mid-value x p q (omega arith) k)
      ∙ ap (λ (z : ℕ). whole_of (sign_of x) (laws.upwards (sign_of x) z (2 ^ (1075 - field_of x)))) (add_comm (2 ^ 52) (digits_of x))
      ∙ ap (λ (b : Bool). whole_of b (laws.upwards b (digits_of x + 4503599627370496) (2 ^ (1075 - field_of x)))) e

pub float_to_bits-bits : goal.float_to_bits-bits
float_to_bits-bits c = search answers

pub small_up-requires : goal.small_up-requires
small_up-requires c = search answers

pub returns-then-field-lt1023 : goal.returns-then-field-lt1023
returns-then-field-lt1023 c = c.small_up.ensures ∙ tiny c.args.x (search answers) c.requires (omega arith)

pub returns-then-field-gt1074 : goal.returns-then-field-gt1074
returns-then-field-gt1074 c = large c.args.x (search answers) c.requires (omega arith)

pub overflow_add-digits : goal.overflow_add-digits
overflow_add-digits c = search answers

pub overflow_sub-places : goal.overflow_sub-places
overflow_sub-places c = search answers

pub overflow_shr-digits : goal.overflow_shr-digits
overflow_shr-digits c = search answers

pub signed-requires : goal.signed-requires
signed-requires c = le_trans (div-le_self _ _) (omega arith)

pub returns-then-bits-ge-SIGN_BIT : goal.returns-then-bits-ge-SIGN_BIT
returns-then-bits-ge-SIGN_BIT c =
    c.signed.ensures
    ∙ sym (mid c.args.x (search answers) c.requires true (le-leb _ _ c.if-bits-ge-SIGN_BIT.true) (omega arith) (omega arith))

pub part_up-requires : goal.part_up-requires
part_up-requires c = search answers

pub signed-requires-2 : goal.signed-requires-2
signed-requires-2 c = rw c.part_up.ensures (capped _ _ (pow_pos _) (omega arith))

pub returns : goal.returns
returns c =
    c.signed-2.ensures ∙ ap (whole_of false) c.part_up.ensures
    ∙ sym (mid c.args.x (search answers) c.requires false (lt-leb _ _ c.if-bits-ge-SIGN_BIT.false) (omega arith) (omega arith))
