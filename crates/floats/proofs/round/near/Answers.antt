-- `near` meets its contract, by the exact value that the exponent's field and the digits give. Assumes nothing.
use Prim.Native.Nat.{ℕ, ◌+◌, ◌-◌, ◌*◌, ◌/◌, ◌^◌, ◌≤◌, ◌<◌}
use native.Mathlib.Nat.{div-eq_of_lt, mul-pos, le_of_suc-le-suc, div-lt_iff_lt-mul, add_comm}
use native.Mathlib.Omega.{arith}
use mathlib.Core.Path.{◌≡◌, refl, sym, ap, ◌∙◌}
use lib.Dec.{T}
use lib.Pow.{pow_pos}
use lib.Ieee.{Float, binary64, fits}
use lib.Ieee.Scale.{finite}
use Rattle.floats.specs.Answers.{plus_zero}
use Rattle.floats.specs.Whole.{whole_of, rounded}
use Rattle.floats.specs.laws.Cuts.{whole-nil}
use Rattle.floats.specs.laws.Whole.{nearest, rounded-value, rounded_self}
use Rattle.floats.proofs.Laws.{answers}
use Rattle.floats.proofs.Patterns.{sign_of, field_of, digits_of, low_value, mid-value, large-value}
use Rattle.floats.proofs.round.near.Goals as goal

-- less than a half goes to 0
less : (a p c : ℕ) → a < p → c ≡ 2 * p → (2 * a + c) / (2 * c) ≡ 0
less a p c h e = div-eq_of_lt (omega arith)

-- and no whole number comes out above 2^53
capped : (a c : ℕ) → 0 < c → a < 9007199254740992 → (2 * a + c) / (2 * c) ≤ 9007199254740992
capped a c C h = le_of_suc-le-suc ((div-lt_iff_lt-mul {x = 2 * a + c} {y = 9007199254740993} (mul-pos {m = 2} (omega arith) C)).1 (omega arith))

module _ (x : Float) (p : T (fits binary64 x)) (q : T (finite x)) where
  tiny : field_of x < 1022 → plus_zero ≡ rounded x
  tiny h =
      let l = low_value x p q 1021 (omega arith) in
      sym (rounded-value x (sign_of x) l.size (2 ^ 1074) (pow_pos 1074) l.value ∙ ap (whole_of (sign_of x)) (less l.size (2 ^ 1073) (2 ^ 1074) l.small refl) ∙ whole-nil (sign_of x))

  large : 1074 < field_of x → x ≡ rounded x
  large h =
      sym (rounded_self x (sign_of x) ((2 ^ 52 + digits_of x) * 2 ^ (field_of x - 1075)) p (mul-pos (omega arith) (pow_pos (field_of x - 1075))) (large-value x p q h))

  mid : 1022 ≤ field_of x → field_of x ≤ 1074 → rounded x ≡ whole_of (sign_of x) (nearest (sign_of x) (digits_of x + 4503599627370496) (2 ^ (1075 - field_of x)))
  mid h k =
      rounded-value x (sign_of x) (2 ^ 52 + digits_of x) (2 ^ (1075 - field_of x)) (pow_pos (1075 - field_of x)) (mid-value x p q (omega arith) k)
      ∙ ap (λ (z : ℕ). whole_of (sign_of x) (nearest (sign_of x) z (2 ^ (1075 - field_of x)))) (add_comm (2 ^ 52) (digits_of x))

pub float_to_bits-bits : goal.float_to_bits-bits
float_to_bits-bits c = search answers

pub returns-then-field-lt1022 : goal.returns-then-field-lt1022
returns-then-field-lt1022 c = tiny c.args.x (search answers) c.requires (omega arith)

pub returns-then-field-gt1074 : goal.returns-then-field-gt1074
returns-then-field-gt1074 c = large c.args.x (search answers) c.requires (omega arith)

pub overflow_add-digits : goal.overflow_add-digits
overflow_add-digits c = search answers

pub overflow_sub-field : goal.overflow_sub-field
overflow_sub-field c = search answers

pub half_up-q-requires : goal.half_up-q-requires
half_up-q-requires c = search answers

pub signed-requires : goal.signed-requires
signed-requires c = rw c.half_up-q.ensures (capped _ _ (pow_pos _) (omega arith))

pub returns : goal.returns
returns c =
    c.signed.ensures ∙ ap (whole_of _) c.half_up-q.ensures
    ∙ sym (mid c.args.x (search answers) c.requires (omega arith) (omega arith))
