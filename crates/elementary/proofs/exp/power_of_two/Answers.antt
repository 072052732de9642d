-- `exp::power_of_two` meets its contract: k + 1023 is a whole number from 13 to 2033, the exponent's field of 2^k. Assumes nothing.
use Prim.Native.Nat.{ℕ, ◌*◌, ◌^◌}
use mathlib.Core.Path.{◌≡◌, ap, ◌∙◌}
use native.Mathlib.Omega.{arith}
use lib.Ieee.{Float, binary64, add, of_bits, to_unsigned, is_nan}
use lib.Ieee.Bits.{nan_bits_is}
use Rattle.elementary.specs.Exponential.{power_of_two}
use Rattle.elementary.specs.laws.Steps.{Step, bias, field_casts, field-power}
use Rattle.elementary.proofs.exp.power_of_two.Goals as goal

bits : {k : Float} → Step k → of_bits binary64 (to_unsigned 32 (add binary64 k bias) * 2 ^ 52) ≡ power_of_two k
bits s = ap (λ (n : ℕ). of_bits binary64 (n * 2 ^ 52)) (field_casts s).1 ∙ field-power s

pub float_to_int-field : goal.float_to_int-field
float_to_int-field c = (field_casts c.requires).0

pub overflow_cast-result : goal.overflow_cast-result
overflow_cast-result c = let s = c.requires in omega (arith, s.within, (field_casts s).1)

pub overflow_mul-result : goal.overflow_mul-result
overflow_mul-result c = let s = c.requires in omega (arith, s.within, (field_casts s).1)

pub float_from_bits-result : goal.float_from_bits-result
unfolding is_nan
float_from_bits-result c = rw (nan_bits_is, bits c.requires) tt

pub returns : goal.returns
returns c = bits c.requires
