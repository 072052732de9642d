-- The double that an exponent's field and the digits below it stand for, the sign bit clear. Assumes nothing.
use Rattle.std.specs.Prelude.{ℕ, suc, ◌+◌, ◌*◌, ◌/◌, ◌%◌, ◌^◌, ◌<◌, ◌≡◌, false, not, T}
use Rattle.std.proofs.Common.{◌∙◌, arith, ne_eqb}
use Rattle.std.proofs.lemmas.Bool.{lt-leb}
use Rattle.std.specs.Float.{fin, binary64}
use Rattle.std.specs.Float.Ieee.{minus, odd, of_fields, of_bits, nan_bits}

fields-normal : (j t : ℕ) → j < 2046 → of_fields binary64 false (suc j) t ≡ odd 53 false (2 ^ 52 + t) j 1074
unfolding of_fields
fields-normal j t h = rw (ne_eqb (suc j) 2047 (λ e. omega arith))

-- the field suc j and the digits t
pub normal-bits : (j t : ℕ) → j < 2046 → t < 2 ^ 52 → of_bits binary64 (suc j * 2 ^ 52 + t) ≡ odd 53 false (2 ^ 52 + t) j 1074
unfolding of_bits
normal-bits j t h l =
    let b = suc j * 2 ^ 52 + t in
    let f : b % 2 ^ 63 / 2 ^ 52 ≡ suc j = omega arith in
    let d : b % 2 ^ 52 ≡ t = omega arith in
    (λ i. of_fields binary64 (lt-leb (2 ^ 63) b (omega arith) i) (f i) (d i)) ∙ fields-normal j t h

-- no digits: 2^(j - 1022)
pub power-bits : (j : ℕ) → j < 2046 → of_bits binary64 (suc j * 2 ^ 52 + 0) ≡ fin false 1 (minus (j + 52) 1074)
unfolding odd
power-bits j h = normal-bits j 0 h (omega arith)

-- bits below those of the infinity are no NaN's
pub no_nan : (b : ℕ) → b < 2047 * 2 ^ 52 → T (not (nan_bits binary64 b))
unfolding nan_bits
no_nan b h = let e : b % 2 ^ 63 / 2 ^ 52 ≡ 2047 → ⊥ = λ p. omega arith in rw (ne_eqb (b % 2 ^ 63 / 2 ^ 52) 2047 e) tt
