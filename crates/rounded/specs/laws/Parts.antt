-- The parts that mul_add works with: a number's sign, its 63 digits and its place.
use Rattle.std.specs.Prelude.{◌≡◌, refl, ℕ, ◌*◌, ◌%◌, ◌^◌, ◌≤◌, ◌<◌, Bool, Float}
use Rattle.std.specs.Float.Ieee.Positive.{num, den}
use Rattle.rounded.specs.Fused.{is_negative}

-- A part is in units of 2^-middle; the product of two is in units of 2^-(middle + middle).
unfoldable pub middle : ℕ
middle = 1136

pub middle_is : middle ≡ 1136
unfolding middle
middle_is = refl

-- 63 digits, the last one 0, or none.
pub record Digits (d : ℕ) : Type 0 where
  pub full : 1 ≤ d → 4611686018427387904 ≤ d
  pub short : d < 9223372036854775808
  pub even : d % 2 ≡ 0

-- 63 digits and their place.
pub record Ample (d place : ℕ) : Type 0 where
  pub full : 4611686018427387904 ≤ d
  pub short : d < 9223372036854775808
  pub even : d % 2 ≡ 0
  pub within : place ≤ 2107

-- x is digits * 2^place / 2^middle with the sign.
pub record Parted (x : Float) (neg : Bool) (digits place : ℕ) : Type 0 where
  pub sign : is_negative x ≡ neg
  pub value : num x * 2 ^ middle ≡ digits * 2 ^ place * den x
  pub shape : Digits digits
  pub within : place ≤ 2107

-- A product of two such numbers, and an addend's digits in the upper half of its 128.
pub record Joinable (product addend : ℕ) : Type 0 where
  pub least : 21267647932558653966460912964485513216 ≤ product
  pub most : product < 85070591730234615865843651857942052864
  pub even : product % 2 ≡ 0
  pub full : 85070591730234615865843651857942052864 ≤ addend
  pub short : addend < 170141183460469231731687303715884105728
  pub upper : addend % 18446744073709551616 ≡ 0
