-- What a finite result says of the operands: an operation on a float that isn't finite has no finite result, and no finite quotient has a divisor 0. Assumes nothing.
use Rattle.std.specs.Prelude.{◌≡◌, Bool, true, false, cond, ℕ, zero, suc, ◌*◌, ◌<◌, ℤ, T, eqb, Float}
use Rattle.std.proofs.Common.{mul-pos, zero-lt-suc, arith}
use Rattle.std.proofs.Math.Dec.{not_T}
use Rattle.std.specs.Float.{nan, inf, fin, Format}
use Rattle.std.specs.Float.Ieee.{up, unlike, add, mul, div, lt, le, of_bits}
use Rattle.std.specs.Float.Ieee.Fits.{up_pos}
use Rattle.std.specs.Float.Ieee.Scale.{finite}
use Rattle.floats.specs.Answers.{plus_zero}
use Rattle.floats.specs.laws.Order.{lt_of_not_le}
use Rattle.floats.specs.laws.Propagation.{add_left, add_right, mul_left, mul_right, finite-clash, finite-back}
use Rattle.floats.specs.laws.Exactly.{pl_of_below, mi_of_above}

-- nan and the infinities are not finite
pub infinite : (b s : Bool) → T (finite (cond b nan (inf s))) → ⊥
infinite true s h = h
infinite false s h = h

module _ (f : Format) (x y : Float) where
  pub finite_of_add : T (finite (add f x y)) → T (finite x) × T (finite y)
  finite_of_add h = (
    finite-back x (λ b. finite-clash (add f x y) h (add_left f x y b)),
    finite-back y (λ b. finite-clash (add f x y) h (add_right f x y b)),
  )

  pub finite_of_mul : T (finite (mul f x y)) → T (finite x) × T (finite y)
  finite_of_mul h = (
    finite-back x (λ b. finite-clash (mul f x y) h (mul_left f x y b)),
    finite-back y (λ b. finite-clash (mul f x y) h (mul_right f x y b)),
  )

-- ---- a quotient
-- nothing is divided by 0
pub not_by_zero : (f : Format) (x : Float) (t : Bool) (d : ℤ) → T (finite (div f x (fin t 0 d))) → ⊥
unfolding div
not_by_zero f nan t d h = h
not_by_zero f (inf s) t d h = h
not_by_zero f (fin s m e) t d h = infinite (eqb m 0) (unlike s t) h

nonzero : (n : ℕ) (d : ℤ) → suc n * up d ≡ 0 → ⊥
nonzero n d e = let p : 0 < suc n * up d = mul-pos (zero-lt-suc n) (up_pos d) in omega arith

-- a divisor that is not below 0 is above 0
pub positive_of-div : (f : Format) (x y : Float) → T (finite y) → T (le plus_zero y) → T (finite (div f x y)) → T (lt plus_zero y)
unfolding of_bits
positive_of-div f x nan p h k = absurd p
positive_of-div f x (inf s) p h k = absurd p
positive_of-div f x (fin s zero d) p h k = absurd (not_by_zero f x s d k)
positive_of-div f x (fin true (suc n) d) p h k = absurd (nonzero n d (mi_of_above (fin true (suc n) d) tt h))
positive_of-div f x (fin false (suc n) d) p h k =
    lt_of_not_le plus_zero (fin false (suc n) d) tt tt
    (not_T (le (fin false (suc n) d) plus_zero) λ (l : T (le (fin false (suc n) d) plus_zero)).
    nonzero n d (pl_of_below (fin false (suc n) d) tt l))
