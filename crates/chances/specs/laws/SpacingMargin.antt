-- What the new spacing and the two divisors are beside the variance: whole numbers only, in units of the smallest double; U units are 1.
-- X is three times the variance, H the new spacing, D the divisor of the square, S the divisor of the error. Assumes nothing.
use Rattle.std.specs.Prelude.{ℕ, ◌+◌, ◌*◌, ◌≤◌, ◌<◌}
use Rattle.std.proofs.Common.{mul-le-mul, mul-le-mul_right, le_of_mul-le-mul_right, arith}
use Rattle.rounded.specs.laws.Root.{IsRoot, root-most}
use Rattle.rounded.specs.laws.RootValue.{Twice, whole, cut}
use Rattle.chances.specs.laws.Near.{Near, rough_over, rough_under}

-- What the probabilities need of them.
pub record Divisors (U X D H S : ℕ) : Type 0 where
  pub large : 1000000 ≤ X
  pub over : 1000 * (X * U) ≤ 1003 * (H * H)
  pub under : 1000 * (H * H) ≤ 1003 * (X * U)
  pub divisor-under : 1000 * D ≤ 2003 * X
  pub divisor-over : 1997 * X ≤ 1000 * D
  pub scale-over : 1998 * H ≤ 1000 * S
  pub scale-positive : 0 < S

-- ---- the new spacing: H is the root of X, rounded; w is twice that root, r its whole part

pub product-large : (U X : ℕ) → 1099511627776 ≤ U → 1000000 ≤ X → 1099511627776 ≤ X * U
product-large U X b x = omega (arith, mul-le-mul_right U x)

doubled_at : (r n w : ℕ) → Twice r n w → (2 * r ≤ w) × (w ≤ 2 * r + 1)
doubled_at r n w (whole e f) = (omega arith, omega arith)
doubled_at r n w (cut e f) = (omega arith, omega arith)

spacing-over : (r w H : ℕ) → 1000000 < r + 1 → 2 * r ≤ w → 1999 * w ≤ 2000 * (H * 2) + 2000 * 2 → 1998 * (r + 1) ≤ 2000 * H
spacing-over r w H l d n = omega arith

spacing-under : (r w H : ℕ) → 1000000 < r + 1 → w ≤ 2 * r + 1 → 2000 * (H * 2) ≤ 2001 * w + 2000 * 2 → 2000 * H ≤ 2002 * r
spacing-under r w H l d n = omega arith

square_over_at : (n r H : ℕ) → n < (r + 1) * (r + 1) → 1998 * (r + 1) ≤ 2000 * H → 1000 * n ≤ 1003 * (H * H)
square_over_at n r H h l = omega (arith, mul-le-mul l l)

square_under_at : (n r H : ℕ) → r * r ≤ n → 2000 * H ≤ 2002 * r → 1000 * (H * H) ≤ 1003 * n
square_under_at n r H h l = omega (arith, mul-le-mul l l)

module _ (n r w H : ℕ) (large : 1099511627776 ≤ n) (root : IsRoot r n) (twice : Twice r n w) (near : Near w 2 H) where
  root-large : 1000000 < r + 1
  root-large = root-most r 1000000 n root (omega arith)

  pub square-over : 1000 * n ≤ 1003 * (H * H)
  square-over = square_over_at n r H root.next (spacing-over r w H root-large (doubled_at r n w twice).0 (rough_under w 2 H near))

  pub square-under : 1000 * (H * H) ≤ 1003 * n
  square-under = square_under_at n r H root.within (spacing-under r w H root-large (doubled_at r n w twice).1 (rough_over w 2 H near))

-- ---- the divisor: D is twice X, both rounded from the variance

divisor_under_at : (n c x d : ℕ) → 1000000 * c ≤ x → 1999 * n ≤ 2000 * x + 2000 * c → 2000 * d ≤ 2001 * (2 * n) + 2000 * c → 1000 * d ≤ 2003 * x
divisor_under_at n c x d l h k = omega arith

divisor_over_at : (n c x d : ℕ) → 1000000 * c ≤ x → 2000 * x ≤ 2001 * n + 2000 * c → 1999 * (2 * n) ≤ 2000 * d + 2000 * c → 1997 * x ≤ 1000 * d
divisor_over_at n c x d l h k = omega arith

module _ (n c X D : ℕ) (pos : 0 < c) (large : 1000000 ≤ X) (x : Near n c X) (d : Near (2 * n) c D) where
  pub divisor-under : 1000 * D ≤ 2003 * X
  divisor-under = le_of_mul-le-mul_right {k = c} (regroup (divisor_under_at n c (X * c) (D * c) (mul-le-mul_right c large) (rough_under n c X x) (rough_over (2 * n) c D d))) pos
    where
      regroup : 1000 * (D * c) ≤ 2003 * (X * c) → 1000 * D * c ≤ 2003 * X * c
      regroup h = omega arith

  pub divisor-over : 1997 * X ≤ 1000 * D
  divisor-over = le_of_mul-le-mul_right {k = c} (regroup (divisor_over_at n c (X * c) (D * c) (mul-le-mul_right c large) (rough_over n c X x) (rough_under (2 * n) c D d))) pos
    where
      regroup : 1997 * (X * c) ≤ 1000 * (D * c) → 1997 * X * c ≤ 1000 * D * c
      regroup h = omega arith

-- ---- the divisor of the error: twice the new spacing

pub scale-over : (H S : ℕ) → 1000000 ≤ H → Near (H * 2) 1 S → (1998 * H ≤ 1000 * S) × (0 < S)
scale-over H S l n = let h = rough_under (H * 2) 1 S n in go h
  where
    go : 1999 * (H * 2) ≤ 2000 * (S * 1) + 2000 * 1 → (1998 * H ≤ 1000 * S) × (0 < S)
    go h = (omega arith, omega arith)
