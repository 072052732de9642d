-- What is left of each probability before clamping: whole numbers only, in units of the smallest double; U units are 1.
-- X, H, D and S are those of `Divisors`; A is the error, Q its square, T the term, K the skew, each in size. Each step is a law of its own, over what it needs. Assumes nothing.
use Rattle.std.specs.Prelude.{◌≡◌, ℕ, ◌+◌, ◌-◌, ◌*◌, ◌≤◌, ◌<◌}
use Rattle.std.proofs.Common.{subst, inl, inr, le_of_lt, mul_comm, mul-le-mul, mul-le-mul_left, mul-le-mul_right, le_of_mul-le-mul_right, arith}
use Rattle.rounded.specs.laws.RoundToOdd.{ordered}
use Rattle.chances.specs.laws.Near.{Near, fine-under, rough_over, rough_under}
use Rattle.chances.specs.laws.SpacingMargin.{Divisors}

pub square_above : (a b : ℕ) → 2 * (a * b) ≤ a * a + b * b
square_above a b = elim (ordered a b) [ inl h ↦ go a (b - a) b (omega arith) | inr h ↦ back (go b (a - b) a (omega arith)) ]
  where
    go : (a d b : ℕ) → b ≡ a + d → 2 * (a * b) ≤ a * a + b * b
    go a d b e = rw e (omega arith)

    back : 2 * (b * a) ≤ b * b + a * a → 2 * (a * b) ≤ a * a + b * b
    back h = omega arith

-- upper bounds: with x for X × U, q for Q × U
square-high : (A H x : ℕ) → 1000 * A ≤ 501 * H → 1000 * (H * H) ≤ 1003 * x → 1000 * (A * A) ≤ 252 * x
square-high A H x a h = go (A * A) (H * H) (omega (arith, mul-le-mul a a)) h
  where
    go : (a h : ℕ) → 1000000 * a ≤ 251001 * h → 1000 * h ≤ 1003 * x → 1000 * a ≤ 252 * x
    go a h k l = omega arith

rounded-high : (a u x q : ℕ) → 1000 * a ≤ 252 * x → 1000000 * u ≤ x → 2000 * q ≤ 2001 * a + 2000 * u → 1000 * q ≤ 253 * x
rounded-high a u x q h l k = omega arith

-- t is T × D, d is D, and v is D × U
term_high_at : (t d q x v : ℕ) → 2000 * t ≤ 2001 * q + 2000 * d → 1000 * q ≤ 253 * x → 1997 * x ≤ 1000 * v → 1000000 * d ≤ v → 1000 * t ≤ 128 * v
term_high_at t d q x v h k l m = omega arith

-- k is K × S, s is S, v is S × U, a is A × U, h is H × U
skew_high_at : (k s v a h : ℕ) → 2000 * k ≤ 2001 * a + 2000 * s → 1000 * a ≤ 501 * h → 1998 * h ≤ 1000 * v → 1000000 * s ≤ v → 1000 * k ≤ 252 * v
skew_high_at k s v a h n b l m = omega arith

-- lower bounds
error_low_at : (k s a h : ℕ) → 2000 * k ≤ 2001 * a + 2000 * s → 1000000 * s ≤ k → 1998 * h ≤ 1000 * k → 1996 * h ≤ 1000 * a
error_low_at k s a h n l m = omega arith

rounded_low_at : (a u y q : ℕ) → y ≤ 17 * a → 1000000 * u ≤ y → 1999 * a ≤ 2000 * q + 2000 * u → 999 * a ≤ 1000 * q
rounded_low_at a u y q w l h = omega arith

product_low_at : (a x y q t d : ℕ) → y ≤ 17 * a → 1000000 * x ≤ y → 1000 * d ≤ 2003 * x → 999 * a ≤ 1000 * q → 1999 * q ≤ 2000 * t + 2000 * d → 998 * a ≤ 1000 * t
product_low_at a x y q t d w l m h n = go (omega arith)
  where
    go : 1000 * d ≤ 1 * a → 998 * a ≤ 1000 * t
    go e = omega arith

times : (c a b m n : ℕ) → c * a ≤ m * n → c * (a * b) ≤ m * (n * b)
times c a b m n h = omega (arith, mul-le-mul_right b h)

back : (c a b m n : ℕ) → 0 < b → c * (a * b) ≤ m * (n * b) → c * a ≤ m * n
back c a b m n p h = le_of_mul-le-mul_right {k = b} (omega arith) p

million_of : (U : ℕ) → 1000000000 ≤ U → 1000000 ≤ U
million_of U b = omega arith

positive_of : (n : ℕ) → 1000000 ≤ n → 0 < n
positive_of n h = omega arith

skew-million : (U K : ℕ) → 1000000000 ≤ U → U < 8 * K → 1000000 ≤ K
skew-million U K b f = omega arith

divisor-positive : (X D : ℕ) → 1000000 ≤ X → 1997 * X ≤ 1000 * D → 0 < D
divisor-positive X D l h = omega arith

module _ (U X D H S A Q T K : ℕ) (big : 1000000000 ≤ U) (v : Divisors U X D H S) (small : 1000 * A ≤ 501 * H) (q : Near (A * A) U Q) (t : Near (Q * U) D T) (k : Near (A * U) S K) where
  -- the term is at most 0.128
  pub term-high : 1000 * T ≤ 128 * U
  term-high =
      back 1000 T D 128 U (divisor-positive X D v.large v.divisor-over)
      (subst (λ (z : ℕ). 1000 * (T * D) ≤ 128 * z) (mul_comm D U)
      (term_high_at (T * D) D (Q * U) (X * U) (D * U) (rough_over (Q * U) D T t)
      (rounded-high (A * A) U (X * U) (Q * U) (square-high A H (X * U) small v.under) (mul-le-mul_right U v.large) (rough_over (A * A) U Q q))
      (times 1997 X U 1000 D v.divisor-over)
      (subst (λ (z : ℕ). 1000000 * D ≤ z) (mul_comm U D) (mul-le-mul_right D (million_of U big)))))

  -- the skew is at most 0.252
  pub skew-high : 1000 * K ≤ 252 * U
  skew-high =
      back 1000 K S 252 U v.scale-positive
      (subst (λ (z : ℕ). 1000 * (K * S) ≤ 252 * z) (mul_comm S U)
      (skew_high_at (K * S) S (S * U) (A * U) (H * U) (rough_over (A * U) S K k) (times 1000 A U 501 H small) (times 1998 H U 1000 S v.scale-over)
      (subst (λ (z : ℕ). 1000000 * S ≤ z) (mul_comm U S) (mul-le-mul_right S (million_of U big)))))

  module _ (far : U < 8 * K) where
    error-low : 1996 * (K * H) ≤ 1000 * (A * U)
    error-low =
        error_low_at (K * S) S (A * U) (K * H) (rough_over (A * U) S K k) (mul-le-mul_right S (skew-million U K big far))
        (go K H S v.scale-over)
      where
        go : (K H S : ℕ) → 1998 * H ≤ 1000 * S → 1998 * (K * H) ≤ 1000 * (K * S)
        go K H S h = omega (arith, mul-le-mul_left K h)

    -- A² U ≥ 3.972 K² X
    square-low : 3972 * (K * K * X) ≤ 1000 * (A * A * U)
    square-low = go K H A U X (positive_of U (million_of U big)) error-low v.over
      where
        go : (K H A U X : ℕ) → 0 < U → 1996 * (K * H) ≤ 1000 * (A * U) → 1000 * (X * U) ≤ 1003 * (H * H) → 3972 * (K * K * X) ≤ 1000 * (A * A * U)
        go K H A U X p e o = le_of_mul-le-mul_right {k = U} (omega (arith, mul-le-mul e e, mul-le-mul_right (K * K) o)) p

    square-wide : U * X ≤ 17 * (A * A)
    square-wide = go K A U X (positive_of U (million_of U big)) square-low (le_of_lt far)
      where
        go : (K A U X : ℕ) → 0 < U → 3972 * (K * K * X) ≤ 1000 * (A * A * U) → U ≤ 8 * K → U * X ≤ 17 * (A * A)
        go K A U X p s f = le_of_mul-le-mul_right {k = U} (omega (arith, mul-le-mul_right X (mul-le-mul f f))) p

    product-low : 998 * (A * A) ≤ 1000 * (T * D)
    product-low =
        product_low_at (A * A) X (U * X) (Q * U) (T * D) D square-wide (mul-le-mul_right X (million_of U big)) v.divisor-under
        (rounded_low_at (A * A) U (U * X) (Q * U) square-wide (subst (λ (z : ℕ). 1000000 * U ≤ z) (mul_comm X U) (mul-le-mul_right U v.large)) (rough_under (A * A) U Q q))
        (rough_under (Q * U) D T t)

    -- T U ≥ 1.979 K²
    term-square : 1979 * (K * K) ≤ 1000 * (T * U)
    term-square = go K A U X T D (positive_of X v.large) square-low product-low v.divisor-under
      where
        go : (K A U X T D : ℕ) → 0 < X → 3972 * (K * K * X) ≤ 1000 * (A * A * U) → 998 * (A * A) ≤ 1000 * (T * D) → 1000 * D ≤ 2003 * X → 1979 * (K * K) ≤ 1000 * (T * U)
        go K A U X T D p s h d = back 1979 (K * K) X 1000 (T * U) p (join (K * K * X) (A * A * U) (T * D * U) (T * U * X) s (first h) (second d))
          where
            first : 998 * (A * A) ≤ 1000 * (T * D) → 998 * (A * A * U) ≤ 1000 * (T * D * U)
            first h = times 998 (A * A) U 1000 (T * D) h

            second : 1000 * D ≤ 2003 * X → 1000 * (T * D * U) ≤ 2003 * (T * U * X)
            second d = omega (arith, mul-le-mul_left (T * U) d)

            join : (k a t x : ℕ) → 3972 * k ≤ 1000 * a → 998 * a ≤ 1000 * t → 1000 * t ≤ 2003 * x → 1979 * k ≤ 1000 * x
            join k a t x s h d = omega arith

    -- the tangent at a quarter
    pub term-low : 15832 * K ≤ 16000 * T + 1979 * U
    term-low = go K T U (positive_of U (million_of U big)) term-square
      where
        go : (K T U : ℕ) → 0 < U → 1979 * (K * K) ≤ 1000 * (T * U) → 15832 * K ≤ 16000 * T + 1979 * U
        go K T U p s = le_of_mul-le-mul_right {k = U} (omega (arith, square_above (4 * K) U)) p

-- ---- a sixth and the term, less the skew: Z is a sixth, R the rounded sum

sum_low : (U Z T R : ℕ) → 1000000000 ≤ U → 1000 * Z ≤ 167 * U → 1000 * T ≤ 128 * U → 8589934592 * (Z + T) ≤ 8589934592 * (R * 1) + (Z + T) + 8589934592 * 1 → 1000000 * (Z + T) ≤ 1000000 * R + U
sum_low U Z T R b z t n = go (Z + T) R U b (omega arith) n
  where
    go : (G R U : ℕ) → 1000000000 ≤ U → 1000 * G ≤ 295 * U → 8589934592 * G ≤ 8589934592 * (R * 1) + G + 8589934592 * 1 → 1000000 * G ≤ 1000000 * R + U
    go G R U b g n = omega arith

-- At least 0.0401 is left.
pub chance_low : (U T K Z R : ℕ) → 1000000000 ≤ U → 166666 * U ≤ 1000000 * Z → 1000 * Z ≤ 167 * U → 1000 * T ≤ 128 * U → 1000 * K ≤ 252 * U → Near (Z + T) 1 R → (U < 8 * K → 15832 * K ≤ 16000 * T + 1979 * U) → 10000 * K + 401 * U ≤ 10000 * R
chance_low U T K Z R b z z' t k r tangent =
    let s = sum_low U Z T R b z' t (fine-under (Z + T) 1 R r) in
    elim (ordered (8 * K) U) [ inl h ↦ near U T K Z R z s h | inr h ↦ far U T K Z R z s k (tangent h) ]
  where
    near : (U T K Z R : ℕ) → 166666 * U ≤ 1000000 * Z → 1000000 * (Z + T) ≤ 1000000 * R + U → 8 * K ≤ U → 10000 * K + 401 * U ≤ 10000 * R
    near U T K Z R z s h = omega arith

    far : (U T K Z R : ℕ) → 166666 * U ≤ 1000000 * Z → 1000000 * (Z + T) ≤ 1000000 * R + U → 1000 * K ≤ 252 * U → 15832 * K ≤ 16000 * T + 1979 * U → 10000 * K + 401 * U ≤ 10000 * R
    far U T K Z R z s k g = omega arith
