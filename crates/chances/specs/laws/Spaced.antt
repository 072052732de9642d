-- What a step's new spacing and its two divisors are, counted in units of the smallest double, for every variance above 2^−52. Assumes nothing.
use Rattle.std.specs.Prelude.{◌≡◌, false, ℕ, ◌*◌, ◌^◌, ◌≤◌, ◌<◌, T, Float}
use Rattle.std.proofs.Math.Path.{refl, subst}
use Rattle.std.proofs.Common.{sym, ◌∙◌, inl, inr, mul_assoc, mul-le-mul, le_of_lt as less-le, mul-pos, mul-le-mul_right, le_of_mul-le-mul_right, lit≤, lit<, pow_pos}
use Rattle.std.proofs.Math.Nat.{eq_of_mul-eq-mul_right}
use native.Mathlib.Omega.{arith}
use Rattle.std.specs.Float.Ieee.{binary64, mul, le, lt, of_bits, of_int}
use Rattle.std.specs.Float.Ieee.Fits.{mul-fits}
use Rattle.std.specs.Float.Ieee.Positive.{num, den, den_pos}
use Rattle.std.specs.Float.Ieee.Scale.{finite}
use Rattle.floats.specs.Answers.{plus_zero, two}
use Rattle.floats.specs.laws.Fractions.{decide, leq_of_le}
use Rattle.floats.specs.laws.Order.{number_of-finite, le_trans, le_of_lt, lt_of_not_le}
use Rattle.floats.specs.laws.Exactly.{mi_of_above, pl_of_below}
use Rattle.floats.specs.laws.Signs.{mul-above}
use Rattle.floats.specs.laws.Arithmetic.{mul_mono_left}
use Rattle.floats.specs.laws.Finite.{finite_of_mul}
use Rattle.rounded.specs.Root.{root_of}
use Rattle.rounded.specs.laws.RoundToOdd.{ordered}
use Rattle.rounded.specs.laws.Sized.{Sized, sized}
use Rattle.rounded.specs.laws.RootValue.{Rooted, rooted-sized}
use Rattle.rounded.specs.laws.RootBounds.{root_of_bounds}
use Rattle.terms.specs.Numbers.{float, epsilon}
use Rattle.lattice.specs.laws.Shares.{size-parts}
use Rattle.chances.specs.laws.Near.{Near, Counts, Makes, makes_same, round_makes}
use Rattle.chances.specs.laws.Operations.{mul_raw, mul_whole_makes}
use Rattle.chances.specs.laws.SpacingMargin.{Divisors, product-large, square-over, square-under, divisor-under, divisor-over, scale-over}

-- The new spacing h and the two divisors d and s: their counts, that they are above 0, and how large they are beside one another.
pub record Spaced (h d s : Float) : Type 0 where
  pub X : ℕ
  pub H : ℕ
  pub D : ℕ
  pub S : ℕ
  pub spacing : Counts h H
  pub divisor : Counts d D
  pub scale : Counts s S
  pub spacing-above : T (lt plus_zero h)
  pub divisor-above : T (lt plus_zero d)
  pub scale-above : T (lt plus_zero s)
  pub wide : 8589934592 ≤ H
  pub divisors : Divisors (2 ^ 1074) X D H S

-- one count for each number
counts_unique : (x : Float) (X Y : ℕ) → Counts x X → Counts x Y → X ≡ Y
counts_unique x X Y p q = eq_of_mul-eq-mul_right (den x) (den_pos x) X Y (sym p.units ∙ q.units)

-- some units, and not below 0
above_of-counts : (x : Float) (X : ℕ) → Counts x X → 0 < X → T (le plus_zero x) → T (lt plus_zero x)
above_of-counts x X p P h = elim (decide (le x plus_zero)) [
  | inl l ↦ absurd (clash (num x) X (den x) (2 ^ 1074) p.units (mul-pos P (den_pos x)) (nil l))
  | inr n ↦ lt_of_not_le plus_zero x (unfold of_bits in tt) (number_of-finite x p.is_finite) n
]
  where
    nil : T (le x plus_zero) → num x ≡ 0
    nil l = let a = size-parts x p.is_finite in let b = pl_of_below x p.is_finite l in let c = mi_of_above x p.is_finite h in omega arith

    clash : (n X d u : ℕ) → n * u ≡ X * d → 0 < X * d → n ≡ 0 → ⊥
    clash n X d u e p z = let f : 0 * u ≡ X * d = rw (← z) e in omega arith

-- ---- numbers only

start_of : (U n d X : ℕ) → n * U ≡ X * d → 0 < d → d ≤ n * 2 ^ 52 → U ≤ 2 ^ 52 * X
start_of U n d X e D h = le_of_mul-le-mul_right {k = d} (omega (arith, e, mul-le-mul_right U h)) D

large_of : (U X : ℕ) → 2 ^ 92 ≤ U → U ≤ 2 ^ 52 * X → 2 ^ 40 ≤ X
large_of U X b s = omega arith

wide_of : (U X H : ℕ) → 2 ^ 40 ≤ U → 2 ^ 40 ≤ X → 1000 * (X * U) ≤ 1003 * (H * H) → 8589934592 ≤ H
wide_of U X H u x h = elim (ordered 8589934592 H) [ inl l ↦ l | inr l ↦ absurd (clash (X * U) (H * H) (omega (arith, mul-le-mul x u)) (omega (arith, mul-le-mul (less-le l) (less-le l))) h) ]
  where
    clash : (p s : ℕ) → 2 ^ 80 ≤ p → s ≤ 2 ^ 66 → 1000 * p ≤ 1003 * s → ⊥
    clash p s a b c = omega arith

positive_of : (X D : ℕ) → 2 ^ 40 ≤ X → 1997 * X ≤ 1000 * D → 0 < D
positive_of X D l h = omega arith

at_least-million : (X : ℕ) → 2 ^ 40 ≤ X → 1000000 ≤ X
at_least-million X l = omega arith

spacing-million : (H : ℕ) → 8589934592 ≤ H → 1000000 ≤ H
spacing-million H l = omega arith

module _ (v : Float) (above : T (lt epsilon v)) (fx : T (finite (mul binary64 v (float 3)))) (fd : T (finite (mul binary64 v (float 6)))) where
  abbrev x : Float
  x = mul binary64 v (float 3)

  abbrev d : Float
  d = mul binary64 v (float 6)

  fv : T (finite v)
  fv = (finite_of_mul binary64 v (float 3) fx).0

  v_above : T (le plus_zero v)
  unfolding of_bits le
  v_above = le_trans plus_zero epsilon v tt (le_of_lt epsilon v above)

  pub x_above : T (le plus_zero x)
  unfolding of_bits of_int le
  x_above = mul-above binary64 v (float 3) fv tt v_above tt

  d_above : T (le plus_zero d)
  unfolding of_bits of_int le
  d_above = mul-above binary64 v (float 6) fv tt v_above tt

  eps_x : T (le epsilon x)
  unfolding of_bits of_int le mul
  eps_x = le_trans epsilon (mul binary64 epsilon (float 3)) x tt (mul_mono_left binary64 epsilon v (float 3) tt fv tt tt (le_of_lt epsilon v above))

  abbrev s : Sized x
  s = sized x (mul-fits binary64 v (float 3)) fx

  abbrev X : ℕ
  X = s.digits * 2 ^ s.places

  xc : Counts x X
  xc = record { is_finite = fx; units = s.value }

  reach : den x ≤ num x * 2 ^ 52
  unfolding of_bits
  reach = let l = (leq_of_le epsilon x tt fx eps_x).holds in let p = size-parts x fx in omega arith

  start : 2 ^ 1074 ≤ 2 ^ 52 * X
  start = start_of (2 ^ 1074) (num x) (den x) X s.value (den_pos x) reach

  large : 2 ^ 40 ≤ X
  large = large_of (2 ^ 1074) X (lit≤ tt) start

  x_positive : 0 < num x
  x_positive = go (num x) (den x) reach (den_pos x)
    where
      go : (n d : ℕ) → d ≤ n * 2 ^ 52 → 0 < d → 0 < n
      go n d h p = omega arith

  -- ---- the new spacing

  abbrev r : Rooted x (X * 2 ^ 1074)
  r = rooted-sized x s x_positive

  abbrev h : Float
  h = root_of x

  h_finite : T (finite h)
  h_finite = (root_of_bounds x fx).is_finite

  h_above : T (le plus_zero h)
  h_above = (root_of_bounds x fx).not_below_lem

  h_makes : Makes h r.w 2
  h_makes =
      makes_same h (r.w * 2 ^ 1074) (2 ^ 1075) r.w 2 (pow_pos 1075) (mul_assoc r.w (2 ^ 1074) 2)
      (subst (λ (z : Float). Makes z (r.w * 2 ^ 1074) (2 ^ 1075)) (sym r.is)
      (round_makes false r.w (2 ^ 1075) (pow_pos 1075) (subst (λ (z : Float). T (finite z)) r.is h_finite)))

  abbrev H : ℕ
  H = h_makes.count

  product : 1099511627776 ≤ X * 2 ^ 1074
  product = product-large (2 ^ 1074) X (lit≤ tt) (at_least-million X large)

  h_over : 1000 * (X * 2 ^ 1074) ≤ 1003 * (H * H)
  h_over = square-over (X * 2 ^ 1074) r.doubling.r r.w H product r.doubling.root r.doubling.twice h_makes.near

  h_under : 1000 * (H * H) ≤ 1003 * (X * 2 ^ 1074)
  h_under = square-under (X * 2 ^ 1074) r.doubling.r r.w H product r.doubling.root r.doubling.twice h_makes.near

  h_wide : 8589934592 ≤ H
  h_wide = wide_of (2 ^ 1074) X H (lit≤ tt) large h_over

  -- ---- the divisor of the square

  abbrev n : ℕ
  n = num v * 3 * 2 ^ 1074

  x_makes : Makes x n (den v * 1)
  unfolding of_int
  x_makes = mul_raw v (float 3) fv tt fx

  d_makes : Makes d (2 * n) (den v * 1)
  unfolding of_int
  d_makes = subst (λ (z : ℕ). Makes d z (den v * 1)) (twofold (num v) (2 ^ 1074)) (mul_raw v (float 6) fv tt fd)
    where
      twofold : (a u : ℕ) → a * 6 * u ≡ 2 * (a * 3 * u)
      twofold a u = omega arith

  x_near : Near n (den v * 1) X
  x_near = subst (λ (z : ℕ). Near n (den v * 1) z) (counts_unique x x_makes.count X x_makes.counts xc) x_makes.near

  c_pos : 0 < den v * 1
  c_pos = mul-pos (den_pos v) (lit< tt)

  d_under : 1000 * d_makes.count ≤ 2003 * X
  d_under = divisor-under n (den v * 1) X d_makes.count c_pos (at_least-million X large) x_near d_makes.near

  d_over : 1997 * X ≤ 1000 * d_makes.count
  d_over = divisor-over n (den v * 1) X d_makes.count c_pos (at_least-million X large) x_near d_makes.near

  -- ---- the divisor of the error, and all together

  module _ (fs : T (finite (mul binary64 h two))) where
    s_makes : Makes (mul binary64 h two) (H * 2) 1
    unfolding of_bits
    s_makes = mul_whole_makes h two H 2 h_makes.counts tt refl fs

    s_above : T (le plus_zero (mul binary64 h two))
    unfolding of_bits le
    s_above = mul-above binary64 h two h_finite tt h_above tt

    s_bounds : (1998 * H ≤ 1000 * s_makes.count) × (0 < s_makes.count)
    s_bounds = scale-over H s_makes.count (spacing-million H h_wide) s_makes.near

    pub spaced : Spaced h d (mul binary64 h two)
    spaced =
        record {
          X = X;
          H = H;
          D = d_makes.count;
          S = s_makes.count;
          spacing = h_makes.counts;
          divisor = d_makes.counts;
          scale = s_makes.counts;
          spacing-above = above_of-counts h H h_makes.counts (positive h_wide) h_above;
          divisor-above = above_of-counts d d_makes.count d_makes.counts (positive_of X d_makes.count large d_over) d_above;
          scale-above = above_of-counts (mul binary64 h two) s_makes.count s_makes.counts s_bounds.1 s_above;
          wide = h_wide;
          divisors =
              record {
                large = at_least-million X large;
                over = h_over;
                under = h_under;
                divisor-under = d_under;
                divisor-over = d_over;
                scale-over = s_bounds.0;
                scale-positive = s_bounds.1;
              };
        }
      where
        positive : {k : ℕ} → 8589934592 ≤ k → 0 < k
        positive {k} l = omega arith
