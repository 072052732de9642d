-- How near a rounded number is to what it rounds: at most one part in 2^53 away, and half of the smallest double.
-- A double is counted in units of the smallest double: `Counts x X` says that x is X units in size, whatever its sign.
-- `Makes x n c` says that x is a count of units near n / c. Assumes nothing.
use Rattle.std.specs.Prelude.{◌≡◌, refl, ◌⊎◌, Bool, true, false, ℕ, ◌+◌, ◌-◌, ◌*◌, ◌/◌, ◌^◌, ◌≤◌, ◌<◌, T, Float}
use Rattle.std.proofs.Common.{sym, ap, ◌∙◌, subst, inl, inr, le_trans, le_of_eq, mul_assoc, mul_comm, mul_left_comm, mul-one, mul-pos, mul-le-mul_right, le_of_mul-le-mul_right, le-div_iff_mul-le, arith, pow-add, pow_pos}
use Rattle.std.specs.Float.{nan, inf, fin, binary64}
use Rattle.std.specs.Float.Ieee.{fits, size, round, neg}
use Rattle.std.specs.Float.Ieee.Digits.{size_reaches}
use Rattle.std.specs.Float.Ieee.Order.{drop, kept}
use Rattle.std.specs.Float.Ieee.Positive.{num, den, value→cross}
use Rattle.std.specs.Float.Ieee.Scale.{finite, grid, round_val, round_under}
use Rattle.floats.specs.laws.Rounding.{Rounds, above, under, round-neg}
use Rattle.rounded.specs.laws.RoundToOdd.{ordered}
use Rattle.rounded.specs.laws.Midpoints.{Within, closest-within}
use Rattle.rounded.specs.laws.Sized.{sized}

-- g is n / c, rounded to 53 binary digits or to a whole number.
pub record Near (n c g : ℕ) : Type 0 where
  pub over : 2 ^ 53 * (g * c) ≤ 2 ^ 53 * n + n + 2 ^ 52 * c
  pub under : 2 ^ 53 * n ≤ 2 ^ 53 * (g * c) + n + 2 ^ 52 * c

-- g × c is at most half of u from n, and u is at most c, or one part in 2^52 of n.
near_of : (n c g u : ℕ) → 2 * (g * c) ≤ 2 * n + u → 2 * n ≤ 2 * (g * c) + u → (u ≤ c) ⊎ (2 ^ 52 * u ≤ n) → Near n c g
near_of n c g u a b (inl h) = record { over = omega arith; under = omega arith }
near_of n c g u a b (inr h) = record { over = omega arith; under = omega arith }

-- the unit of the last digit that is kept
unit-small : (n c : ℕ) → 0 < c → (c * 2 ^ drop 53 n c ≤ c) ⊎ (2 ^ 52 * (c * 2 ^ drop 53 n c) ≤ n)
unit-small n c C = elim (ordered (size (n / c)) 53) [
  | inl l ↦ inl (le_of_eq (ap (λ (k : ℕ). c * 2 ^ k) (none (size (n / c)) l) ∙ mul-one c))
  | inr l ↦
      let k = drop 53 n c in
      let h : 2 ^ (52 + k) * c ≤ n = (le-div_iff_mul-le C).0 (size_reaches (n / c) (52 + k) (all (size (n / c)) l)) in
      inr (le_trans (le_of_eq (mul_left_comm (2 ^ 52) c (2 ^ k) ∙ mul_comm c (2 ^ 52 * 2 ^ k) ∙ ap (λ (z : ℕ). z * c) (sym (pow-add 2 52 k)))) h)
]
  where
    none : (z : ℕ) → z ≤ 53 → z - 53 ≡ 0
    none z h = omega arith

    all : (z : ℕ) → 53 < z → 52 + (z - 53) < z
    all z h = omega arith

grid-near : (n c : ℕ) → 0 < c → Near n c (kept 53 n c * 2 ^ drop 53 n c)
grid-near n c C =
    let k = drop 53 n c in
    let q = kept 53 n c in
    let w : Within n (c * 2 ^ k) (q * (c * 2 ^ k)) = closest-within n (c * 2 ^ k) (mul-pos C (pow_pos k)) in
    let e : q * (c * 2 ^ k) ≡ q * 2 ^ k * c = ap (λ (z : ℕ). q * z) (mul_comm c (2 ^ k)) ∙ sym (mul_assoc q (2 ^ k) c) in
    near_of n c (q * 2 ^ k) (c * 2 ^ k)
    (subst (λ (z : ℕ). 2 * z ≤ 2 * n + c * 2 ^ k) e w.not_over)
    (subst (λ (z : ℕ). 2 * n ≤ 2 * z + c * 2 ^ k) e w.not_under)
    (unit-small n c C)

-- only the value of the fraction matters
near_same : (n c m d g : ℕ) → 0 < c → n * d ≡ m * c → Near n c g → Near m d g
near_same n c m d g C e h =
    record {
      over = le_of_mul-le-mul_right {k = c} (omega (arith, e, mul-le-mul_right d h.over)) C;
      under = le_of_mul-le-mul_right {k = c} (omega (arith, e, mul-le-mul_right d h.under)) C;
    }

-- ---- the same more roughly, in shorter numbers: one part in 2^33, and one part in 2000

pub fine-over : (n c g : ℕ) → Near n c g → 8589934592 * (g * c) ≤ 8589934592 * n + n + 8589934592 * c
fine-over n c g h = go (g * c) h.over
  where
    go : (x : ℕ) → 2 ^ 53 * x ≤ 2 ^ 53 * n + n + 2 ^ 52 * c → 8589934592 * x ≤ 8589934592 * n + n + 8589934592 * c
    go x o = le_of_mul-le-mul_right {k = 1048576} (omega (arith, o)) (omega arith)

pub fine-under : (n c g : ℕ) → Near n c g → 8589934592 * n ≤ 8589934592 * (g * c) + n + 8589934592 * c
fine-under n c g h = go (g * c) h.under
  where
    go : (x : ℕ) → 2 ^ 53 * n ≤ 2 ^ 53 * x + n + 2 ^ 52 * c → 8589934592 * n ≤ 8589934592 * x + n + 8589934592 * c
    go x o = le_of_mul-le-mul_right {k = 1048576} (omega (arith, o)) (omega arith)

pub rough_over : (n c g : ℕ) → Near n c g → 2000 * (g * c) ≤ 2001 * n + 2000 * c
rough_over n c g h = omega (arith, h.over)

pub rough_under : (n c g : ℕ) → Near n c g → 1999 * n ≤ 2000 * (g * c) + 2000 * c
rough_under n c g h = omega (arith, h.under)

-- ---- floats

pub record Counts (x : Float) (X : ℕ) : Type 0 where
  pub is_finite : T (finite x)
  pub units : num x * 2 ^ 1074 ≡ X * den x

pub record Makes (x : Float) (n c : ℕ) : Type 0 where
  pub count : ℕ
  pub counts : Counts x count
  pub near : Near n c count

pub makes_same : (x : Float) (n c m d : ℕ) → 0 < c → n * d ≡ m * c → Makes x n c → Makes x m d
makes_same x n c m d C e h = record { count = h.count; counts = h.counts; near = near_same n c m d h.count C e h.near }

pub counted : (x : Float) → T (fits binary64 x) → T (finite x) → (X : ℕ) × Counts x X
counted x t f = let s = sized x t f in (s.digits * 2 ^ s.places, record { is_finite = f; units = s.value })

neg-num : (x : Float) → num (neg x) ≡ num x
unfolding neg
neg-num nan = refl
neg-num (inf s) = refl
neg-num (fin s m e) = refl

neg-den : (x : Float) → den (neg x) ≡ den x
unfolding neg
neg-den nan = refl
neg-den (inf s) = refl
neg-den (fin s m e) = refl

neg-back : (x : Float) → T (finite (neg x)) → T (finite x)
unfolding neg
neg-back nan h = h
neg-back (inf s) h = h
neg-back (fin s m e) h = tt

neg-counts : (x : Float) (X : ℕ) → T (finite (neg x)) → Counts x X → Counts (neg x) X
neg-counts x X f h = record { is_finite = f; units = rw (neg-num x, neg-den x) h.units }

plus_makes : (a c : ℕ) → 0 < c → T (finite (round binary64 false a c)) → Makes (round binary64 false a c) (a * 2 ^ 1074) c
plus_makes a c C f =
    record {
      count = grid binary64 a c;
      counts = record { is_finite = f; units = value→cross (round binary64 false a c) (grid binary64 a c) (2 ^ 1074) (round_val binary64 a c (round_under binary64 a c f)) };
      near = grid-near (a * 2 ^ 1074) c C;
    }

pub round_makes : (s : Bool) (a c : ℕ) → 0 < c → T (finite (round binary64 s a c)) → Makes (round binary64 s a c) (a * 2 ^ 1074) c
round_makes false a c C f = plus_makes a c C f
round_makes true a c C f =
    let e : round binary64 true a c ≡ neg (round binary64 false a c) = round-neg binary64 false a c in
    let g : T (finite (neg (round binary64 false a c))) = subst (λ (z : Float). T (finite z)) e f in
    let p = plus_makes a c C (neg-back (round binary64 false a c) g) in
    subst (λ (z : Float). Makes z (a * 2 ^ 1074) c) (sym e)
    (record { count = p.count; counts = neg-counts (round binary64 false a c) p.count g p.counts; near = p.near })

-- ---- the size of p - n
abbrev pub apart : ℕ → ℕ → ℕ
apart p n = p - n + (n - p)

pub rounds_makes : (z : Float) (p n c : ℕ) → 0 < c → Rounds binary64 z p n c → T (finite z) → Makes z (apart p n * 2 ^ 1074) c
rounds_makes z p n c C (above h e) f =
    let d : apart p n ≡ p - n = omega arith in
    rw d (subst (λ (y : Float). Makes y ((p - n) * 2 ^ 1074) c) (sym e) (round_makes false (p - n) c C (subst (λ (y : Float). T (finite y)) e f)))
rounds_makes z p n c C (under h e) f =
    let d : apart p n ≡ n - p = omega arith in
    rw d (subst (λ (y : Float). Makes y ((n - p) * 2 ^ 1074) c) (sym e) (round_makes true (n - p) c C (subst (λ (y : Float). T (finite y)) e f)))
