-- Each probability before clamping is at least 0.04, rounding included: from an error of at most 501/1000 of the new spacing. Assumes nothing.
use Rattle.std.specs.Prelude.{◌≡◌, refl, ℕ, ◌+◌, ◌*◌, ◌^◌, ◌≤◌, ◌<◌, T, Float}
use Rattle.std.proofs.Common.{ap, inl, inr, zero-le, mul-pos, mul-le-mul_right, le_of_mul-le-mul_right, arith, lit≤, lit<, pow_pos}
use Rattle.std.specs.Float.{binary64}
use Rattle.std.specs.Float.Ieee.{add, sub, mul, div, le, of_bits, of_int, round}
use Rattle.std.specs.Float.Ieee.Positive.{num, den, den_pos}
use Rattle.std.specs.Float.Ieee.Scale.{finite}
use Rattle.floats.specs.Answers.{plus_zero, two}
use Rattle.floats.specs.laws.Fractions.{pl, mi, le_of_leq}
use Rattle.floats.specs.laws.Order as order
use Rattle.floats.specs.laws.Order.{number_of-finite, le_total}
use Rattle.floats.specs.laws.Rounding.{Rounds, above, rounds-mono}
use Rattle.floats.specs.laws.Exactly.{add_rounds, sub-rounds, mi_of_above}
use Rattle.floats.specs.laws.Signs.{mul-above, mul_both_below, div-above, add-above}
use Rattle.floats.specs.laws.Arithmetic.{mul_mono_left, sub_anti_right}
use Rattle.lattice.specs.Transitions.{sixth, two_thirds}
use Rattle.lattice.specs.laws.Shares.{size-parts, pl_of_above}
use Rattle.chances.specs.Unclamped.{least_hundredths, least_probability}
use Rattle.chances.specs.laws.Near.{Counts, Makes}
use Rattle.chances.specs.laws.Operations.{mul_makes, div_makes, add_makes}
use Rattle.chances.specs.laws.ChanceMargin.{term-high, skew-high, term-low, chance_low}
use Rattle.chances.specs.laws.Spaced.{Spaced}
use Rattle.chances.specs.laws.ErrorSize.{SmallError}
use Rattle.chances.specs.laws.ChanceFloor.{Floored}

least-rounds : Rounds binary64 least_probability least_hundredths 0 100
unfolding of_bits round
least-rounds = above zero-le refl

-- What is left of a, whose count is R, when k, whose count is K, is taken off: from counts to fractions.
settle : (na da R nk dk K U : ℕ) → 0 < U → na * U ≡ R * da → nk * U ≡ K * dk → 10000 * K + 401 * U ≤ 10000 * R → least_hundredths * (da * dk) + 100 * (nk * da) ≤ 100 * (na * dk)
settle na da R nk dk K U P e g h =
    le_of_mul-le-mul_right {k = U}
    (omega (arith, ap (λ (z : ℕ). z * dk) e, ap (λ (z : ℕ). z * da) g, mul-le-mul_right (da * dk) h)) P

module _ (a k : Float) (R K : ℕ) (ac : Counts a R) (kc : Counts k K) (a_above : T (le plus_zero a)) (h : 10000 * K + 401 * 2 ^ 1074 ≤ 10000 * R) where
  room : least_hundredths * (den a * den k) + 100 * (num k * den a) ≤ 100 * (num a * den k)
  room = settle (num a) (den a) R (num k) (den k) K (2 ^ 1074) (pow_pos 1074) ac.units kc.units h

  room_for : (x y : ℕ) → x + y ≡ num k → least_hundredths * (den a * den k) + (mi a * den k + x * den a) * 100 ≤ (pl a * den k + y * den a) * 100 + 0 * (den a * den k)
  room_for x y e =
      rw (mi_of_above a ac.is_finite a_above, pl_of_above a ac.is_finite a_above)
      (go (num a) (den a) (den k) (x * den a) (y * den a) (num k * den a) (mul-le-mul_right {m = x} {n = num k} (den a) (omega arith)) room)
    where
      go : (n d c x y w : ℕ) → x ≤ w → least_hundredths * (d * c) + 100 * w ≤ 100 * (n * c) → least_hundredths * (d * c) + (0 * c + x) * 100 ≤ (n * c + y) * 100 + 0 * (d * c)
      go n d c x y w h g = omega arith

  difference-least : T (le least_probability (sub binary64 a k))
  difference-least =
      rounds-mono (lit< tt) (mul-pos (den_pos a) (den_pos k)) least-rounds (sub-rounds binary64 a k ac.is_finite kc.is_finite)
      (room_for (pl k) (mi k) (size-parts k kc.is_finite))

  sum-least : T (le least_probability (add binary64 a k))
  sum-least =
      rounds-mono (lit< tt) (mul-pos (den_pos a) (den_pos k)) least-rounds (add_rounds binary64 a k ac.is_finite kc.is_finite)
      (room_for (mi k) (pl k) (let e = size-parts k kc.is_finite in omega arith))

abbrev Z : ℕ
Z = 6004799503160661 * 2 ^ 1019

sixth-counts : Counts sixth Z
unfolding of_bits of_int div
sixth-counts = record { is_finite = tt; units = refl }

abbrev quarter : Float
quarter = of_bits binary64 0x3fd0_0000_0000_0000

below-quarter : (t : Float) (T' : ℕ) → Counts t T' → 1000 * T' ≤ 128 * 2 ^ 1074 → T (le t quarter)
unfolding of_bits
below-quarter t T' c h =
    le_of_leq t quarter c.is_finite tt
    (record { holds = rest (pl t) (mi t) (num t) (den t) (size-parts t c.is_finite) (small (num t) (den t) T' (2 ^ 1074) (pow_pos 1074) c.units h) })
  where
    small : (n d t u : ℕ) → 0 < u → n * u ≡ t * d → 1000 * t ≤ 128 * u → 4 * n ≤ d
    small n d t u P e h = le_of_mul-le-mul_right {k = u} (omega (arith, e, mul-le-mul_right d h)) P

    rest : (p m n d : ℕ) → p + m ≡ n → 4 * n ≤ d → p * 4 + 0 * d ≤ 1 * d + m * 4
    rest p m n d e h = omega arith

middle-least : (t : Float) → T (finite t) → T (le t quarter) → T (finite (mul binary64 t two)) → T (le least_probability (sub binary64 two_thirds (mul binary64 t two)))
unfolding of_bits of_int div mul sub le
middle-least t f h g =
    order.le_trans least_probability (sub binary64 two_thirds (mul binary64 quarter two)) (sub binary64 two_thirds (mul binary64 t two)) tt
    (sub_anti_right binary64 two_thirds (mul binary64 t two) (mul binary64 quarter two) tt g tt
    (mul_mono_left binary64 t quarter two f tt tt tt h))

square_above-zero : (e : Float) → T (finite e) → T (le plus_zero (mul binary64 e e))
unfolding of_bits
square_above-zero e f = elim (le_total plus_zero e tt (number_of-finite e f)) [ inl l ↦ mul-above binary64 e e f f l l | inr l ↦ mul_both_below binary64 e e f f l l ]

module _ (h d s e : Float) (sp : Spaced h d s) (er : SmallError e sp.H) (fq : T (finite (mul binary64 e e))) (ft : T (finite (div binary64 (mul binary64 e e) d)))
    (fa : T (finite (add binary64 sixth (div binary64 (mul binary64 e e) d)))) (fk : T (finite (div binary64 e s))) (fw : T (finite (mul binary64 (div binary64 (mul binary64 e e) d) two))) where
  abbrev square : Float
  square = mul binary64 e e

  abbrev term : Float
  term = div binary64 square d

  abbrev a : Float
  a = add binary64 sixth term

  abbrev skew : Float
  skew = div binary64 e s

  q_makes : Makes square (er.A * er.A) (2 ^ 1074)
  q_makes = mul_makes e e er.A er.A er.counts er.counts fq

  t_makes : Makes term (q_makes.count * 2 ^ 1074) sp.D
  t_makes = div_makes square d q_makes.count sp.D q_makes.counts sp.divisor sp.divisor-above ft

  k_makes : Makes skew (er.A * 2 ^ 1074) sp.S
  k_makes = div_makes e s er.A sp.S er.counts sp.scale sp.scale-above fk

  term-above : T (le plus_zero term)
  term-above = div-above binary64 square d fq sp.divisor.is_finite (square_above-zero e er.counts.is_finite) sp.divisor-above

  sixth-above : T (le plus_zero sixth)
  unfolding of_bits of_int div le
  sixth-above = tt

  a_makes : Makes a (Z + t_makes.count) 1
  a_makes = add_makes sixth term Z t_makes.count sixth-counts t_makes.counts sixth-above term-above fa

  a_above : T (le plus_zero a)
  a_above = add-above binary64 sixth term sixth-counts.is_finite ft sixth-above term-above

  t_high : 1000 * t_makes.count ≤ 128 * 2 ^ 1074
  t_high = term-high (2 ^ 1074) sp.X sp.D sp.H sp.S er.A q_makes.count t_makes.count k_makes.count (lit≤ tt) sp.divisors er.small q_makes.near t_makes.near k_makes.near

  k_high : 1000 * k_makes.count ≤ 252 * 2 ^ 1074
  k_high = skew-high (2 ^ 1074) sp.X sp.D sp.H sp.S er.A q_makes.count t_makes.count k_makes.count (lit≤ tt) sp.divisors er.small q_makes.near t_makes.near k_makes.near

  t_low : 2 ^ 1074 < 8 * k_makes.count → 15832 * k_makes.count ≤ 16000 * t_makes.count + 1979 * 2 ^ 1074
  t_low = term-low (2 ^ 1074) sp.X sp.D sp.H sp.S er.A q_makes.count t_makes.count k_makes.count (lit≤ tt) sp.divisors er.small q_makes.near t_makes.near k_makes.near

  left_over : 10000 * k_makes.count + 401 * 2 ^ 1074 ≤ 10000 * a_makes.count
  left_over = chance_low (2 ^ 1074) t_makes.count k_makes.count Z a_makes.count (lit≤ tt) (lit≤ tt) (lit≤ tt) t_high k_high a_makes.near t_low

  pub floored : Floored (sub binary64 a skew) (sub binary64 two_thirds (mul binary64 term two)) (add binary64 a skew)
  floored =
      record {
        down_least = difference-least a skew a_makes.count k_makes.count a_makes.counts k_makes.counts a_above left_over;
        middle-least = middle-least term ft (below-quarter term t_makes.count t_makes.counts t_high) fw;
        up_least = sum-least a skew a_makes.count k_makes.count a_makes.counts k_makes.counts a_above left_over;
      }
