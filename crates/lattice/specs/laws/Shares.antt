-- A part of a sum of doubles that are not below 0, divided by that sum, is at most 1, rounding included. Assumes nothing.
use Rattle.std.specs.Prelude.{◌≡◌, refl, true, false, ℕ, ◌+◌, ◌*◌, ◌≤◌, ◌<◌, T, Float}
use Rattle.std.proofs.Common.{sym, ap, true≢false, zero-le, mul-pos, arith, lit<}
use Rattle.std.proofs.Math.Nat.{sub-zero}
use Rattle.std.specs.Float.{nan, inf, fin, binary64}
use Rattle.std.specs.Float.Ieee.{add, div, le, of_bits, round, fits}
use Rattle.std.specs.Float.Ieee.Fits.{add-fits}
use Rattle.std.specs.Float.Ieee.Exact.{HasValue, round_exact}
use Rattle.std.specs.Float.Ieee.Positive.{num, den, den_pos}
use Rattle.std.specs.Float.Ieee.Scale.{finite}
use Rattle.floats.specs.Answers.{plus_zero, one}
use Rattle.floats.specs.laws.Fractions.{pl, mi, leq_of_le, le_of_leq}
use Rattle.floats.specs.laws.Order.{le_trans}
use Rattle.floats.specs.laws.Rounding.{Rounds, above, rounds-mono}
use Rattle.floats.specs.laws.Exactly.{add_rounds, div-rounds, mi_of_above, pl_of_positive}
use Rattle.floats.specs.laws.Finite.{positive_of-div}
use Rattle.floats.specs.laws.Signs.{add-above}
use Rattle.rounded.specs.laws.Sized.{sized}
use Rattle.elementary.specs.laws.Values.{Above}

-- One of pl and mi is 0, and the other is the size.
pub size-parts : (x : Float) → T (finite x) → pl x + mi x ≡ num x
size-parts nan f = absurd f
size-parts (inf s) f = absurd f
size-parts (fin false m e) f = omega arith
size-parts (fin true m e) f = omega arith

pub pl_of_above : (x : Float) → T (finite x) → T (le plus_zero x) → pl x ≡ num x
pl_of_above x f h = let a = size-parts x f in let b = mi_of_above x f h in omega arith

none_below : (x : Float) → Above x → mi x ≡ 0
none_below x a = mi_of_above x a.is_finite a.above

all_above : (x : Float) → Above x → pl x ≡ num x
all_above x a = pl_of_above x a.is_finite a.above

-- A double that isn't below 0.
pub record Amount (x : Float) : Type 0 where
  pub weight : Above x
  pub held : T (fits binary64 x)

pub sum_amount : (x y : Float) → Amount x → Amount y → T (finite (add binary64 x y)) → Amount (add binary64 x y)
sum_amount x y a b f =
    record {
      weight = record { is_finite = f; above = add-above binary64 x y a.weight.is_finite b.weight.is_finite a.weight.above b.weight.above };
      held = add-fits binary64 x y;
    }

-- ---- a double that is at most a fraction is at most the rounded fraction

module _ (x : Float) (a : Amount x) where
  -- x, rounded: the same number
  abbrev again : Float
  again = round binary64 false (num x) (den x)

  below_again : T (le x again)
  below_again = let s = sized x a.held a.weight.is_finite in go again (round_exact binary64 false (num x) (den x) s.digits s.places (den_pos x) s.short s.below s.value)
    where
      rest : (p m n d c r : ℕ) → p + m ≡ n → r * c ≡ n * d → p * d + 0 * c ≤ r * c + m * d
      rest p m n d c r e h = omega (arith, ap (λ (z : ℕ). z * d) e)

      go : (r : Float) → HasValue r false (num x) (den x) → T (le x r)
      go nan v = absurd v
      go (inf s) v = absurd v
      go (fin true m e) v = absurd (true≢false v.0)
      go (fin false m e) v =
          le_of_leq x (fin false m e) a.weight.is_finite tt
          (record { holds = rest (pl x) (mi x) (num x) (den (fin false m e)) (den x) (num (fin false m e)) (size-parts x a.weight.is_finite) v.1 })

  at_most-rounded : (z : Float) (p n c : ℕ) → 0 < c → Rounds binary64 z p n c → num x * c + n * den x ≤ p * den x → T (le x z)
  at_most-rounded z p n c C r h =
      le_trans x again z below_again
      (rounds-mono (den_pos x) C (above zero-le (ap (λ (k : ℕ). round binary64 false k (den x)) (sym (sub-zero (num x))))) r (omega arith))

-- ---- a part of a sum is at most the sum

module _ (x y : Float) (a : Amount x) (b : Amount y) where
  abbrev sum : Float
  sum = add binary64 x y

  abbrev sum-rounds : Rounds binary64 sum (pl x * den y + pl y * den x) (mi x * den y + mi y * den x) (den x * den y)
  sum-rounds = add_rounds binary64 x y a.weight.is_finite b.weight.is_finite

  pub left_part : T (le x sum)
  left_part =
      at_most-rounded x a sum _ _ (den x * den y) (mul-pos (den_pos x) (den_pos y)) sum-rounds
      (rw (none_below x a.weight, none_below y b.weight, all_above x a.weight) (go (num x) (den x) (pl y) (den y)))
    where
      go : (n d p e : ℕ) → n * (d * e) + (0 * e + 0 * d) * d ≤ (n * e + p * d) * d
      go n d p e = omega arith

  pub right_part : T (le y sum)
  right_part =
      at_most-rounded y b sum _ _ (den x * den y) (mul-pos (den_pos x) (den_pos y)) sum-rounds
      (rw (none_below x a.weight, none_below y b.weight, all_above y b.weight) (go (num y) (den y) (pl x) (den x)))
    where
      go : (n d p e : ℕ) → n * (e * d) + (0 * d + 0 * e) * d ≤ (p * d + n * e) * d
      go n d p e = omega arith

-- ---- a share

one_rounds : Rounds binary64 one 1 0 1
unfolding of_bits round
one_rounds = above zero-le refl

pub share_at_most_one : (x w : Float) → Above x → Above w → T (le x w) → T (finite (div binary64 x w)) → T (le (div binary64 x w) one)
share_at_most_one x w a b h f =
    let z = positive_of-div binary64 x w b.is_finite b.above f in
    let m = none_below x a in
    let l = (leq_of_le x w a.is_finite b.is_finite h).holds in
    rounds-mono (mul-pos (pl_of_positive w b.is_finite z) (den_pos x)) (lit< tt) (div-rounds binary64 x w a.is_finite b.is_finite z) one_rounds
    (rw m (go (pl x) (den x) (pl w) (mi w) (den w) (mi x) m l))
  where
    go : (p d q m e n : ℕ) → n ≡ 0 → p * e + m * d ≤ q * d + n * e → p * e * 1 + 0 * (q * d) ≤ 1 * (q * d) + 0 * e * 1
    go p d q m e n z h = omega (arith, ap (λ (k : ℕ). k * e) z)
