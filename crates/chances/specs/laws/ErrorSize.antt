-- The error of a middle within ±1,000,000 is at most 501/1000 of the new spacing, rounding included. Assumes nothing.
use Rattle.std.specs.Prelude.{◌≡◌, Bool, false, ◌||◌, ℕ, zero, suc, ◌+◌, ◌*◌, ◌/◌, ◌^◌, ◌≤◌, ◌<◌, Float}
use Rattle.std.proofs.Math.Path.{refl}
use Rattle.std.proofs.Common.{sym, ◌∙◌, subst, le_trans, mul-one, mul_comm, mul-pos, mul-le-mul_right, div-mul-le_self, eq-zero-or-pos, zero-lt-suc, arith, lit≤, lit<, pow_pos}
use Rattle.std.proofs.Math.Logic.{inl, inr}
use Rattle.std.proofs.Math.Bool.{true}
use Rattle.std.proofs.Math.Nat.{lt-div-mul-add}
use Rattle.std.proofs.Math.Dec.{T}
use Rattle.std.specs.Float.{nan, inf, fin}
use Rattle.std.specs.Float.Ieee.{binary64, sub, mul, div, neg, le, lt, of_bits, round}
use Rattle.std.specs.Float.Ieee.Fits.{div-fits}
use Rattle.std.specs.Float.Ieee.Exact.{HasValue}
use Rattle.std.specs.Float.Ieee.Back.{round_whole}
use Rattle.std.specs.Float.Ieee.Order.{round_mono}
use Rattle.std.specs.Float.Ieee.Positive.{num, den}
use Rattle.std.specs.Float.Ieee.Scale.{finite}
use Rattle.floats.specs.Answers.{plus_zero}
use Rattle.floats.specs.Whole.{whole_of, rounded}
use Rattle.floats.specs.laws.Order as order
use Rattle.floats.specs.laws.Order.{number_of-finite, le_total, le_of_lt, le_of_not_lt, neg_anti, T-of_not}
use Rattle.floats.specs.laws.Rounding.{round-neg, round-signed, number_of-signed}
use Rattle.floats.specs.laws.Signs.{mul-above, mul-below, div-above, div_below}
use Rattle.floats.specs.laws.Arithmetic as arithmetic
use Rattle.floats.specs.laws.Cuts.{whole-nil, whole_pos, whole-finite}
use Rattle.floats.specs.laws.Whole.{rounded-value, rounded-mono, rounded-whole}
use Rattle.rounded.specs.laws.RoundToOdd.{ordered}
use Rattle.terms.specs.Numbers.{million}
use Rattle.lattice.specs.Transitions.{too_far}
use Rattle.chances.specs.laws.Near.{Counts, Makes, apart}
use Rattle.chances.specs.laws.Operations.{OneSide, above_both, below_both, div_makes, mul_whole_makes, sub_makes}
use Rattle.chances.specs.laws.ErrorMargin.{error-small}

-- ---- a whole number with a sign

-- y is n in size.
record HasWhole (y : Float) (n : ℕ) : Type 0 where
  is_finite : T (finite y)
  is : num y ≡ n * den y

value-whole : (y : Float) (s : Bool) (n : ℕ) → HasValue y s n 1 → HasWhole y n
value-whole nan s n v = absurd v
value-whole (inf t) s n v = absurd v
value-whole (fin t m e) s n v = record { is_finite = tt; is = sym (mul-one (num (fin t m e))) ∙ v.1 }

whole_of_lem : (s : Bool) (n : ℕ) → n ≤ 1000000 → HasWhole (whole_of s n) n
whole_of_lem s zero h = subst (λ (z : Float). HasWhole z 0) (sym (whole-nil s)) (unfold of_bits in record { is_finite = tt; is = refl })
whole_of_lem s (suc n) h =
    subst (λ (z : Float). HasWhole z (suc n)) (sym (whole_pos s (suc n) (zero-lt-suc n)))
    (value-whole (round binary64 s (suc n) 1) s (suc n) (round_whole binary64 s (suc n) (le_trans h (lit≤ tt))))

-- ---- a middle that isn't refused

neither : (a b : Bool) → a || b ≡ false → (a ≡ false) × (b ≡ false)
neither true b e = (e, absurd (no e))
  where
    no : true ≡ false → ⊥
    no e = let z : ◌≡◌ {A = ℕ} 0 1 = cc in omega arith
neither false b e = (refl, e)

-- one more than a million is above a million
too_many : T (le (round binary64 false 1000001 1) million) → ⊥
unfolding round le of_bits
too_many h = h

few_of : (n : ℕ) → T (le (round binary64 false n 1) million) → n ≤ 1000000
few_of n h = elim (ordered n 1000000) [
  | inl l ↦ l
  | inr l ↦
      absurd
      (too_many
      (order.le_trans (round binary64 false 1000001 1) (round binary64 false n 1) million (round_mono binary64 1000001 1 n 1 (lit< tt) (lit< tt) (mul-le-mul_right 1 l)) h))
]

few-signed : (s : Bool) (n : ℕ) → lt (round binary64 s n 1) (neg million) ≡ false → lt million (round binary64 s n 1) ≡ false → n ≤ 1000000
unfolding of_bits
few-signed false n low high =
    few_of n (le_of_not_lt million (round binary64 false n 1) tt (number_of-signed false (round binary64 false n 1) (round-signed binary64 false n 1)) (T-of_not (lt million (round binary64 false n 1)) high))
few-signed true n low high =
    let m = round binary64 true n 1 in
    let l : T (le (neg million) m) = le_of_not_lt m (neg million) (number_of-signed true m (round-signed binary64 true n 1)) (unfold neg in tt) (T-of_not (lt m (neg million)) low) in
    few_of n (subst (λ (z : Float). T (le z million)) (sym (round-neg binary64 true n 1)) (unfold neg in neg_anti (neg million) m l))

few-middles : (s : Bool) (n : ℕ) → too_far (whole_of s n) ≡ false → n ≤ 1000000
few-middles s n near = elim (eq-zero-or-pos n) [
  | inl z ↦ omega arith
  | inr p ↦
      let e : too_far (round binary64 s n 1) ≡ false = subst (λ (z : Float). too_far z ≡ false) (whole_pos s n p) near in
      let b = neither (lt (round binary64 s n 1) (neg million)) (lt million (round binary64 s n 1)) e in
      few-signed s n b.0 b.1
]

-- ---- the sign and the count

signed_of : (x : Float) (X : ℕ) → Counts x X → (s : Bool) × HasValue x s X (2 ^ 1074)
signed_of nan X c = absurd c.is_finite
signed_of (inf s) X c = absurd c.is_finite
signed_of (fin s m e) X c = (s, (refl, c.units))

cut_low : (Q U : ℕ) → 2 * U * ((2 * Q + U) / (2 * U)) ≤ 2 * Q + U
cut_low Q U = subst (λ (z : ℕ). z ≤ 2 * Q + U) (mul_comm ((2 * Q + U) / (2 * U)) (2 * U)) (div-mul-le_self (2 * Q + U) (2 * U))

cut_high : (Q U : ℕ) → 0 < U → 2 * Q + U ≤ 2 * U * ((2 * Q + U) / (2 * U) + 1)
cut_high Q U p = go ((2 * Q + U) / (2 * U)) (lt-div-mul-add {a = 2 * Q + U} {b = 2 * U} (mul-pos (lit< tt) p))
  where
    go : (n : ℕ) → 2 * Q + U < n * (2 * U) + 2 * U → 2 * Q + U ≤ 2 * U * (n + 1)
    go n h = omega arith

-- ---- the error

-- e is at most 501/1000 of h, whose count is H.
pub record SmallError (e : Float) (H : ℕ) : Type 0 where
  pub A : ℕ
  pub counts : Counts e A
  pub small : 1000 * A ≤ 501 * H

module _ (h x : Float) (H E : ℕ) (hc : Counts h H) (wide : 8589934592 ≤ H) (hz : T (lt plus_zero h)) (xc : Counts x E) (fq : T (finite (div binary64 x h))) where
  abbrev q : Float
  q = div binary64 x h

  q_makes : Makes q (E * 2 ^ 1074) H
  q_makes = div_makes x h E H xc hc hz fq

  abbrev Q : ℕ
  Q = q_makes.count

  q_signed : (s : Bool) × HasValue q s Q (2 ^ 1074)
  q_signed = signed_of q Q q_makes.counts

  abbrev s : Bool
  s = q_signed.0

  abbrev N : ℕ
  N = (2 * Q + 2 ^ 1074) / (2 * 2 ^ 1074)

  m_is : rounded q ≡ whole_of s N
  m_is = rounded-value q s Q (2 ^ 1074) (pow_pos 1074) q_signed.1

  m_finite : T (finite (rounded q))
  m_finite = whole-finite (rounded q) (rounded-whole q (div-fits binary64 x h) fq)

  h_above : T (le plus_zero h)
  h_above = le_of_lt plus_zero h hz

  -- the middle and the centre are on the expectation's side of 0
  side : OneSide x (mul binary64 h (rounded q))
  unfolding of_bits
  side = elim (le_total plus_zero x tt (number_of-finite x xc.is_finite)) [
    | inl l ↦
        above_both l
        (mul-above binary64 h (rounded q) hc.is_finite m_finite h_above
        (unfold rounded in rounded-mono plus_zero q tt fq (div-above binary64 x h xc.is_finite hc.is_finite l hz)))
    | inr l ↦
        below_both l
        (rw (arithmetic.mul_comm binary64 h (rounded q))
        (mul-below binary64 (rounded q) h m_finite hc.is_finite
        (unfold rounded in rounded-mono q plus_zero fq tt (div_below binary64 x h xc.is_finite hc.is_finite l hz)) h_above))
  ]

  module _ (near : too_far (rounded q) ≡ false) (fc : T (finite (mul binary64 h (rounded q)))) (fe : T (finite (sub binary64 x (mul binary64 h (rounded q))))) where
    few : N ≤ 1000000
    few = few-middles s N (subst (λ (z : Float). too_far z ≡ false) m_is near)

    m_whole : HasWhole (rounded q) N
    m_whole = subst (λ (z : Float). HasWhole z N) (sym m_is) (whole_of_lem s N few)

    c_makes : Makes (mul binary64 h (rounded q)) (H * N) 1
    c_makes = mul_whole_makes h (rounded q) H N hc m_whole.is_finite m_whole.is fc

    e_makes : Makes (sub binary64 x (mul binary64 h (rounded q))) (apart E c_makes.count) 1
    e_makes = sub_makes x (mul binary64 h (rounded q)) E c_makes.count xc c_makes.counts side fe

    pub small-error : SmallError (sub binary64 x (mul binary64 h (rounded q))) H
    small-error =
        record {
          A = e_makes.count;
          counts = e_makes.counts;
          small =
              error-small (2 ^ 1074) H E Q N c_makes.count e_makes.count (lit≤ tt) wide q_makes.near
              (cut_low Q (2 ^ 1074))
              (cut_high Q (2 ^ 1074) (pow_pos 1074))
              few
              c_makes.near
              e_makes.near;
        }
