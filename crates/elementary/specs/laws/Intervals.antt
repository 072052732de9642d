-- exp's series is not below 0 for any argument r from -2 on. From -2 to 0 its terms are followed in intervals, cell by cell of r, by one test that is computed.
-- Above 0 no term is below 0. Assumes nothing.
use Prim.Native.Nat.{ℕ, zero, suc, ◌+◌}
use Rattle.std.proofs.Common.{inl, inr, arith}
use Rattle.std.proofs.Math.Bool.{Bool}
use Rattle.std.specs.Prelude.{true, false, ◌&&◌, T, pos, negsuc, Float}
use Rattle.std.specs.Float.{fin}
use Rattle.std.specs.Float.Ieee.{binary64, of_bits, of_int, add, mul, div, lt, le}
use Rattle.std.specs.Float.Ieee.Scale.{finite}
use Rattle.std.specs.Float.Ieee.Fits.{and_l, and_r}
use Rattle.floats.specs.Answers.{plus_zero, one}
use Rattle.floats.specs.laws.Fractions.{decide, le_of_leq}
use Rattle.floats.specs.laws.Order as order
use Rattle.floats.specs.laws.Arithmetic.{add_mono_right, mul_mono_left, mul_anti_right, div_mono_left}
use Rattle.floats.specs.laws.Bounds.{mul-lower}
use Rattle.floats.specs.laws.Signs.{add-above, mul-above, div-above}
use Rattle.floats.specs.laws.Propagation.{finite-back, finite-clash, add_right, div_left}
use Rattle.elementary.specs.laws.Exponential.{plain_term, plain_series, series_spoils}

-- ---- one term, for r from a to b, neither above 0, and p from lo to hi, neither below 0

-- u and v are the products at the ends, s and t the quotients
ready : Float → Float → Float → Float → Float → Bool
ready n u v s t = lt plus_zero n && finite n && finite u && finite v && finite s && finite t && finite (add binary64 one s) && finite (add binary64 one t)

bounded : ℕ → Float → Float → Float → Float → Bool
unfolding ready
bounded zero a b lo hi = true
bounded (suc c) a b lo hi =
    let n = of_int binary64 (pos (0 + suc c)) in
    let u = mul binary64 a hi in
    let v = mul binary64 b lo in
    let s = div binary64 u n in
    let t = div binary64 v n in
    ready n u v s t && le plus_zero (add binary64 one s) && bounded c a b (add binary64 one s) (add binary64 one t)

record Ready (n u v s t : Float) : Type 0 where
  positive : T (lt plus_zero n)
  divisor : T (finite n)
  low : T (finite u)
  high : T (finite v)
  low_part : T (finite s)
  high_part : T (finite t)
  low_sum : T (finite (add binary64 one s))
  high_sum : T (finite (add binary64 one t))

eight : (a b c d e f g h : Bool) → T (a && b && c && d && e && f && g && h) → T a × T b × T c × T d × T e × T f × T g × T h
eight true true true true true true true true x = (tt, tt, tt, tt, tt, tt, tt, tt)
eight false b c d e f g h x = elim x [ ]
eight true false c d e f g h x = elim x [ ]
eight true true false d e f g h x = elim x [ ]
eight true true true false e f g h x = elim x [ ]
eight true true true true false f g h x = elim x [ ]
eight true true true true true false g h x = elim x [ ]
eight true true true true true true false h x = elim x [ ]
eight true true true true true true true false x = elim x [ ]

is_ready : (n u v s t : Float) → T (ready n u v s t) → Ready n u v s t
unfolding ready
is_ready n u v s t h =
    let k = eight (lt plus_zero n) (finite n) (finite u) (finite v) (finite s) (finite t) (finite (add binary64 one s)) (finite (add binary64 one t)) h in
    record {
      positive = k.0;
      divisor = k.1;
      low = k.2;
      high = k.3;
      low_part = k.4;
      high_part = k.5;
      low_sum = k.6;
      high_sum = k.7;
    }

module _ (n a b lo hi r p : Float)
    (k : Ready n (mul binary64 a hi) (mul binary64 b lo) (div binary64 (mul binary64 a hi) n) (div binary64 (mul binary64 b lo) n))
    (fa : T (finite a)) (fb : T (finite b)) (za : T (le a plus_zero)) (zb : T (le b plus_zero))
    (fl : T (finite lo)) (fh : T (finite hi)) (zl : T (le plus_zero lo))
    (fr : T (finite r)) (ra : T (le a r)) (rb : T (le r b))
    (fp : T (finite p)) (pl : T (le lo p)) (ph : T (le p hi)) where
  product-low : T (le (mul binary64 a hi) (mul binary64 r p))
  product-low = mul-lower binary64 r a p hi fr fa fp fh za ra (order.le_trans plus_zero lo p zl pl) ph

  product_high : T (le (mul binary64 r p) (mul binary64 b lo))
  product_high =
      order.le_trans (mul binary64 r p) (mul binary64 b p) (mul binary64 b lo)
      (mul_mono_left binary64 r b p fr fb fp (order.le_trans plus_zero lo p zl pl) rb)
      (mul_anti_right binary64 b lo p fb fl fp zb pl)

  product-finite : T (finite (mul binary64 r p))
  product-finite = order.between (mul binary64 a hi) (mul binary64 r p) (mul binary64 b lo) k.low k.high product-low product_high

  quotient-low : T (le (div binary64 (mul binary64 a hi) n) (div binary64 (mul binary64 r p) n))
  quotient-low = div_mono_left binary64 (mul binary64 a hi) (mul binary64 r p) n k.low product-finite k.divisor k.positive product-low

  quotient-high : T (le (div binary64 (mul binary64 r p) n) (div binary64 (mul binary64 b lo) n))
  quotient-high = div_mono_left binary64 (mul binary64 r p) (mul binary64 b lo) n product-finite k.high k.divisor k.positive product_high

  quotient-finite : T (finite (div binary64 (mul binary64 r p) n))
  quotient-finite = order.between (div binary64 (mul binary64 a hi) n) (div binary64 (mul binary64 r p) n) (div binary64 (mul binary64 b lo) n) k.low_part k.high_part quotient-low quotient-high

  term-low : T (le (add binary64 one (div binary64 (mul binary64 a hi) n)) (add binary64 one (div binary64 (mul binary64 r p) n)))
  unfolding of_bits
  term-low = add_mono_right binary64 one (div binary64 (mul binary64 a hi) n) (div binary64 (mul binary64 r p) n) tt k.low_part quotient-finite quotient-low

  term-high : T (le (add binary64 one (div binary64 (mul binary64 r p) n)) (add binary64 one (div binary64 (mul binary64 b lo) n)))
  unfolding of_bits
  term-high = add_mono_right binary64 one (div binary64 (mul binary64 r p) n) (div binary64 (mul binary64 b lo) n) tt quotient-finite k.high_part quotient-high

  term-finite : T (finite (add binary64 one (div binary64 (mul binary64 r p) n)))
  term-finite =
      order.between (add binary64 one (div binary64 (mul binary64 a hi) n)) (add binary64 one (div binary64 (mul binary64 r p) n)) (add binary64 one (div binary64 (mul binary64 b lo) n))
      k.low_sum k.high_sum term-low term-high

-- ---- every term

module _ (a b r : Float) (fa : T (finite a)) (fb : T (finite b)) (za : T (le a plus_zero)) (zb : T (le b plus_zero)) (fr : T (finite r)) (ra : T (le a r)) (rb : T (le r b)) where
  follow : (c : ℕ) (lo hi p : Float) → T (bounded c a b lo hi) → T (finite lo) → T (finite hi) → T (le plus_zero lo) → T (finite p) → T (le lo p) → T (le p hi) → T (le plus_zero (plain_series 0 c r p))
  unfolding plain_series bounded
  follow zero lo hi p h fl fh zl fp pl ph = order.le_trans plus_zero lo p zl pl
  follow (suc c) lo hi p h fl fh zl fp pl ph =
      let n = of_int binary64 (pos (0 + suc c)) in
      let u = mul binary64 a hi in
      let v = mul binary64 b lo in
      let s = div binary64 u n in
      let t = div binary64 v n in
      let x : Bool = ready n u v s t in
      let y : Bool = le plus_zero (add binary64 one s) in
      let z : Bool = bounded c a b (add binary64 one s) (add binary64 one t) in
      let k = is_ready n u v s t (and_l x y (and_l (x && y) z h)) in
      follow c (add binary64 one s) (add binary64 one t) (plain_term (0 + suc c) r p) (and_r (x && y) z h) k.low_sum k.high_sum (and_r x y (and_l (x && y) z h))
      (term-finite n a b lo hi r p k fa fb za zb fl fh zl fr ra rb fp pl ph)
      (term-low n a b lo hi r p k fa fb za zb fl fh zl fr ra rb fp pl ph)
      (term-high n a b lo hi r p k fa fb za zb fl fh zl fr ra rb fp pl ph)

-- ---- r not below 0: what isn't finite on the way isn't finite at the end

-- the divisors are above 0
divisors : ℕ → Bool
divisors zero = true
divisors (suc c) = lt plus_zero (of_int binary64 (pos (0 + suc c))) && finite (of_int binary64 (pos (0 + suc c))) && divisors c

divisors_hold : T (divisors 13)
unfolding divisors of_int of_bits lt
divisors_hold = tt

upwards : (c : ℕ) (r p : Float) → T (divisors c) → T (le plus_zero r) → T (finite r) → T (le plus_zero p) → T (finite p) → T (finite (plain_series 0 c r p)) → T (le plus_zero (plain_series 0 c r p))
unfolding plain_series divisors of_bits
upwards zero r p d zr fr zp fp f = zp
upwards (suc c) r p d zr fr zp fp f =
    let n = of_int binary64 (pos (0 + suc c)) in
    let t = mul binary64 r p in
    let q = div binary64 t n in
    let x : Bool = lt plus_zero n in
    let y : Bool = finite n in
    let fs = finite-back (add binary64 one q) (λ h. finite-clash (plain_series 0 c r (add binary64 one q)) f (series_spoils 0 c r (add binary64 one q) h)) in
    let fq = finite-back q (λ h. finite-clash (add binary64 one q) fs (add_right binary64 one q h)) in
    let ft = finite-back t (λ h. finite-clash q fq (div_left binary64 t n h)) in
    let zq = div-above binary64 t n ft (and_r x y (and_l (x && y) (divisors c) d)) (mul-above binary64 r p fr fp zr zp) (and_l x y (and_l (x && y) (divisors c) d)) in
    upwards c r (add binary64 one q) (and_r (x && y) (divisors c) d) zr fr (add-above binary64 one q tt fq (unfold le in tt) zq) fs f

-- ---- the cells of r, an eighth wide

-- -j / 8
eighth : ℕ → Float
eighth j = fin true j (negsuc 2)

cells : ℕ → Bool
unfolding bounded eighth
cells zero = true
cells (suc j) = bounded 13 (eighth (suc j)) (eighth j) one one && cells j

eighth-below : (j : ℕ) → T (le (eighth j) plus_zero)
unfolding eighth of_bits
eighth-below j = le_of_leq (fin true j (negsuc 2)) plus_zero tt tt (record { holds = omega arith })

zero-below : T (le plus_zero (eighth 0))
unfolding eighth of_bits le
zero-below = tt

in_cell : (j : ℕ) (r : Float) → T (cells j) → T (finite r) → T (le (eighth j) r) → T (finite (plain_series 0 13 r one)) → T (le plus_zero (plain_series 0 13 r one))
unfolding cells eighth of_bits
in_cell zero r h fr l f = upwards 13 r one divisors_hold (order.le_trans plus_zero (eighth 0) r zero-below l) fr (unfold le in tt) tt f
in_cell (suc j) r h fr l f =
    elim (decide (le (eighth j) r)) [
      | inl m ↦ in_cell j r (and_r (bounded 13 (eighth (suc j)) (eighth j) one one) (cells j) h) fr m f
      | inr m ↦
          follow (eighth (suc j)) (eighth j) r tt tt (eighth-below (suc j)) (eighth-below j) fr l (order.le_of_lt r (eighth j) (order.lt_of_not_le r (eighth j) (order.number_of-finite r fr) tt m))
          13 one one one (and_l (bounded 13 (eighth (suc j)) (eighth j) one one) (cells j) h) tt tt (unfold le in tt) tt (unfold le in tt) (unfold le in tt)
    ]

-- -2
abbrev pub minus_two : Float
minus_two = of_bits binary64 0xc000_0000_0000_0000

pub series-above : (r : Float) → T (finite r) → T (le minus_two r) → T (finite (plain_series 0 13 r one)) → T (le plus_zero (plain_series 0 13 r one))
unfolding cells bounded ready eighth of_bits of_int mul div add lt le
series-above r fr l f = in_cell 16 r tt fr (order.le_trans (eighth 16) minus_two r tt l) f
