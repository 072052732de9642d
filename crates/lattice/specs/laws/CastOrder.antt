-- A cast to a signed integer keeps the order of finite floats: it cuts off what is behind the point. Assumes nothing.
use Rattle.std.specs.Prelude.{ℕ, zero, suc, ◌-◌, ◌*◌, ◌/◌, ◌^◌, ◌≤◌, ◌<◌, min, ◌≡◌, true, false, T, ℤ, pos, negsuc, neg_ℤ, Float}
use Rattle.std.proofs.Common.{le_trans, le-div_iff_mul-le, div-mul-le_self, mul-le-mul_right, le_of_mul-le-mul_right, mul_right_comm, arith, le→leb, leb→le}
use Rattle.std.proofs.Math.Nat.{zero-div, le-min, min-le_left, min-le_right}
use Rattle.std.specs.Int.Signed.{le_z, mag}
use Rattle.std.specs.Float.{nan, inf, fin, binary64}
use Rattle.std.specs.Float.Ieee.{up, down, le, lt, neg, of_bits, to_signed, in_signed, whole}
use Rattle.std.specs.Float.Ieee.Fits.{down_pos}
use Rattle.std.specs.Float.Ieee.Scale.{finite}
use Rattle.floats.specs.laws.Fractions.{leq_of_le}
use Rattle.floats.specs.laws.Order.{le_of_not_lt, number_of-finite, T-of_not}
use Rattle.floats.specs.laws.Cuts.{IsWhole, whole-finite}
use Rattle.floats.specs.laws.Casts.{signed-between}
use Rattle.terms.specs.Numbers.{million}
use Rattle.lattice.specs.laws.Bounds.{Within}

-- a / c ≤ b / d, cut
cut-mono : (a b c d : ℕ) → 0 < c → 0 < d → a * d ≤ b * c → a / c ≤ b / d
cut-mono a b c d C D h =
    let q : a / c * c ≤ a = div-mul-le_self a c in
    let r : a / c * c * d ≤ a * d = mul-le-mul_right d q in
    let s : a / c * d * c ≤ b * c = rw (mul_right_comm (a / c) d c) (le_trans r h) in
    (le-div_iff_mul-le D).1 (le_of_mul-le-mul_right s C)

min-mono : (a b k : ℕ) → a ≤ b → min a k ≤ min b k
min-mono a b k h = le-min (le_trans (min-le_left a k) h) (min-le_right a k)

minus-mono : (a b : ℕ) → b ≤ a → T (le_z (neg_ℤ (pos a)) (neg_ℤ (pos b)))
minus-mono zero zero h = tt
minus-mono zero (suc b) h = absurd (omega arith)
minus-mono (suc a) zero h = tt
minus-mono (suc a) (suc b) h = le→leb b a (omega arith)

minus-below : (a b : ℕ) → T (le_z (neg_ℤ (pos a)) (pos b))
minus-below zero b = le→leb 0 b (omega arith)
minus-below (suc a) b = tt

nil-below : (a b : ℕ) → a ≤ 0 → b ≤ 0 → T (le_z (pos a) (neg_ℤ (pos b)))
nil-below zero zero h k = tt
nil-below zero (suc b) h k = absurd (omega arith)
nil-below (suc a) b h k = absurd (omega arith)

pub cast_mono : (h : ℕ) (x y : Float) → T (finite x) → T (finite y) → T (le x y) → T (le_z (to_signed h x) (to_signed h y))
unfolding to_signed
cast_mono h nan y p q l = absurd p
cast_mono h (inf s) y p q l = absurd p
cast_mono h (fin s m e) nan p q l = absurd q
cast_mono h (fin s m e) (inf t) p q l = absurd q
cast_mono h (fin false m e) (fin false n d) p q l =
    let k = (leq_of_le (fin false m e) (fin false n d) tt tt l).holds in
    le→leb (min (m * up e / down e) (2 ^ h - 1)) (min (n * up d / down d) (2 ^ h - 1))
    (min-mono _ _ (2 ^ h - 1) (cut-mono (m * up e) (n * up d) (down e) (down d) (down_pos e) (down_pos d) (omega arith)))
cast_mono h (fin true m e) (fin true n d) p q l =
    let k = (leq_of_le (fin true m e) (fin true n d) tt tt l).holds in
    minus-mono (min (m * up e / down e) (2 ^ h)) (min (n * up d / down d) (2 ^ h))
    (min-mono _ _ (2 ^ h) (cut-mono (n * up d) (m * up e) (down d) (down e) (down_pos d) (down_pos e) (omega arith)))
cast_mono h (fin true m e) (fin false n d) p q l = minus-below (min (m * up e / down e) (2 ^ h)) (min (n * up d / down d) (2 ^ h - 1))
cast_mono h (fin false m e) (fin true n d) p q l =
    let k = (leq_of_le (fin false m e) (fin true n d) tt tt l).holds in
    let a = cut-mono (m * up e) 0 (down e) (down d) (down_pos e) (down_pos d) (omega arith) in
    let b = cut-mono (n * up d) 0 (down d) (down e) (down_pos d) (down_pos e) (omega arith) in
    nil-below _ _ (le_trans (min-le_left (m * up e / down e) (2 ^ h - 1)) (rw (zero-div (down d)) at a)) (le_trans (min-le_left (n * up d / down d) (2 ^ h)) (rw (zero-div (down e)) at b))

-- ---- a middle

size-between : (z : ℤ) → T (le_z (negsuc 999999) z) → T (le_z z (pos 1000000)) → mag z ≤ 1000000
size-between (pos n) l h = leb→le n 1000000 h
size-between (negsuc n) l h = let k = leb→le n 999999 l in omega arith

module _ (y : Float) (w : IsWhole y) (below : lt y (neg million) ≡ false) (above : lt million y ≡ false) where
  least : T (le (neg million) y)
  unfolding of_bits neg
  least = le_of_not_lt y (neg million) (number_of-finite y (whole-finite y w)) tt (T-of_not (lt y (neg million)) below)

  most : T (le y million)
  unfolding of_bits
  most = le_of_not_lt million y tt (number_of-finite y (whole-finite y w)) (T-of_not (lt million y) above)

  pub middle_in : T (in_signed binary64 31 y)
  middle_in =
      signed-between 31 (neg million) y million w (unfold neg in unfold of_bits in unfold in_signed in unfold whole in tt)
      (unfold of_bits in unfold in_signed in unfold whole in tt)
      least
      most

  pub middle-within : Within (to_signed 31 y)
  unfolding neg of_bits to_signed
  middle-within =
      record {
        within =
            size-between (to_signed 31 y) (cast_mono 31 (neg million) y tt (whole-finite y w) least)
            (cast_mono 31 y million (whole-finite y w) tt most);
      }
