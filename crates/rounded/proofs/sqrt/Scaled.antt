-- The root of n, doubled and rounded to odd, against that of n × 4^t, which has t digits more: the first is the second, rounded to odd.
-- So the double nearest to it, scaled, is the root.
-- Assumes nothing.
use mathlib.Core.Path.{◌≡◌, refl, sym, ap, ◌∙◌}
use Prim.Native.Nat.{ℕ, ◌+◌, ◌*◌, ◌%◌, ◌^◌, ◌≤◌, ◌<◌}
use native.Mathlib.Nat.{le_trans, le_of_eq, lt_of_lt_of_le, lt_of_le_of_lt, lt_of_not-le, not-le_of_lt, mul-pos, mul-le-mul, mul-le-mul_right, mul-lt-mul_of_pos_right, mul-mul-mul_comm, mul_assoc, add-mul, one-mul}
use native.Mathlib.Omega.{arith}
use mathlib.Core.Bool.{false}
use mathlib.Core.Logic.{inr}
use lib.Pow.{pow-add, pow_pos}
use lib.Ieee.{Float, binary64, round}
use lib.Ieee.Positive.{num, den}
use lib.Ieee.Scale.{round_same}
use Rattle.rounded.specs.Root.{root_of}
use Rattle.rounded.specs.laws.Root.{IsRoot, root-least, root-most}
use Rattle.rounded.specs.laws.RootValue.{Twice, whole, cut, Doubled, rooted}
use Rattle.rounded.specs.laws.RoundToOdd.{Odd, exact, near, round-odd}
use Rattle.rounded.specs.laws.Packing.{scale, scale_is}

-- of two numbers the one with the smaller square
smaller : (a b : ℕ) → a * a < b * b → a < b
smaller a b h = lt_of_not-le λ (g : b ≤ a). not-le_of_lt h (mul-le-mul g g)

not_larger : (a b : ℕ) → a * a ≤ b * b → a < b + 1
not_larger a b h = smaller a (b + 1) (lt_of_le_of_lt h (mul_lt b))
  where
    mul_lt : (b : ℕ) → b * b < (b + 1) * (b + 1)
    mul_lt b = omega (arith, mul-le-mul {n₁ = b} {m₁ = b} {n₂ = b + 1} {m₂ = b} (omega arith) (omega arith), simp (add-mul, one-mul) at (mul-le-mul {n₁ = b + 1} {m₁ = b + 1} {n₂ = b + 1} {m₂ = b + 1} (omega arith) (omega arith)))

module _ (r n w R N W D : ℕ) (D-pos : 0 < D) (e : N ≡ n * (D * D)) (h : IsRoot r n) (H : IsRoot R N) where
  square : r * D * (r * D) ≡ r * r * (D * D)
  square = mul-mul-mul_comm r D r D

  low : r * D < R + 1
  low = root-most R (r * D) N H (le_trans (le_of_eq square) (le_trans (mul-le-mul_right (D * D) h.within) (le_of_eq (sym e))))

  high : R < (r + 1) * D
  high =
      root-least R ((r + 1) * D) N H
      (lt_of_le_of_lt (le_of_eq e)
      (lt_of_lt_of_le (mul-lt-mul_of_pos_right h.next (mul-pos D-pos D-pos)) (le_of_eq (sym (mul-mul-mul_comm (r + 1) D (r + 1) D)))))

  product : (2 * r + 1) * D ≡ 2 * (r * D) + D
  product = simp (add-mul, mul_assoc, one-mul)

  next : (r + 1) * D ≡ r * D + D
  next = simp (add-mul, one-mul)

  -- where n is a square, the root of N is r × D
  exactly : r * r ≡ n → N ≡ r * D * (r * D)
  exactly a = e ∙ ap (λ (z : ℕ). z * (D * D)) (sym a) ∙ sym square

  -- where it isn't, r × D is less
  less : r * r < n → r * D * (r * D) < N
  less a = lt_of_le_of_lt (le_of_eq square) (lt_of_lt_of_le (mul-lt-mul_of_pos_right a (mul-pos D-pos D-pos)) (le_of_eq (sym e)))

  odd : w ≡ 2 * r + 1 → w % 2 ≡ 1
  odd b = omega arith

  pub odd-root : Twice r n w → Twice R N W → Odd W D w
  odd-root (whole a b) (whole c d) =
      exact (d ∙ omega (arith, low, not_larger R (r * D) (le_of_eq (c ∙ exactly a)), mul_assoc 2 r D) ∙ ap (λ (z : ℕ). z * D) (sym b))
  odd-root (whole a b) (cut c d) = absurd (omega (arith, low, smaller R (r * D) (lt_of_lt_of_le c (le_of_eq (exactly a)))))
  odd-root (cut a b) (whole c d) =
      let k : r * D < R = smaller (r * D) R (lt_of_lt_of_le (less a) (le_of_eq (sym c))) in
      let q : w * D ≡ 2 * (r * D) + D = ap (λ (z : ℕ). z * D) b ∙ product in
      near {X = W} {D = D} {w = w} (odd b) (omega (arith, high, next)) (omega arith)
  odd-root (cut a b) (cut c d) =
      let q : w * D ≡ 2 * (r * D) + D = ap (λ (z : ℕ). z * D) b ∙ product in
      near {X = W} {D = D} {w = w} (odd b) (omega (arith, high, next)) (omega (arith, low))

-- ---- the double nearest to w × 2^(t + 1261) / 2^2336 is the root, where x × 2^2148 is n × 4^t

digits : (r n w : ℕ) → 2 ^ 53 * 2 ^ 53 ≤ n → IsRoot r n → Twice r n w → 2 ^ 54 ≤ w
digits r n w l h t = last t (root-most r (2 ^ 53) n h l)
  where
    last : Twice r n w → 2 ^ 53 < r + 1 → 2 ^ 54 ≤ w
    last (whole a b) g = omega arith
    last (cut a b) g = omega arith

places : (t : ℕ) → t + scale ≡ t + 1261 + 1075
places t = ap (λ (z : ℕ). t + z) scale_is ∙ omega arith

powers : (w t : ℕ) → w * (2 ^ t * 2 ^ scale) ≡ w * 2 ^ (t + 1261) * 2 ^ 1075
powers w t =
    ap (λ (z : ℕ). w * z) (sym (pow-add 2 t scale) ∙ ap (λ (z : ℕ). 2 ^ z) (places t) ∙ pow-add 2 (t + 1261) 1075)
    ∙ sym (mul_assoc w (2 ^ (t + 1261)) (2 ^ 1075))

pub root-packed : (x : Float) (n t w : ℕ) → 0 < num x → num x * 2 ^ 2148 ≡ n * (2 ^ t * 2 ^ t) * den x → n * (2 ^ t * 2 ^ t) < 4 ^ 1586 → 2 ^ 53 * 2 ^ 53 ≤ n → Doubled n w
    → root_of x ≡ round binary64 false (w * 2 ^ (t + 1261)) (2 ^ scale)
root-packed x n t w p e b l d =
    let r = rooted x (n * (2 ^ t * 2 ^ t)) p e b in
    let o = r.doubling in
    r.is
    ∙ round_same binary64 false r.w (2 ^ 1075) (r.w * 2 ^ (t + 1261)) (2 ^ t * 2 ^ scale) (pow_pos 1075) (mul-pos (pow_pos t) (pow_pos scale)) (powers r.w t)
    ∙ round-odd binary64 false r.w (2 ^ t) w (t + 1261) scale (pow_pos t)
    (odd-root d.r n w o.r (n * (2 ^ t * 2 ^ t)) r.w (2 ^ t) (pow_pos t) refl d.root o.root d.twice o.twice)
    (inr (digits d.r n w l d.root d.twice))
