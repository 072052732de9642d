-- `round` for the packing functions: how many digits of a word are dropped, by its exponent, and what is kept of it.
use mathlib.Core.Path.{◌≡◌, refl, sym, ap, ◌∙◌}
use mathlib.Core.Logic.{inl, inr}
use Prim.Native.Nat.{ℕ, suc, ◌+◌, ◌-◌, ◌*◌, ◌/◌, ◌%◌, ◌^◌, ◌≤◌, ◌<◌, compare}
use native.Mathlib.Nat.{le_trans, le_of_eq, lt_of_lt_of_le, mul-le-mul, mul-pos, mul_assoc, zero-mul, add-sub_of_le, mod-eq_of_lt}
use native.Mathlib.Omega.{arith}
use mathlib.Core.Bool.{Bool}
use lib.Pow.{pow-add, pow_pos, pow_mono, shr_lt}
use lib.Ieee.{binary64, units, round}
use lib.Ieee.Fits.{nearest-le}
use lib.Ieee.Nearest.{closest, nearest-ge}
use lib.Ieee.Scale.{round_same}
use Rattle.rounded.specs.laws.Packing.{word, Kept, Lifted, scale, scale_is, units-over}
use Rattle.rounded.specs.laws.RoundToOdd.{Odd, round-odd, round-word, closest_down, closest_up, closest-tie}

near_le : (v b : ℕ) → closest v b ≤ suc (v / b)
near_le v b = nearest-le (v / b) (compare (v % b * 2) b)

near_ge : (v b : ℕ) → v / b ≤ closest v b
near_ge v b = nearest-ge (v / b) (compare (v % b * 2) b)

module _ (s : Bool) (w e : ℕ) (full : 9223372036854775808 ≤ w) (fits : w < word) where
  pub normal : 1251 ≤ e → round binary64 s (w * 2 ^ e) (2 ^ scale) ≡ units binary64 s (closest w (2 ^ 11)) (e - 1251)
  normal h = round-word binary64 s w e scale (e - 1251) 11 (omega (arith, scale_is)) fits (inr full)

  pub subnormal : e ≤ 1251 → round binary64 s (w * 2 ^ e) (2 ^ scale) ≡ units binary64 s (closest w (2 ^ (1262 - e))) 0
  subnormal h = round-word binary64 s w e scale 0 (1262 - e) (omega (arith, scale_is)) (lt_of_lt_of_le fits (pow_mono {i = 64} {j = 53 + (1262 - e)} (omega arith))) (inl refl)

  pub kept-normal : 1251 ≤ e → e ≤ 3296 → Kept (closest w (2 ^ 11)) (e - 1251)
  kept-normal h l = omega (arith, near_le w 2048, near_ge w 2048)

  pub kept-subnormal : e ≤ 1251 → Kept (closest w (2 ^ (1262 - e))) 0
  kept-subnormal h =
      let q : w / 2 ^ (1262 - e) < 9007199254740992 = shr_lt 53 (1262 - e) (lt_of_lt_of_le fits (pow_mono {i = 64} {j = 53 + (1262 - e)} (omega arith))) in
      omega (arith, near_le w (2 ^ (1262 - e)))

  pub infinite : 3296 < e → round binary64 s (w * 2 ^ e) (2 ^ scale) ≡ units binary64 s 4503599627370496 2046
  infinite h =
      normal (omega arith)
      ∙ units-over binary64 s (closest w (2 ^ 11)) (e - 1251) (le_trans (le_of_eq (pow-add 2 52 2046)) (mul-le-mul {n₁ = 2 ^ 52} {m₁ = 2 ^ 2046} (omega (arith, near_ge w 2048)) (pow_mono {i = 2046} {j = e - 1251} (omega arith))))
      ∙ sym (units-over binary64 s 4503599627370496 2046 (le_of_eq (pow-add 2 52 2046)))

  pub vanishing : e < 1198 → round binary64 s (w * 2 ^ e) (2 ^ scale) ≡ units binary64 s 0 0
  vanishing h =
      let b : 2 ^ 65 ≤ 2 ^ (1262 - e) = pow_mono {i = 65} {j = 1262 - e} (omega arith) in
      subnormal (omega arith) ∙ ap (λ (q : ℕ). units binary64 s q 0) (closest_down w (2 ^ (1262 - e)) 0 w (omega arith) (omega arith))

  pub last_up : e ≡ 1198 → 9223372036854775808 < w → round binary64 s (w * 2 ^ e) (2 ^ scale) ≡ units binary64 s 1 0
  last_up h g =
      subnormal (omega arith)
      ∙ ap (λ (z : ℕ). units binary64 s (closest w (2 ^ (1262 - z))) 0) h
      ∙ ap (λ (q : ℕ). units binary64 s q 0) (closest_up w word 0 w (omega arith) (omega arith) fits)

  pub last_tie : e ≡ 1198 → w ≤ 9223372036854775808 → round binary64 s (w * 2 ^ e) (2 ^ scale) ≡ units binary64 s 0 0
  last_tie h g =
      subnormal (omega arith)
      ∙ ap (λ (z : ℕ). units binary64 s (closest w (2 ^ (1262 - z))) 0) h
      ∙ ap (λ (q : ℕ). units binary64 s q 0) (closest-tie w word 0 w (omega arith) (omega arith) (omega arith))

pub nothing : (s : Bool) (w e : ℕ) → w ≡ 0 → round binary64 s (w * 2 ^ e) (2 ^ scale) ≡ units binary64 s 0 0
nothing s w e z =
    ap (λ (x : ℕ). round binary64 s (x * 2 ^ e) (2 ^ scale)) z
    ∙ ap (λ (x : ℕ). round binary64 s x (2 ^ scale)) (zero-mul (2 ^ e))
    ∙ round-word binary64 s 0 0 scale 0 1262 (omega (arith, scale_is)) (pow_pos (53 + 1262)) (inl refl)
    ∙ ap (λ (q : ℕ). units binary64 s q 0) (closest_down 0 (2 ^ 1262) 0 0 refl (pow_pos 1262))

-- a word moved up by p places, and its exponent down
pub moved : (s : Bool) (w p e : ℕ) → Lifted w p → p ≤ e → round binary64 s (w * 2 ^ p % word * 2 ^ (e - p)) (2 ^ scale) ≡ round binary64 s (w * 2 ^ e) (2 ^ scale)
moved s w p e h l =
    ap (λ (z : ℕ). round binary64 s (z * 2 ^ (e - p)) (2 ^ scale)) (mod-eq_of_lt h.fits)
    ∙ ap (λ (z : ℕ). round binary64 s z (2 ^ scale)) (mul_assoc w (2 ^ p) (2 ^ (e - p)) ∙ ap (λ (z : ℕ). w * z) (sym (pow-add 2 p (e - p)) ∙ ap (λ (z : ℕ). 2 ^ z) (add-sub_of_le l)))

-- a word that stands for more digits, rounded to odd
pub shortened : (s : Bool) (X w p e : ℕ) → Odd X (2 ^ p) w → 9223372036854775808 ≤ w → round binary64 s (w * 2 ^ (e + p)) (2 ^ scale) ≡ round binary64 s (X * 2 ^ e) (2 ^ scale)
shortened s X w p e o h =
    sym (round-odd binary64 s X (2 ^ p) w (e + p) scale (pow_pos p) o (inr (le_trans (pow_mono {i = 54} {j = 63} (omega arith)) h)))
    ∙ round_same binary64 s (X * 2 ^ (e + p)) (2 ^ p * 2 ^ scale) (X * 2 ^ e) (2 ^ scale) (mul-pos (pow_pos p) (pow_pos scale)) (pow_pos scale)
    (ap (λ (z : ℕ). X * z * 2 ^ scale) (pow-add 2 e p) ∙ swap X (2 ^ e) (2 ^ p) (2 ^ scale))
  where
    swap : (x a b c : ℕ) → x * (a * b) * c ≡ x * a * (b * c)
    swap x a b c = simp (mul_assoc)
