-- A product with a power of five, cut to its sixteenth and made odd where something was cut off, is as near to a whole number as it was. Assumes nothing.
use Prim.Native.Nat.{ℕ, ◌+◌, ◌-◌, ◌*◌, ◌/◌, ◌%◌, ◌^◌, ◌≤◌}
use mathlib.Core.Path.{◌≡◌, sym, ap, ◌∙◌}
use native.Mathlib.Nat.{le_trans, le_of_eq, mul-add, mul_assoc, mul-le-mul, div-add-mod', pow-le-pow_right}
use native.Mathlib.Omega.{arith}
use lib.Pow.{pow-add, pow_pos}
use lib.Ieee.Nearest.{closest}
use Rattle.rounded.specs.laws.Packing.{Stuck}
use Rattle.rounded.specs.laws.RoundToOdd.{closest-odd}
use Rattle.rounded.proofs.pack.Numbers.{odd_stuck}
use Rattle.decimal.specs.laws.Division.{ten-pos}

pub five_most : (k : ℕ) → k ≤ 6 → 5 ^ k ≤ 15625
five_most k h = pow-le-pow_right {n = 5} (omega arith) h

pub five_few : (k : ℕ) → k ≤ 4 → 5 ^ k ≤ 625
five_few k h = pow-le-pow_right {n = 5} (omega arith) h

pub ten-few : (k : ℕ) → k ≤ 6 → 10 ^ k ≤ 1000000
ten-few k h = pow-le-pow_right {n = 10} (omega arith) h

pub whole-product : (k d : ℕ) {five : ℕ} → k ≤ 4 → five ≡ 5 ^ k → d ≤ 2 ^ 53 → five * d ≤ 625 * 2 ^ 53
whole-product k d h e l = mul-le-mul (le_trans (le_of_eq e) (five_few k h)) l

pub low_product : (k d : ℕ) {five : ℕ} → k ≤ 6 → five ≡ 5 ^ k → five * (d % 16) ≤ 15625 * 16
low_product k d h e = mul-le-mul {m₂ = 16} (le_trans (le_of_eq e) (five_most k h)) (omega arith)

pub high_product : (k d : ℕ) {five : ℕ} → k ≤ 6 → five ≡ 5 ^ k → d ≤ 2 ^ 53 → five * (d / 16) ≤ 15625 * 2 ^ 49
high_product k d h e l = mul-le-mul {m₂ = 2 ^ 49} (le_trans (le_of_eq e) (five_most k h)) (omega arith)

cut : (five d : ℕ) → five * d ≡ (five * (d / 16) + five * (d % 16) / 16) * 16 + five * (d % 16) % 16
cut five d =
    ap (λ (z : ℕ). five * z) (sym (div-add-mod' d 16))
    ∙ mul-add five (d / 16 * 16) (d % 16)
    ∙ ap (λ (z : ℕ). z + five * (d % 16)) (sym (mul_assoc five (d / 16) 16))
    ∙ joined (five * (d / 16)) (five * (d % 16))
  where
    joined : (a l : ℕ) → a * 16 + l ≡ (a + l / 16) * 16 + l % 16
    joined a l = omega arith

sixteen : (shift : ℕ) → 6 ≤ shift → 2 ^ shift ≡ 16 * (4 * 2 ^ (shift - 6))
sixteen shift h = ap (λ (z : ℕ). 2 ^ z) (parts shift h) ∙ pow-add 2 4 (2 + (shift - 6)) ∙ ap (λ (z : ℕ). 16 * z) (pow-add 2 2 (shift - 6))
  where
    parts : (s : ℕ) → 6 ≤ s → s ≡ 4 + (2 + (s - 6))
    parts s h = omega arith

four : (shift : ℕ) → 6 ≤ shift → 2 ^ (shift - 4) ≡ 4 * 2 ^ (shift - 6)
four shift h = ap (λ (z : ℕ). 2 ^ z) (parts shift h) ∙ pow-add 2 2 (shift - 6)
  where
    parts : (s : ℕ) → 6 ≤ s → s - 4 ≡ 2 + (s - 6)
    parts s h = omega arith

pub cut-nearest : {r five w : ℕ} (k d shift : ℕ) → five ≡ 5 ^ k → 6 ≤ shift → Stuck (five * (d / 16) + five * (d % 16) / 16) (five * (d % 16) % 16) w
    → r ≡ closest w (2 ^ (shift - 4)) → r ≡ closest (5 ^ k * d) (2 ^ shift)
cut-nearest {r} {five} {w} k d shift e h s g =
    g
    ∙ ap (closest w) (four shift h)
    ∙ sym (closest-odd (five * d) 16 w (2 ^ (shift - 6)) (omega arith) (pow_pos (shift - 6)) (odd_stuck (five * d) 16 (five * (d / 16) + five * (d % 16) / 16) (five * (d % 16) % 16) w (cut five d) (omega arith) s))
    ∙ ap (closest (five * d)) (sym (sixteen shift h))
    ∙ ap (λ (z : ℕ). closest (z * d) (2 ^ shift)) e

pub whole-nearest : {r five : ℕ} (k d shift : ℕ) → five ≡ 5 ^ k → r ≡ closest (five * d) (2 ^ shift) → r ≡ closest (5 ^ k * d) (2 ^ shift)
whole-nearest k d shift e g = g ∙ ap (λ (z : ℕ). closest (z * d) (2 ^ shift)) e

pub ruleset cutting = (five_most, whole-product, low_product, high_product, whole-nearest, cut-nearest)

pub ruleset tens = (ten-pos, ten-few)
