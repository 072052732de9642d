-- The nearest whole number by the quotient and twice the rest, with the unit as a shift makes it. Assumes nothing.
use Prim.Native.Nat.{ℕ, ◌+◌, ◌*◌, ◌/◌, ◌%◌, ◌^◌, ◌≤◌, ◌<◌}
use mathlib.Core.Path.{◌≡◌, sym, subst}
use native.Mathlib.Nat.{mul-one, mul-le-mul_left, div-add-mod', mod-lt}
use native.Mathlib.Omega.{arith}
use lib.Pow.{pow_pos, pow_mono}
use lib.Ieee.Nearest.{closest}
use Rattle.rounded.specs.laws.RoundToOdd.{closest_down, closest_up, closest-tie}
use Rattle.rounded.proofs.pack.Numbers.{unit, unit-is}

module _ (v b : ℕ) (B : 0 < b) where
  down_at : 2 * (v % b) < b → v / b ≡ closest v b
  down_at h = sym (closest_down v b (v / b) (v % b) (sym (div-add-mod' v b)) (omega arith))

  up_at : b < 2 * (v % b) → v / b + 1 ≡ closest v b
  up_at h = sym (closest_up v b (v / b) (v % b) (sym (div-add-mod' v b)) (omega arith) (mod-lt v B))

  tie_at : 2 * (v % b) ≡ b → v / b + v / b % 2 ≡ closest v b
  tie_at h = sym (closest-tie v b (v / b) (v % b) (sym (div-add-mod' v b)) (omega arith) B)

  room_at : b ≤ 2 * (v % b) → v / b + 1 ≤ v
  room_at h =
      let l : v / b * 1 ≤ v / b * b = mul-le-mul_left (v / b) B in
      omega (arith, mul-one (v / b), div-add-mod' v b)

  least_at : v % b < b
  least_at = mod-lt v B

module _ (v p : ℕ) (h : p ≤ 63) where
  pub some : 0 < unit p
  some = subst (λ (u : ℕ). 0 < u) (sym (unit-is p h)) (pow_pos p)

  pub most : unit p ≤ 2 ^ 63
  most = subst (λ (u : ℕ). u ≤ 2 ^ 63) (sym (unit-is p h)) (pow_mono h)

  pub rest : v % unit p < unit p
  rest = least_at v (unit p) some

  pub room : unit p ≤ 2 * (v % unit p) → v / unit p + 1 ≤ v
  room = room_at v (unit p) some

  pub nearest_down : 2 * (v % unit p) < unit p → v / unit p ≡ closest v (2 ^ p)
  nearest_down = subst (λ (u : ℕ). 2 * (v % u) < u → v / u ≡ closest v (2 ^ p)) (sym (unit-is p h)) (down_at v (2 ^ p) (pow_pos p))

  pub nearest_up : unit p < 2 * (v % unit p) → v / unit p + 1 ≡ closest v (2 ^ p)
  nearest_up = subst (λ (u : ℕ). u < 2 * (v % u) → v / u + 1 ≡ closest v (2 ^ p)) (sym (unit-is p h)) (up_at v (2 ^ p) (pow_pos p))

  pub nearest-tie : 2 * (v % unit p) ≡ unit p → v / unit p + v / unit p % 2 ≡ closest v (2 ^ p)
  nearest-tie = subst (λ (u : ℕ). 2 * (v % u) ≡ u → v / u + v / u % 2 ≡ closest v (2 ^ p)) (sym (unit-is p h)) (tie_at v (2 ^ p) (pow_pos p))
