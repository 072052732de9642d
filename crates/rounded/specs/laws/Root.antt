-- Laws of the integer root: `integerRoot` is the whole part of the exact root, and there is one such number.
-- Assumes nothing.
use Rattle.std.specs.Prelude.{◌≡◌, Bool, true, false, not, cond, ℕ, zero, suc, ◌+◌, ◌*◌, ◌/◌, ◌^◌, ◌≤◌, ◌<◌, T, leb}
use Rattle.std.proofs.Common.{mul-le-mul, lt_of_not-le, mul-add, add-mul, mul-one, one-mul, mul_assoc, mul_left_comm, pow-suc, arith, leb→le}
use Rattle.std.proofs.Math.Dec.{nleb→lt}
use Rattle.rounded.specs.Root.{with_digit, integer_root}

-- r is the whole part of the root of n.
pub record IsRoot (r n : ℕ) : Type 0 where
  pub within : r * r ≤ n
  pub next : n < (r + 1) * (r + 1)

square_next : (r : ℕ) → (r + 1) * (r + 1) ≡ r * r + 2 * r + 1
square_next r = simp (mul-add, add-mul, mul-one, one-mul) (omega arith)

square-even : (r : ℕ) → (2 * r) * (2 * r) ≡ 4 * (r * r)
square-even r = simp (mul_assoc, mul_left_comm) (omega arith)

-- One more digit: r is the root of n / 4.
pub digit-root : (r n : ℕ) → IsRoot r (n / 4) → IsRoot (with_digit (2 * r) n) n
unfolding with_digit
digit-root r n h = go (leb ((2 * r + 1) * (2 * r + 1)) n) (leb→le _ n) (nleb→lt _ n)
  where
    go : (b : Bool) → (T b → (2 * r + 1) * (2 * r + 1) ≤ n) → (T (not b) → n < (2 * r + 1) * (2 * r + 1)) → IsRoot (cond b (2 * r + 1) (2 * r)) n
    go true y z =
        record {
          within = y tt;
          next = omega (arith, h.within, h.next, square_next r, square-even r, square_next (2 * r), square_next (2 * r + 1));
        }
    go false y z = record { within = omega (arith, h.within, square-even r); next = z tt }

pub integer_root_is : (k n : ℕ) → n < 4 ^ k → IsRoot (integer_root k n) n
unfolding integer_root
integer_root_is zero n h = record { within = omega arith; next = omega arith }
integer_root_is (suc k) n h = digit-root (integer_root k (n / 4)) n (integer_root_is k (n / 4) (omega (arith, pow-suc 4 k)))

-- It has k digits at most, whatever n is.
digit-below : (r n p : ℕ) → r < p → with_digit (2 * r) n < 2 * p
unfolding with_digit
digit-below r n p h = go (leb ((2 * r + 1) * (2 * r + 1)) n)
  where
    go : (b : Bool) → cond b (2 * r + 1) (2 * r) < 2 * p
    go true = omega arith
    go false = omega arith

pub integer_root-below : (k n : ℕ) → integer_root k n < 2 ^ k
unfolding integer_root
integer_root-below zero n = omega arith
integer_root-below (suc k) n = omega (arith, pow-suc 2 k, digit-below (integer_root k (n / 4)) n (2 ^ k) (integer_root-below k (n / 4)))

-- A number whose square is above n is above the root.
pub root-least : (r s n : ℕ) → IsRoot r n → n < s * s → r < s
root-least r s n h l = lt_of_not-le λ (g : s ≤ r). omega (arith, h.within, mul-le-mul g g)

-- A number whose square is at most n is at most the root.
pub root-most : (r s n : ℕ) → IsRoot r n → s * s ≤ n → s < r + 1
root-most r s n h l = lt_of_not-le λ (g : r + 1 ≤ s). omega (arith, h.next, mul-le-mul g g)
