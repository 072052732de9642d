-- Definitions only. A digest of lists of numbers, by which two people can tell which of their inputs differ.
use Rattle.std.specs.Prelude.{ℕ, zero, suc, ◌+◌, ◌*◌, ◌%◌, cond, List, length, get_or, Float}
use Rattle.std.specs.Float.{binary64}
use Rattle.std.specs.Float.Ieee.{eq, to_bits}
use Rattle.floats.specs.Answers.{plus_zero}

-- One number more: the digest so far × 2,147,483,629, plus the number, modulo 4,294,967,291. Both are primes.
unfoldable pub mixed : ℕ → ℕ → ℕ
mixed h x = (h % 4294967291 * 2147483629 + x % 4294967291) % 4294967291

-- The first n of some numbers, one after the other.
unfoldable pub mixed_up_to : ℕ → (ℕ → ℕ) → ℕ → ℕ
unfolding mixed
mixed_up_to h f zero = h
mixed_up_to h f (suc n) = mixed (mixed_up_to h f n) (f n)

-- The items of a list, each of which counts by a number; the item beside them is read nowhere.
abbrev pub digest_by : {A : Type 0} → (A → ℕ) → A → ℕ → List A → ℕ
digest_by counted d h xs = mixed_up_to h (λ i. counted (get_or xs i d)) (length xs)

-- Whole numbers as they are.
abbrev pub wholes_digest : ℕ → List ℕ → ℕ
wholes_digest h xs = digest_by (λ x. x) 0 h xs

-- A number counts by its 64 bits; a NaN, which doesn't equal itself, as 0.
unfoldable pub bits_of : Float → ℕ
bits_of x = cond (eq x x) (to_bits binary64 x) 0

abbrev pub numbers_digest : ℕ → List Float → ℕ
numbers_digest h xs = digest_by bits_of plus_zero h xs
