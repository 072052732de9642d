-- The sum of the counts before a place, added up from the front. Assumes nothing.
use Prim.Native.Nat.{ℕ, ◌+◌, ◌*◌, ◌≤◌, ◌<◌}
use native.Mathlib.Omega.{arith}
use native.Mathlib.Numerals.{add-one}
use mathlib.Core.Path.{◌≡◌, refl, ap, ◌∙◌}
use mathlib.Core.List.{List}
use lib.ListN.{get_or}
use Rattle.bookchecks.specs.Book.{before}

pub record Summed (counts : List ℕ) (i total k : ℕ) : Type 0 where
  pub within : k ≤ i
  pub sum : total ≡ before counts k
  pub small : total ≤ k * 4294967295

pub begin : (counts : List ℕ) (i : ℕ) → Summed counts i 0 0
unfolding before
begin counts i = record { within = omega arith; sum = refl; small = omega arith }

pub more : (counts : List ℕ) (i total k : ℕ) {n : ℕ} → Summed counts i total k → k < i → n ≡ get_or counts k 0 → n ≤ 4294967295 → Summed counts i (total + n) (k + 1)
unfolding before
more counts i total k {n} s h e l =
    record {
      within = omega arith;
      sum = rw (add-one k) (ap (λ (t : ℕ). t + n) s.sum ∙ ap (λ (t : ℕ). before counts k + t) e);
      small = let b = s.small in omega arith;
    }

pub done : (counts : List ℕ) (i total k : ℕ) → Summed counts i total k → i ≤ k → total ≡ before counts i
done counts i total k s h = let e : k ≡ i = omega (arith, s.within) in s.sum ∙ ap (before counts) e
