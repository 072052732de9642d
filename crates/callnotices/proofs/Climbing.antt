-- The loop that keeps the highest version of a series: what it knows at each index, one turn, and its end. Assumes nothing.
use Prim.Native.Nat.{ℕ, suc, ◌+◌, ◌-◌, ◌≤◌, ◌<◌}
use borrow.Author.Rules.{rules}
use native.Mathlib.Omega.{arith}
use native.Mathlib.Numerals.{add-one}
use mathlib.Core.Path.{◌≡◌, sym, ap, ◌∙◌}
use mathlib.Core.List.{List}
use lib.ListN.{length}
use Rattle.callnotices.specs.Standing.{higher, highest_from, highest}

-- What is left to do from i, with the highest so far, is the whole answer.
pub record Climbing (series versions : List ℕ) (s so_far i : ℕ) : Type 0 where
  pub within : i ≤ length series
  pub rest : highest_from series versions s so_far (length series - i) i ≡ highest series versions s

module _ (series versions : List ℕ) (s : ℕ) where
  pub begin : Climbing series versions s 0 0
  begin =
      record {
        within = omega arith;
        rest = let e : length series - 0 ≡ length series = omega arith in ap (λ (n : ℕ). highest_from series versions s 0 n 0) e;
      }

  pub turn : (so_far i : ℕ) {next : ℕ} → Climbing series versions s so_far i → i < length series → next ≡ higher series versions s so_far i → Climbing series versions s next (i + 1)
  unfolding highest_from
  turn so_far i c h e =
      let left : length series - i ≡ suc (length series - suc i) = omega arith in
      let one : highest_from series versions s so_far (length series - i) i ≡ highest_from series versions s (higher series versions s so_far i) (length series - suc i) (suc i) = rw (left, highest_from) in
      record {
        within = omega arith;
        rest = rw add-one (ap (λ (v : ℕ). highest_from series versions s v (length series - suc i) (suc i)) e ∙ sym one ∙ c.rest);
      }

  pub done : (so_far i : ℕ) → Climbing series versions s so_far i → length series ≤ i → so_far ≡ highest series versions s
  unfolding highest_from
  done so_far i c h =
      let left : length series - i ≡ 0 = omega arith in
      sym (ap (λ (n : ℕ). highest_from series versions s so_far n i) left) ∙ c.rest

-- The laws of the loop.
pub ruleset climbing = (begin, turn, done, rules)
