-- A loop that looks for the lowest index at which a cause holds: what it knows at each index, and what it has found where it stops. Assumes nothing.
use Rattle.floats.specs.declared.Reason.{Reason}
use Rattle.std.specs.Prelude.{Ok, Err}
use Prim.Native.Nat.{ℕ, suc, ◌+◌, ◌-◌, ◌≤◌, ◌<◌}
use borrow.Author.Rules.{rules}
use native.Mathlib.Omega.{arith}
use native.Mathlib.Numerals.{add-one}
use mathlib.Core.Path.{◌≡◌, sym, ap, ◌∙◌}
use mathlib.Core.Bool.{Bool, true, false, cond}
use Rattle.floats.specs.Answers.{Check}
use Rattle.terms.specs.Checks.{lowest}

-- The cause holds at no index before i: what is left to do from i is the whole answer.
pub record Seeking (why : Reason) (bad : ℕ → Bool) (count i : ℕ) : Type 0 where
  pub within : i ≤ count
  pub rest : lowest why bad (count - i) i ≡ lowest why bad count 0

module _ (why : Reason) (bad : ℕ → Bool) (count : ℕ) where
  -- One index, of those that are left.
  one_of : (i : ℕ) → i < count → lowest why bad (count - i) i ≡ cond (bad i) (Err (record { reason = why; place = i })) (lowest why bad (count - suc i) (suc i))
  unfolding lowest
  one_of i h = let e : count - i ≡ suc (count - suc i) = omega arith in rw (e, lowest)

  pub begin : Seeking why bad count 0
  begin = record { within = omega arith; rest = let e : count - 0 ≡ count = omega arith in ap (λ (n : ℕ). lowest why bad n 0) e }

  pub turn : (i : ℕ) {f : Bool} → Seeking why bad count i → i < count → f ≡ bad i → f ≡ false → Seeking why bad count (i + 1)
  turn i s h e t =
      record {
        within = omega arith;
        rest = rw add-one (sym (one_of i h ∙ ap (λ (z : Bool). cond z (Err (record { reason = why; place = i })) (lowest why bad (count - suc i) (suc i))) (sym e ∙ t)) ∙ s.rest);
      }

  pub found : (i : ℕ) {f : Bool} {r : Check} → Seeking why bad count i → i < count → f ≡ bad i → f ≡ true → r ≡ Err (record { reason = why; place = i }) → r ≡ lowest why bad count 0
  found i s h e t p =
      p
      ∙ sym (one_of i h ∙ ap (λ (z : Bool). cond z (Err (record { reason = why; place = i })) (lowest why bad (count - suc i) (suc i))) (sym e ∙ t))
      ∙ s.rest

  pub done : (i : ℕ) {r : Check} → Seeking why bad count i → count ≤ i → r ≡ Ok tt → r ≡ lowest why bad count 0
  unfolding lowest
  done i s h p = let e : count - i ≡ 0 = omega arith in p ∙ sym (ap (λ (n : ℕ). lowest why bad n i) e) ∙ s.rest

-- The laws of such a loop.
pub ruleset seeking = (begin, turn, found, done, rules)
