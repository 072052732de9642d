-- A loop that looks for the lowest index at which a test holds: what it knows at each index, and what it has found where it stops. Assumes nothing.
use Prim.Native.Nat.{ℕ, suc, ◌+◌, ◌-◌, ◌≤◌, ◌<◌}
use borrow.Author.Rules.{rules}
use native.Mathlib.Omega.{arith}
use native.Mathlib.Numerals.{add-one}
use mathlib.Core.Path.{◌≡◌, sym, ap, ◌∙◌}
use mathlib.Core.Bool.{Bool, true, false, cond}
use Rattle.callnotices.specs.Standing.{first_from}

-- The test holds at no index before i: what is left to do from i is the whole answer.
pub record Looking (test : ℕ → Bool) (count i : ℕ) : Type 0 where
  pub within : i ≤ count
  pub rest : first_from test (count - i) i ≡ first_from test count 0

module _ (test : ℕ → Bool) (count : ℕ) where
  -- One index, of those that are left.
  one_of : (i : ℕ) → i < count → first_from test (count - i) i ≡ cond (test i) i (first_from test (count - suc i) (suc i))
  unfolding first_from
  one_of i h = let e : count - i ≡ suc (count - suc i) = omega arith in rw (e, first_from)

  known : (i : ℕ) {f : Bool} (b : Bool) → i < count → f ≡ test i → f ≡ b → first_from test (count - i) i ≡ cond b i (first_from test (count - suc i) (suc i))
  known i b h e t = one_of i h ∙ ap (λ (z : Bool). cond z i (first_from test (count - suc i) (suc i))) (sym e ∙ t)

  pub begin : Looking test count 0
  begin = record { within = omega arith; rest = let e : count - 0 ≡ count = omega arith in ap (λ (n : ℕ). first_from test n 0) e }

  pub turn : (i : ℕ) {f : Bool} → Looking test count i → i < count → f ≡ test i → f ≡ false → Looking test count (i + 1)
  turn i s h e t = record { within = omega arith; rest = rw add-one (sym (known i false h e t) ∙ s.rest) }

  pub found : (i : ℕ) {f : Bool} → Looking test count i → i < count → f ≡ test i → f ≡ true → i ≡ first_from test count 0
  found i s h e t = sym (known i true h e t) ∙ s.rest

  pub done : (i : ℕ) → Looking test count i → count ≤ i → count ≡ first_from test count 0
  unfolding first_from
  done i s h =
      let e : count - i ≡ 0 = omega arith in
      let same : count ≡ i = omega (arith, s.within) in
      same ∙ sym (ap (λ (n : ℕ). first_from test n i) e) ∙ s.rest

-- The laws of such a loop.
pub ruleset looking = (begin, turn, found, done, rules)
