-- The loop that adds paid amounts into their steps: what it knows at each index, one turn, and its end. Assumes nothing.
use Prim.Native.Nat.{ℕ, suc, ◌+◌, ◌≤◌, ◌<◌}
use native.Mathlib.Omega.{arith}
use native.Mathlib.Numerals.{add-one}
use borrow.Author.Rules.{rules}
use borrow.Author.Tests.{lt-ltb, le-ltb}
use mathlib.Core.Path.{◌≡◌, refl, sym, ap, ◌∙◌}
use mathlib.Core.Bool.{cond}
use mathlib.Core.List.{List}
use lib.ListN.{length, get_or, drop, set, replicate, length-set, length-replicate, drop_of_length-le}
use lib.Seq.{drop-cons}
use lib.Dec.{ltb}
use lib.Ieee.{Float, nan, binary64, add}
use Rattle.floats.specs.Answers.{plus_zero}
use Rattle.terms.proofs.Laws.{same_at}
use Rattle.bondevents.specs.Steps.{Axis, step_of, paid_into}

-- What is left to pay from i on, into this row, gives the whole row.
pub record Paying (a : Axis) (days : List ℕ) (amounts row : List Float) (i : ℕ) : Type 0 where
  pub within : i ≤ length days
  pub amounts_too : length amounts ≡ length days
  pub size : length row ≡ 513
  pub rest : paid_into a (drop i days) (drop i amounts) row ≡ paid_into a days amounts (replicate 513 plus_zero)

-- The row with one more cashflow.
abbrev paid : Axis → ℕ → Float → List Float → List Float
paid a day amount row = cond (ltb a.settlement day) (set row (step_of a day) (add binary64 (get_or row (step_of a day) plus_zero) amount)) row

module _ (a : Axis) (days : List ℕ) (amounts : List Float) where
  pub begin : length amounts ≡ length days → Paying a days amounts (replicate 513 plus_zero) 0
  begin h = record { within = omega arith; amounts_too = h; size = length-replicate 513 plus_zero; rest = refl }

  turn : (row next : List Float) (i : ℕ) → Paying a days amounts row i → i < length days → next ≡ paid a (get_or days i 0) (get_or amounts i plus_zero) row → length next ≡ 513 → Paying a days amounts next (i + 1)
  turn row next i s h e n =
      record {
        within = omega arith;
        amounts_too = s.amounts_too;
        size = n;
        rest = rw add-one (ap (paid_into a (drop (suc i) days) (drop (suc i) amounts)) e ∙ sym one ∙ s.rest);
      }
    where
      one : paid_into a (drop i days) (drop i amounts) row ≡ paid_into a (drop (suc i) days) (drop (suc i) amounts) (paid a (get_or days i 0) (get_or amounts i plus_zero) row)
      one =
          let ha : i < length amounts = omega (arith, s.amounts_too) in
          rw (drop-cons days i 0 h, drop-cons amounts i plus_zero ha) (unfold paid_into in refl)

  -- A cashflow that is paid, into its step.
  pub turn-paid :
      (row : List Float) (i : ℕ) {step : ℕ}
      → Paying a days amounts row i
      → i < length days
      → a.settlement < get_or days i 0
      → step ≡ step_of a (get_or days i 0)
      → step ≤ 512
      → Paying a days amounts (set row step (add binary64 (get_or row step nan) (get_or amounts i nan))) (i + 1)
  turn-paid row i {step} s h p e few =
      turn row (set row step (add binary64 (get_or row step nan) (get_or amounts i nan))) i s h
      (rw (same_at row step nan plus_zero (omega (arith, s.size)), same_at amounts i nan plus_zero (omega (arith, s.amounts_too)), lt-ltb a.settlement (get_or days i 0) p, e) refl)
      (length-set row step (add binary64 (get_or row step nan) (get_or amounts i nan)) ∙ s.size)

  pub turn-unpaid : (row : List Float) (i : ℕ) → Paying a days amounts row i → i < length days → get_or days i 0 ≤ a.settlement → Paying a days amounts row (i + 1)
  turn-unpaid row i s h p = turn row row i s h (rw (le-ltb a.settlement (get_or days i 0) p) refl) s.size

  pub done : (row : List Float) (i : ℕ) → Paying a days amounts row i → length days ≤ i → row ≡ paid_into a days amounts (replicate 513 plus_zero)
  done row i s h = sym (rw (drop_of_length-le days h) (unfold paid_into in refl)) ∙ s.rest

-- The laws of the loop.
pub ruleset paying = (begin, turn-paid, turn-unpaid, done, rules)
