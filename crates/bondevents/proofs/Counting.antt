-- A loop that adds up the redemptions that are counted: what it knows at each index, one turn, and its end. For every rule of what is counted. Assumes nothing.
use Prim.Native.Nat.{ℕ, suc, ◌+◌, ◌≤◌, ◌<◌}
use native.Mathlib.Omega.{arith}
use native.Mathlib.Numerals.{add-one}
use borrow.Author.Rules.{rules}
use mathlib.Core.Path.{◌≡◌, refl, sym, ap, ◌∙◌}
use mathlib.Core.Bool.{Bool, cond, ◌&&◌}
use mathlib.Core.List.{List, [], ◌∷◌}
use lib.ListN.{length, get_or, drop, drop_of_length-le}
use lib.Seq.{drop-cons}
use lib.Dec.{eqb, ltb}
use lib.Ieee.{Float, nan, binary64, add}
use Rattle.floats.specs.Answers.{plus_zero}
use Rattle.terms.specs.Terms.{Leg}
use Rattle.bondevents.specs.Steps.{Axis}
use Rattle.bondevents.specs.Calls.{redemptions, redemption_step_of}
use Rattle.bondevents.specs.Parts.{FlowSteps, Principals, principal_after}
use Rattle.bondevents.proofs.laws.Repaid.{one_more}
use Rattle.bondevents.proofs.Filling.{Filling}

-- What is left to add from i on, to this total, is the whole sum. The list of days, or of steps, may be longer than the cashflows.
pub record Counting (after : ℕ → Bool) (days kinds : List ℕ) (amounts : List Float) (total : Float) (i : ℕ) : Type 0 where
  pub within : i ≤ length kinds
  pub days_too : length kinds ≤ length days
  pub amounts_too : length amounts ≡ length kinds
  pub rest : redemptions after (drop i days) (drop i kinds) (drop i amounts) total ≡ redemptions after days kinds amounts plus_zero

none_left : (after : ℕ → Bool) (days : List ℕ) (amounts : List Float) (total : Float) → redemptions after days [] amounts total ≡ total
none_left after [] amounts total = unfold redemptions in refl
none_left after (day ∷ days) amounts total = unfold redemptions in refl

module _ (after : ℕ → Bool) (days kinds : List ℕ) (amounts : List Float) where
  pub begin : length kinds ≤ length days → length amounts ≡ length kinds → Counting after days kinds amounts plus_zero 0
  begin d a = record { within = omega arith; days_too = d; amounts_too = a; rest = refl }

  -- One more cashflow.
  pub turn :
      (total : Float) (i : ℕ) {r : Float} {f : Bool} (d : Float)
      → Counting after days kinds amounts total i
      → i < length kinds
      → r ≡ cond (eqb (get_or kinds i 0) 1 && f) (add binary64 total (get_or amounts i d)) total
      → f ≡ after (get_or days i 0)
      → Counting after days kinds amounts r (i + 1)
  turn total i {r} {f} d s h e t =
      record {
        within = omega arith;
        days_too = s.days_too;
        amounts_too = s.amounts_too;
        rest =
            rw add-one
            (ap (redemptions after (drop (suc i) days) (drop (suc i) kinds) (drop (suc i) amounts))
            (e ∙ ap (λ (z : Bool). cond (eqb (get_or kinds i 0) 1 && z) (add binary64 total (get_or amounts i d)) total) t)
            ∙ sym one ∙ s.rest);
      }
    where
      one :
          redemptions after (drop i days) (drop i kinds) (drop i amounts) total
          ≡ redemptions after (drop (suc i) days) (drop (suc i) kinds) (drop (suc i) amounts)
          (cond (eqb (get_or kinds i 0) 1 && after (get_or days i 0)) (add binary64 total (get_or amounts i d)) total)
      one =
          let hd : i < length days = omega (arith, s.days_too) in
          let ha : i < length amounts = omega (arith, s.amounts_too) in
          rw (drop-cons days i 0 hd, drop-cons kinds i 0 h, drop-cons amounts i d ha) (unfold redemptions in refl)

  pub done : (total : Float) (i : ℕ) → Counting after days kinds amounts total i → length kinds ≤ i → total ≡ redemptions after days kinds amounts plus_zero
  done total i s h = sym (rw (drop_of_length-le kinds h) (none_left after (drop i days) (drop i amounts) total)) ∙ s.rest

  pub done-days : (total : Float) (i : ℕ) → Counting after days kinds amounts total i → length days ≤ i → total ≡ redemptions after days kinds amounts plus_zero
  done-days total i s h = done total i s (omega (arith, s.days_too))

-- The same sum over a table that has a number for each day.
by_table : (f : ℕ → ℕ) (after : ℕ → Bool) (days table kinds : List ℕ) (amounts : List Float) (total : Float)
    → length kinds ≡ length days → length days ≤ length table → ((i : ℕ) → i < length days → get_or table i 0 ≡ f (get_or days i 0))
    → redemptions after table kinds amounts total ≡ redemptions (λ day. after (f day)) days kinds amounts total
by_table f after [] table [] amounts total n l t = none_left after table amounts total ∙ unfold redemptions in refl
by_table f after [] table (kind ∷ kinds) amounts total n l t = absurd (omega arith)
by_table f after (day ∷ days) table [] amounts total n l t = absurd (omega arith)
by_table f after (day ∷ days) [] (kind ∷ kinds) amounts total n l t = absurd (omega arith)
by_table f after (day ∷ days) (step ∷ table) (kind ∷ kinds) [] total n l t = unfold redemptions in refl
by_table f after (day ∷ days) (step ∷ table) (kind ∷ kinds) (amount ∷ amounts) total n l t =
    one_more after step kind amount table kinds amounts total
    ∙ by_table f after days table kinds amounts _ (omega arith) (omega arith) (λ i h. t (suc i) (omega arith))
    ∙ ap (λ (s : ℕ). redemptions (λ d. after (f d)) days kinds amounts (cond (eqb kind 1 && after s) (add binary64 total amount) total)) (t 0 (omega arith))
    ∙ sym (one_more (λ d. after (f d)) day kind amount days kinds amounts total)

-- A window's principal, from the table of steps.
from_steps : (a : Axis) (leg : Leg) (table : List ℕ) (step : ℕ) {r : Float} → FlowSteps a leg.days table
    → length leg.kinds ≡ length leg.days → length leg.days ≤ 256
    → r ≡ redemptions (ltb step) table leg.kinds leg.amounts plus_zero → r ≡ principal_after a leg step
from_steps a leg table step s k few e =
    e ∙ by_table (redemption_step_of a) (ltb step) leg.days table leg.kinds leg.amounts plus_zero k (omega (arith, s.size)) s.at

-- A table of them, filled up to the last step.
pub all_steps : (a : Axis) (leg : Leg) (steps : ℕ) {reached : List ℕ} {table : List Float} {i : ℕ} → FlowSteps a leg.days reached
    → length leg.kinds ≡ length leg.days → length leg.days ≤ 256
    → Filling (λ step. redemptions (ltb step) reached leg.kinds leg.amounts plus_zero) nan 513 i table → steps ≤ i
    → Principals a leg steps table
all_steps a leg steps {reached} s k few filled h =
    record { size = filled.sized; at = λ step l. from_steps a leg reached step s k few (filled.at step (omega arith)) }

-- The laws of such a loop.
pub ruleset counting = (begin, turn, done, done-days, rules)
