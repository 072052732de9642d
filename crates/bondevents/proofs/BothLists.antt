-- The steps of the grid from both lists that the code has gone over, and 38. Assumes nothing.
use Rattle.std.specs.Prelude.{Ok, Err}
use Prim.Native.Nat.{ℕ, ◌+◌, ◌<◌, ◌≤◌}
use native.Mathlib.Omega.{arith}
use mathlib.Core.Path.{◌≡◌, sym, ap, ◌∙◌}
use mathlib.Core.List.{List}
use lib.ListN.{length, get_or, set, replicate}
use lib.Seq.{ext_get_or}
use lib.Ieee.{Float}
use Rattle.floats.specs.Refusals.{Refusal}
use Rattle.floats.specs.Answers.{Check, Outcome, follow, on_outcome}
use Rattle.terms.specs.Terms.{Bond, CallSchedule, no_entries, bond_with_puts}
use Rattle.terms.specs.Checks.{on_check, lowest}
use Rattle.bondevents.specs.declared.Side.{Side}
use Rattle.bondevents.specs.declared.Side.TheVariants.{Call, Put}
use Rattle.bondevents.specs.declared.Exercise.{Exercise}
use Rattle.bondevents.specs.declared.CallStep.{CallStep}
use Rattle.bondevents.specs.Steps.{Axis}
use Rattle.bondevents.specs.Calls.{none, new_step, over_entries, exercises, joined, put_above, puts_below, call_steps}
use Rattle.bondevents.specs.Parts.{no_exercises}
use Rattle.bondevents.proofs.laws.SamePrices.{puts-unread}
use Rattle.bondevents.specs.laws.Joined.{step, joined_at, joined-long}
use Rattle.bondevents.proofs.laws.CallSteps.{filled, steps_are}
use Rattle.bondevents.proofs.Filling.{Filling, more}
use Rattle.terms.proofs.Laws.{same_at}
use Rattle.floats.specs.declared.Reason.TheVariants as reason

-- A list over a row in which nothing stands yet.
pub from_none : (side : Side) (a : Axis) (bond : Bond) (starts ends : List ℕ) (strikes : List Float) {n : Exercise} {r : Outcome (List Exercise)} → n ≡ none
    → r ≡ over_entries side a bond starts ends strikes (replicate 513 n) → r ≡ over_entries side a bond starts ends strikes no_exercises
unfolding no_exercises
from_none side a bond starts ends strikes e p = p ∙ ap (λ (n : Exercise). over_entries side a bond starts ends strikes (replicate 513 n)) e

module _ (a : Axis) (bond : Bond) (calls : CallSchedule) where
  -- One list over all its entries; the prices don't read the puts.
  abbrev pub row : Side → CallSchedule → Outcome (List Exercise)
  row side entries = over_entries side a (bond_with_puts bond no_entries) entries.starts entries.ends entries.strikes no_exercises

  row_is : (side : Side) (entries : CallSchedule) → exercises side a bond entries ≡ row side entries
  unfolding no_exercises
  row_is side entries = puts-unread side a (bond_with_puts bond no_entries) bond.puts entries.starts entries.ends entries.strikes no_exercises

  from_rows : call_steps a bond calls ≡ follow (row Call calls) λ cs. follow (row Put bond.puts) λ ps. filled cs ps
  from_rows =
      steps_are a bond calls
      ∙ ap (λ (o : Outcome (List Exercise)). follow o λ cs. follow (exercises Put a bond bond.puts) λ ps. filled cs ps) (row_is Call calls)
      ∙ ap (λ (o : Outcome (List Exercise)). follow (row Call calls) λ cs. follow o λ ps. filled cs ps) (row_is Put bond.puts)

  module _ {r : Outcome (List Exercise)} (e : r ≡ row Call calls) where
    called : call_steps a bond calls ≡ follow r λ cs. follow (row Put bond.puts) λ ps. filled cs ps
    called = from_rows ∙ ap (λ (o : Outcome (List Exercise)). follow o λ cs. follow (row Put bond.puts) λ ps. filled cs ps) (sym e)

    -- The calls are refused.
    pub calls-stop : {s : Refusal} {z : Outcome (List CallStep)} → r ≡ Err s → z ≡ Err s → z ≡ call_steps a bond calls
    unfolding on_outcome
    calls-stop c w = w ∙ sym (called ∙ ap (λ (o : Outcome (List Exercise)). follow o λ cs. follow (row Put bond.puts) λ ps. filled cs ps) c)

    module _ {cs : List Exercise} (c : r ≡ Ok cs) {t : Outcome (List Exercise)} (f : t ≡ row Put bond.puts) where
      with_puts_lem : call_steps a bond calls ≡ follow t λ ps. filled cs ps
      unfolding on_outcome
      with_puts_lem =
          called
          ∙ ap (λ (o : Outcome (List Exercise)). follow o λ cs. follow (row Put bond.puts) λ ps. filled cs ps) c
          ∙ ap (λ (o : Outcome (List Exercise)). follow o λ ps. filled cs ps) (sym f)

      -- The puts are refused.
      pub puts-stop : {s : Refusal} {z : Outcome (List CallStep)} → t ≡ Err s → z ≡ Err s → z ≡ call_steps a bond calls
      unfolding on_outcome
      puts-stop d w = w ∙ sym (with_puts_lem ∙ ap (λ (o : Outcome (List Exercise)). follow o λ ps. filled cs ps) d)

      module _ {ps : List Exercise} (d : t ≡ Ok ps) {steps : List CallStep} (j : steps ≡ joined cs ps) {k : Check} (b : k ≡ puts_below steps) where
        -- Both lists are filled in: 38 is left.
        whole : call_steps a bond calls ≡ on_check k Err (Ok steps)
        unfolding on_outcome
        whole =
            with_puts_lem
            ∙ ap (λ (o : Outcome (List Exercise)). follow o λ ps. filled cs ps) d
            ∙ ap (λ (z : List CallStep). on_check (puts_below z) Err (Ok z)) (sym j)
            ∙ ap (λ (z : Check). on_check z Err (Ok steps)) (sym b)

        -- A put stands above a call.
        pub above-stop : {s : Refusal} {z : Outcome (List CallStep)} → k ≡ Err s → z ≡ Err s → z ≡ call_steps a bond calls
        unfolding on_check
        above-stop x w = w ∙ sym (whole ∙ ap (λ (y : Check). on_check y Err (Ok steps)) x)

        pub all_filled : {u : Unit {0}} → k ≡ Ok u → Ok steps ≡ call_steps a bond calls
        unfolding on_check
        all_filled x = sym (whole ∙ ap (λ (y : Check). on_check y Err (Ok steps)) x)

-- ---- the loop that joins both rows

-- The steps before i are joined.
abbrev pub Joining : List Exercise → List Exercise → ℕ → List CallStep → Type 0
Joining cs ps i table = Filling (λ k. step (get_or cs k none) (get_or ps k none)) new_step 513 i table

pub joined_all : (cs ps : List Exercise) (i : ℕ) (table : List CallStep) → length cs ≡ 513 → length ps ≡ 513 → 513 ≤ i → Joining cs ps i table → table ≡ joined cs ps
joined_all cs ps i table n m l s =
    ext_get_or new_step table (joined cs ps) (s.sized ∙ sym (joined-long cs ps (m ∙ sym n) ∙ n))
    (λ k h. s.at k (omega (arith, s.sized)) ∙ sym (joined_at cs ps k (m ∙ sym n)))

-- One step more, whatever stands past the rows' ends.
pub joins : (cs ps : List Exercise) (i : ℕ) (table : List CallStep) (d e : Exercise) → length cs ≡ 513 → length ps ≡ 513 → i < 513 → Joining cs ps i table
    → Joining cs ps (i + 1) (set table i (step (get_or cs i d) (get_or ps i e)))
joins cs ps i table d e n m h s =
    more _ new_step 513 i table s h λ j. record { call = same_at cs i d none (omega arith) j; put = same_at ps i e none (omega arith) j }

-- ---- the loop that looks for a put above its call

pub sought-below : (steps : List CallStep) {r : Check} → length steps ≡ 513 → r ≡ lowest reason.PutAbove (λ k. put_above (get_or steps k new_step)) 513 0 → r ≡ puts_below steps
sought-below steps n e = e ∙ ap (λ (m : ℕ). lowest reason.PutAbove (λ k. put_above (get_or steps k new_step)) m 0) (sym n)
