-- The loop over the call or put entries: what it knows at each entry, one turn, a refusal, and its end. Assumes nothing.
use Rattle.std.specs.Prelude.{Ok, Err}
use Prim.Native.Nat.{ℕ, suc, ◌+◌, ◌≤◌, ◌<◌}
use native.Mathlib.Omega.{arith}
use native.Mathlib.Numerals.{add-one}
use borrow.Author.Rules.{rules}
use mathlib.Core.Path.{◌≡◌, refl, sym, ap, ◌∙◌}
use mathlib.Core.List.{List}
use lib.ListN.{length, get_or, drop, drop_of_length-le}
use lib.Seq.{drop-cons}
use lib.Ieee.{Float, nan}
use Rattle.floats.specs.Refusals.{Refusal}
use Rattle.terms.specs.Terms.{Bond}
use Rattle.floats.specs.Answers.{Outcome, follow, on_outcome}
use Rattle.bondevents.specs.declared.Side.{Side}
use Rattle.bondevents.specs.declared.Exercise.{Exercise}
use Rattle.bondevents.specs.Steps.{Axis}
use Rattle.bondevents.specs.Calls.{with_entry, over_entries}
use Rattle.bondevents.specs.Parts.{entry_of}

-- What the entries from i on make of the steps kept so far is the whole.
pub record Entering (side : Side) (a : Axis) (bond : Bond) (starts ends : List ℕ) (strikes : List Float) (first kept : List Exercise) (i : ℕ) : Type 0 where
  pub within : i ≤ length starts
  pub ends_too : length ends ≡ length starts
  pub strikes_too : length strikes ≡ length starts
  pub rest : over_entries side a bond (drop i starts) (drop i ends) (drop i strikes) kept ≡ over_entries side a bond starts ends strikes first

module _ (side : Side) (a : Axis) (bond : Bond) (starts ends : List ℕ) (strikes : List Float) (first : List Exercise) where
  pub begin : {row : List Exercise} → row ≡ first → length ends ≡ length starts → length strikes ≡ length starts → Entering side a bond starts ends strikes first row 0
  begin p e k = record { within = omega arith; ends_too = e; strikes_too = k; rest = ap (over_entries side a bond starts ends strikes) p }

  module _ (kept : List Exercise) (i : ℕ) (s : Entering side a bond starts ends strikes first kept i) (h : i < length starts) where
    -- The entry at i.
    abbrev entered : Outcome (List Exercise)
    entered = with_entry side a bond (entry_of (get_or starts i 0) (get_or ends i 0) (get_or strikes i nan)) kept

    one_of : over_entries side a bond (drop i starts) (drop i ends) (drop i strikes) kept ≡ follow entered λ cs. over_entries side a bond (drop (suc i) starts) (drop (suc i) ends) (drop (suc i) strikes) cs
    one_of =
        let he : i < length ends = omega (arith, s.ends_too) in
        let hk : i < length strikes = omega (arith, s.strikes_too) in
        rw (drop-cons starts i 0 h, drop-cons ends i 0 he, drop-cons strikes i nan hk) (unfold over_entries in refl)

    module _ {r : Outcome (List Exercise)} (e : r ≡ entered) where
      -- The entry at i, and those behind it.
      after : over_entries side a bond starts ends strikes first ≡ follow r λ cs. over_entries side a bond (drop (suc i) starts) (drop (suc i) ends) (drop (suc i) strikes) cs
      after = sym s.rest ∙ one_of ∙ ap (λ (z : Outcome (List Exercise)). follow z λ cs. over_entries side a bond (drop (suc i) starts) (drop (suc i) ends) (drop (suc i) strikes) cs) (sym e)

      pub next : {cs : List Exercise} → r ≡ Ok cs → Entering side a bond starts ends strikes first cs (i + 1)
      unfolding on_outcome
      next p =
          record {
            within = omega arith;
            ends_too = s.ends_too;
            strikes_too = s.strikes_too;
            rest = rw add-one (sym (after ∙ ap (λ (z : Outcome (List Exercise)). follow z λ cs. over_entries side a bond (drop (suc i) starts) (drop (suc i) ends) (drop (suc i) strikes) cs) p));
          }

      -- A refusal met on the way is handed up unchanged.
      pub stop : {q : Refusal} {z : Outcome (List Exercise)} → r ≡ Err q → z ≡ Err q → z ≡ over_entries side a bond starts ends strikes first
      unfolding on_outcome
      stop p w = w ∙ sym (after ∙ ap (λ (z : Outcome (List Exercise)). follow z λ cs. over_entries side a bond (drop (suc i) starts) (drop (suc i) ends) (drop (suc i) strikes) cs) p)

  pub finish : (kept : List Exercise) (i : ℕ) → Entering side a bond starts ends strikes first kept i → length starts ≤ i → Ok kept ≡ over_entries side a bond starts ends strikes first
  finish kept i s h =
      let z : over_entries side a bond (drop i starts) (drop i ends) (drop i strikes) kept ≡ Ok kept = rw (drop_of_length-le starts h) (unfold over_entries in refl) in
      sym z ∙ s.rest

-- The laws of the loop.
pub ruleset entering = (begin, next, stop, finish, rules)
