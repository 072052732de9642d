-- A loop that writes a rule's value of each element of one row into another row: at its end that row is the rule over the whole row. Assumes nothing.
use Prim.Native.Nat.{ℕ, ◌≤◌}
use native.Mathlib.Omega.{arith}
use mathlib.Core.Path.{◌≡◌, ◌∙◌, sym}
use mathlib.Core.List.{List, map}
use lib.ListN.{length, get_or, length-map, get_or-map}
use lib.Seq.{ext_get_or}
use mathlib.Core.Bool.{false}
use lib.Ieee.{nan}
use Rattle.bondevents.specs.declared.CallStep.{CallStep}
use Rattle.bondevents.proofs.Filling.{Filling}

-- What stands past the end of a row of steps.
abbrev pub past_end : CallStep
past_end = record { call = record { marked = false; price = nan }; put = record { marked = false; price = nan } }

module _ {A B : Type 0} (f : A → B) (d : A) (size : ℕ) (source : List A) where
  -- The places before i hold the rule's values.
  abbrev pub Copying : ℕ → List B → Type 0
  Copying i table = Filling (λ k. f (get_or source k d)) (f d) size i table

  pub copied : (i : ℕ) (table : List B) → length source ≡ size → size ≤ i → Copying i table → table ≡ map f source
  copied i table e l s =
      ext_get_or (f d) table (map f source) (s.sized ∙ sym (length-map source f ∙ e))
      (λ k h. s.at k (omega (arith, s.sized)) ∙ sym (get_or-map f source k d))
