-- What the entry answers, with the slices as they were or left all zero. Assumes nothing.
use Rattle.std.specs.Prelude.{ℕ, ◌≡◌, List, length, replicate, ℤ, pos, Float, Ok, Err}
use Rattle.std.proofs.Common.{◌∙◌}
use Rattle.std.proofs.Math.Path.{sym, ap}
use Rattle.floats.specs.Refusals.{Refusal}
use Rattle.floats.specs.Answers.{plus_zero, Check, Outcome, follow, on_outcome}
use Rattle.terms.specs.Checks.{on_check}
use Rattle.terms.specs.Terms.{CallSchedule, Market}
use Rattle.terms.specs.Entries.{tree_checks}
use Rattle.bondevents.specs.Grid.{event_grid}
use Rattle.treebasedbondpricer.specs.declared.TreeValue.{TreeValue}
use Rattle.treebasedbondpricer.specs.Tree.{lattice_value, tree_value, Lent, room_of, zeroed, lent_after}
use Rattle.treebasedbondpricer.specs.Entry.{Entered}
use Rattle.treebasedbondpricer.specs.laws.Entered.{value_on, value_of-checked}

module _ (m : Market) (calls : CallSchedule) {k : Check} (e : k ≡ tree_checks m calls) (before : Lent) where
  abbrev checked : Outcome TreeValue
  checked = on_outcome (follow (event_grid m.settlement m.bond calls m.controls) λ grid. lattice_value m (room_of before) grid) Err λ v. v

  pub entered-refused : {v : Outcome TreeValue} {q : Refusal} → k ≡ Err q → v ≡ Err q → Entered m calls v before before
  unfolding tree_value lent_after on_check
  entered-refused p f =
      record {
        value = f ∙ ap (λ (c : Check). on_check c Err checked) (sym p ∙ e);
        slices = ap (λ (c : Check). on_check c (λ r. before) (zeroed before)) (sym p ∙ e);
      }

  pub entered-zeroed : {v : Outcome TreeValue} {nodes : List ℤ} {probabilities first second : List Float} {a b c d : ℕ} → k ≡ Ok tt → v ≡ value_on m calls (room_of before)
      → nodes ≡ replicate a (pos 0) → probabilities ≡ replicate b plus_zero → first ≡ replicate c plus_zero → second ≡ replicate d plus_zero
      → a ≡ length before.nodes → b ≡ length before.probabilities → c ≡ length before.first → d ≡ length before.second
      → Entered m calls v before (record { nodes = nodes; probabilities = probabilities; first = first; second = second })
  unfolding lent_after on_check
  entered-zeroed {v} p f n o q s g h i j =
      record {
        value = f ∙ value_of-checked m calls (room_of before) (sym e ∙ p);
        slices = rw (n, o, q, s, g, h, i, j) (ap (λ (c : Check). on_check c (λ r. before) (zeroed before)) (sym p ∙ e));
      }
