-- The call-list rule and the reordering rule, of what the running entries answer. Assumes nothing.
use Rattle.std.proofs.Common.{sym, ap, subst, ◌∙◌}
use Rattle.floats.specs.Reasons.{refusal_number}
use Rattle.bondevents.specs.declared.GridAnswer.{GridAnswer}
use Rattle.treebasedbondpricer.specs.Tree.{tree_value, room_of, lent_after}
use Rattle.treebasedbondpricer.specs.CallLists.{Thinned}
use Rattle.treebasedbondpricer.specs.Entry.{EntryCallListRule, EntryReorderingRule}
use Rattle.treebasedbondpricer.proofs.laws.CallLists.{call_list_rule, reordering_rule}

pub entry_call_list_rule : EntryCallListRule
entry_call_list_rule m first second made x n a b lent-first lent-second left_first left_second p q as_long h =
    subst (Thinned x second) (sym (q.value ∙ ap (tree_value m second) as_long))
    (call_list_rule m (room_of lent-first) first second x n made (sym p.value ∙ h))

pub entry_reordering_rule : EntryReorderingRule
entry_reordering_rule m first second made g e z a b lent-first lent-second left_first left_second p q =
    let same = reordering_rule m first second made (ap (λ (y : GridAnswer). refusal_number y.refusal) (sym e) ∙ z) in
    record {
      grid = λ h f. f ∙ same.grids ∙ sym e;
      value = λ as_long. q.value ∙ ap (tree_value m second) as_long ∙ same.values (room_of lent-first) ∙ sym p.value;
      slices = λ alike. q.slices ∙ same.slices lent-second ∙ ap (lent_after m first) alike ∙ sym p.slices;
    }
