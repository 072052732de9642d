-- `book_value` meets its contract: the checks, the values, and the slices left all zero. Assumes nothing.
use native.Mathlib.Omega.{arith}
use mathlib.Core.Path.{refl, ap, ◌∙◌}
use Rattle.bookvalue.specs.laws.Answers.{answer_of}
use Rattle.bookvalue.proofs.laws.Answers.{few-nodes, few-of_tree}
use Rattle.bookvalue.proofs.laws.Entered.{entered-refused, entered-zeroed, entered_as, held-refused, held-passed, held-few, held-checked, held-valued}
use Rattle.bookvalue.proofs.entry.book_value.Goals as goal

pub all_values-valued-requires : goal.all_values-valued-requires
all_values-valued-requires c = (held-few _ c.checked_holdings.ensures c.in-Ok.is c.size-size.ensures, held-checked _ c.checked_holdings.ensures c.in-Ok.is c.size-size.ensures)

pub answer_of-requires : goal.answer_of-requires
answer_of-requires c =
    let g = c.well_formed.1.1.0 in
    (held-few _ c.checked_holdings.ensures c.in-Ok.is c.size-size.ensures, few-nodes _ _ c.all_values-valued.ensures (λ i. few-of_tree _ _ _ (omega (arith, g))))

pub returns-in-Ok : goal.returns-in-Ok
returns-in-Ok c =
    entered-zeroed _ _ refl (held-passed _ c.checked_holdings.ensures c.in-Ok.is)
    (held-valued _ c.checked_holdings.ensures c.in-Ok.is c.size-size.ensures _ c.all_values-valued.ensures) (c.answer_of.ensures ∙ ap (answer_of _ _) c.size-size.ensures)
    c.zero_numbers.ensures c.zero_floats.ensures c.zero_floats-in-Ok.ensures c.zero_floats-in-Ok-2.ensures
    c.all_values-valued.auto.nodes c.all_values-valued.auto.probabilities c.all_values-valued.auto.first c.all_values-valued.auto.second

pub returns-in-Err : goal.returns-in-Err
returns-in-Err c = entered_as c.refused_book.ensures (entered-refused _ _ refl (held-refused _ c.checked_holdings.ensures c.in-Err.is))
