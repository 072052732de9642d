-- The entry's line is that of what the tree value answers. Assumes nothing.
use Rattle.std.specs.Prelude.{ℕ, ◌≡◌}
use Rattle.std.proofs.Common.{ap, ◌∙◌}
use Rattle.floats.specs.Answers.{Outcome}
use Rattle.terms.specs.Terms.{CallSchedule, Market}
use Rattle.treebasedbondpricer.specs.declared.TreeValue.{TreeValue}
use Rattle.treebasedbondpricer.specs.Tree.{Lent}
use Rattle.treebasedbondpricer.specs.Entry.{Entered}
use Rattle.closingsheet.specs.declared.ClosingLine.{ClosingLine}
use Rattle.closingsheet.specs.Sheet.{NumberedAnswer, by_number, sheet_of}
use Rattle.closingsheet.specs.Entry.{Filed}

pub filed : {r : ClosingLine} (bond : ℕ) (m : Market) (calls : CallSchedule) {a : Outcome TreeValue} {b : NumberedAnswer} (lent after : Lent) → Entered m calls a lent after → b ≡ by_number a → r ≡ sheet_of bond b → Filed bond m calls r lent after
filed bond m calls lent after e n p = record { sheet = p ∙ ap (sheet_of bond) (n ∙ ap by_number e.value); slices = e.slices }
