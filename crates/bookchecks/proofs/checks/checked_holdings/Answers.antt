-- `checked_holdings` meets its contract: the size, the desks, then the bonds. Assumes nothing.
use Rattle.std.proofs.Common.{rules, ap, ◌∙◌}
use Rattle.terms.specs.Checks.{single}
use Rattle.bookchecks.specs.Checks.{at_bond}
use Rattle.bookchecks.proofs.Books.{held_size-refused, held_desk-refused, held_bonds-checked, held-refused}
use Rattle.bookchecks.proofs.checks.checked_holdings.Goals as goal
use Rattle.floats.specs.declared.Reason.TheVariants as reason

pub returns-in_err-at_bond : goal.returns-in_err-at_bond
returns-in_err-at_bond c =
    held-refused _ (search rules) (held_size-refused _ c.size-size.ensures (c.at_bond.ensures ∙ ap (at_bond 0) (c.single.ensures ∙ ap (single reason.BookSize 0) c.out_of.ensures)) c.in_err-at_bond.was)

pub returns-in_err-desk_checks : goal.returns-in_err-desk_checks
returns-in_err-desk_checks c =
    held-refused _ (search rules) (held_desk-refused _ c.size-size.ensures (c.at_bond.ensures ∙ ap (at_bond 0) (c.single.ensures ∙ ap (single reason.BookSize 0) c.out_of.ensures)) c.in_ok-at_bond.was c.holdings-held.ensures c.desk_checks.ensures c.in_err-desk_checks.was)

pub returns-in_err-all_checks : goal.returns-in_err-all_checks
returns-in_err-all_checks c =
    held-refused _ (search rules) (held_bonds-checked _ c.size-size.ensures (c.at_bond.ensures ∙ ap (at_bond 0) (c.single.ensures ∙ ap (single reason.BookSize 0) c.out_of.ensures)) c.in_ok-at_bond.was c.holdings-held.ensures c.desk_checks.ensures c.in_ok-desk_checks.was c.all_checks.ensures ∙ c.in_err-all_checks.was)

pub returns : goal.returns
returns c =
    (held_bonds-checked _ c.size-size.ensures (c.at_bond.ensures ∙ ap (at_bond 0) (c.single.ensures ∙ ap (single reason.BookSize 0) c.out_of.ensures)) c.in_ok-at_bond.was c.holdings-held.ensures c.desk_checks.ensures c.in_ok-desk_checks.was c.all_checks.ensures ∙ c.in_ok-all_checks.was, c.holdings-held.ensures)
