-- `straight_checks` meets its contract: the stages follow one another as in the definition. Assumes nothing.
use borrow.Author.Rules.{rules}
use Rattle.terms.proofs.Laws.{passed_first, refused_first, only_one, as_straight}
use Rattle.entrychecks.proofs.entries.straight_checks.Goals as goal

pub returns-in_err-straight_counts : goal.returns-in_err-straight_counts
returns-in_err-straight_counts c = as_straight _ _ _ _ (refused_first _ _ c.straight_counts.ensures.same c.in_err-straight_counts.was (search rules))

pub returns-in_err-straight_days : goal.returns-in_err-straight_days
returns-in_err-straight_days c = as_straight _ _ _ _ (passed_first _ _ c.straight_counts.ensures.same c.in_ok-straight_counts.was (refused_first _ _ c.straight_days.ensures c.in_err-straight_days.was (search rules)))

pub returns-in_err-straight_numbers : goal.returns-in_err-straight_numbers
returns-in_err-straight_numbers c = as_straight _ _ _ _ (passed_first _ _ c.straight_counts.ensures.same c.in_ok-straight_counts.was (passed_first _ _ c.straight_days.ensures c.in_ok-straight_days.was (refused_first _ _ c.straight_numbers.ensures c.in_err-straight_numbers.was (search rules))))

pub returns : goal.returns
returns c = as_straight _ _ _ _ (passed_first _ _ c.straight_counts.ensures.same c.in_ok-straight_counts.was (passed_first _ _ c.straight_days.ensures c.in_ok-straight_days.was (passed_first _ _ c.straight_numbers.ensures c.in_ok-straight_numbers.was (only_one _ c.straight_orders.ensures))))
