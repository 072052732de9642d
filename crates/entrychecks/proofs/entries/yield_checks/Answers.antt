-- `yield_checks` meets its contract: the stages follow one another as in the definition. Assumes nothing.
use borrow.Author.Rules.{rules}
use mathlib.Core.Path.{refl}
use Rattle.terms.proofs.Laws.{passed_first, refused_first, only_one, as_yield}
use Rattle.entrychecks.proofs.entries.yield_checks.Goals as goal

pub returns-in_err-yield_counts : goal.returns-in_err-yield_counts
returns-in_err-yield_counts c = as_yield _ _ _ _ _ (refused_first _ _ c.yield_counts.ensures.same c.in_err-yield_counts.was (search rules))

pub returns-in_err-yield_days : goal.returns-in_err-yield_days
returns-in_err-yield_days c = as_yield _ _ _ _ _ (passed_first _ _ c.yield_counts.ensures.same c.in_ok-yield_counts.was (refused_first _ _ c.yield_days.ensures c.in_err-yield_days.was (search rules)))

pub returns-in_err-yield_numbers : goal.returns-in_err-yield_numbers
returns-in_err-yield_numbers c = as_yield _ _ _ _ _ (passed_first _ _ c.yield_counts.ensures.same c.in_ok-yield_counts.was (passed_first _ _ c.yield_days.ensures c.in_ok-yield_days.was (refused_first _ _ c.yield_numbers.ensures c.in_err-yield_numbers.was (search rules))))

pub returns-in_err-any_paid : goal.returns-in_err-any_paid
returns-in_err-any_paid c = as_yield _ _ _ _ _ (passed_first _ _ c.yield_counts.ensures.same c.in_ok-yield_counts.was (passed_first _ _ c.yield_days.ensures c.in_ok-yield_days.was (passed_first _ _ c.yield_numbers.ensures c.in_ok-yield_numbers.was (refused_first _ _ c.any_paid.ensures c.in_err-any_paid.was (search rules)))))

pub returns : goal.returns
returns c = as_yield _ _ _ _ _ (passed_first _ _ c.yield_counts.ensures.same c.in_ok-yield_counts.was (passed_first _ _ c.yield_days.ensures c.in_ok-yield_days.was (passed_first _ _ c.yield_numbers.ensures c.in_ok-yield_numbers.was (passed_first _ _ c.any_paid.ensures c.in_ok-any_paid.was (only_one _ refl)))))
