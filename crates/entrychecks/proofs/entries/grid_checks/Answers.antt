-- `grid_checks` meets its contract: the stages follow one another as in the definition. Assumes nothing.
use borrow.Author.Rules.{rules}
use Rattle.terms.proofs.Laws.{passed_first, refused_first, only_one, as_grid_lem}
use Rattle.entrychecks.proofs.entries.grid_checks.Goals as goal

pub returns-in_err-grid_counts : goal.returns-in_err-grid_counts
returns-in_err-grid_counts c = as_grid_lem _ _ _ _ (refused_first _ _ c.grid_counts.ensures.same c.in_err-grid_counts.was (search rules))

pub returns-in_err-put_most : goal.returns-in_err-put_most
returns-in_err-put_most c = as_grid_lem _ _ _ _ (passed_first _ _ c.grid_counts.ensures.same c.in_ok-grid_counts.was (refused_first _ _ (only_one _ c.put_most.ensures.same) c.in_err-put_most.was (search rules)))

pub returns-in_err-grid_days : goal.returns-in_err-grid_days
returns-in_err-grid_days c = as_grid_lem _ _ _ _ (passed_first _ _ c.grid_counts.ensures.same c.in_ok-grid_counts.was (passed_first _ _ (only_one _ c.put_most.ensures.same) c.in_ok-put_most.was (refused_first _ _ c.grid_days.ensures c.in_err-grid_days.was (search rules))))

pub returns-in_err-grid_numbers : goal.returns-in_err-grid_numbers
returns-in_err-grid_numbers c = as_grid_lem _ _ _ _ (passed_first _ _ c.grid_counts.ensures.same c.in_ok-grid_counts.was (passed_first _ _ (only_one _ c.put_most.ensures.same) c.in_ok-put_most.was (passed_first _ _ c.grid_days.ensures c.in_ok-grid_days.was (refused_first _ _ c.grid_numbers.ensures c.in_err-grid_numbers.was (search rules)))))

pub returns : goal.returns
returns c = as_grid_lem _ _ _ _ (passed_first _ _ c.grid_counts.ensures.same c.in_ok-grid_counts.was (passed_first _ _ (only_one _ c.put_most.ensures.same) c.in_ok-put_most.was (passed_first _ _ c.grid_days.ensures c.in_ok-grid_days.was (passed_first _ _ c.grid_numbers.ensures c.in_ok-grid_numbers.was (only_one _ c.grid_orders.ensures)))))
