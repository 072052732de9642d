-- `market_checks` meets its contract: the stages follow one another as in the definition. Assumes nothing.
use borrow.Author.Rules.{rules}
use Rattle.terms.proofs.Laws.{passed_first, refused_first, only_one, as_market}
use Rattle.entrychecks.proofs.entries.market_checks.Goals as goal

pub returns-in_err-tree_counts : goal.returns-in_err-tree_counts
returns-in_err-tree_counts c = as_market _ _ _ (refused_first _ _ c.tree_counts.ensures.same c.in_err-tree_counts.was (search rules))

pub returns-in_err-put_most : goal.returns-in_err-put_most
returns-in_err-put_most c = as_market _ _ _ (passed_first _ _ c.tree_counts.ensures.same c.in_ok-tree_counts.was (refused_first _ _ (only_one _ c.put_most.ensures.same) c.in_err-put_most.was (search rules)))

pub returns-in_err-tree_days : goal.returns-in_err-tree_days
returns-in_err-tree_days c = as_market _ _ _ (passed_first _ _ c.tree_counts.ensures.same c.in_ok-tree_counts.was (passed_first _ _ (only_one _ c.put_most.ensures.same) c.in_ok-put_most.was (refused_first _ _ c.tree_days.ensures c.in_err-tree_days.was (search rules))))

pub returns-in_err-tree_numbers : goal.returns-in_err-tree_numbers
returns-in_err-tree_numbers c = as_market _ _ _ (passed_first _ _ c.tree_counts.ensures.same c.in_ok-tree_counts.was (passed_first _ _ (only_one _ c.put_most.ensures.same) c.in_ok-put_most.was (passed_first _ _ c.tree_days.ensures c.in_ok-tree_days.was (refused_first _ _ c.tree_numbers.ensures c.in_err-tree_numbers.was (search rules)))))

pub returns-in_err-tree_orders : goal.returns-in_err-tree_orders
returns-in_err-tree_orders c = as_market _ _ _ (passed_first _ _ c.tree_counts.ensures.same c.in_ok-tree_counts.was (passed_first _ _ (only_one _ c.put_most.ensures.same) c.in_ok-put_most.was (passed_first _ _ c.tree_days.ensures c.in_ok-tree_days.was (passed_first _ _ c.tree_numbers.ensures c.in_ok-tree_numbers.was (refused_first _ _ c.tree_orders.ensures c.in_err-tree_orders.was (search rules))))))

pub returns : goal.returns
returns c = as_market _ _ _ (passed_first _ _ c.tree_counts.ensures.same c.in_ok-tree_counts.was (passed_first _ _ (only_one _ c.put_most.ensures.same) c.in_ok-put_most.was (passed_first _ _ c.tree_days.ensures c.in_ok-tree_days.was (passed_first _ _ c.tree_numbers.ensures c.in_ok-tree_numbers.was (passed_first _ _ c.tree_orders.ensures c.in_ok-tree_orders.was (only_one _ c.late_checks.ensures))))))
