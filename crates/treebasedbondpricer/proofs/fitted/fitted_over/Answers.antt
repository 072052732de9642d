-- `fitted_over` meets its contract: the variances, then the tree (`FittedIn`). Assumes nothing.
use Rattle.std.proofs.Common.{rules}
use Rattle.terms.specs.laws.Outcomes.{follow-refused}
use Rattle.treebasedbondpricer.specs.laws.FittedIn.{refused_as, refused_is, over-variances}
use Rattle.treebasedbondpricer.proofs.fitted.fitted_over.Goals as goal

pub returns-in_err-transition_variances : goal.returns-in_err-transition_variances
returns-in_err-transition_variances c = refused_as (search rules) (follow-refused _ _ (refused_is _ c.transition_variances.ensures.outcome c.in_err-transition_variances.was))

pub returns : goal.returns
returns c = over-variances _ _ _ _ _ c.transition_variances.ensures c.requires.steps_nonzero.2 (search rules) c.fitted_with.ensures
