-- `transition_variances` meets its contract: the invariant is that the first k variances are in the row and the rest gives the whole. Assumes nothing.
use borrow.Author.Rules.{rules}
use Rattle.terms.specs.Market.{model_of}
use Rattle.hullwhite.specs.laws.EachStep.{reached-none, reached-refused, reached_more, reached_all}
use Rattle.hullwhite.proofs.variance.transition_variances.Goals as goal

pub loop-k-init : goal.loop-k-init
loop-k-init c = reached-none (model_of c.args.model) c.args.time_step c.args.steps c.args.variances.now c.requires

pub returns-in_err-variances : goal.returns-in_err-variances
returns-in_err-variances c = reached-refused (model_of c.args.model) c.args.time_step c.args.steps c.args.variances.now c.loop-k.variances c.loop-k.k c.loop-k.invariant c.loop-k-test.true c.step_variance.ensures c.in_err-variances.was (search rules)

pub loop-k-preserved : goal.loop-k-preserved
loop-k-preserved c = reached_more (model_of c.args.model) c.args.time_step c.args.steps c.args.variances.now c.loop-k.variances c.loop-k.k c.loop-k.invariant c.loop-k-test.true c.step_variance.ensures c.in_ok-variances.was

pub returns : goal.returns
returns c = reached_all (model_of c.args.model) c.args.time_step c.args.steps c.args.variances.now c.loop-k.variances c.loop-k.k c.loop-k.invariant c.loop-k-test.false
