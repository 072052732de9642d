-- `transition_variances` meets its contract: the invariant is that the first k variances are in the row and the rest gives the whole. Assumes nothing.
use Rattle.terms.specs.Market.{model_of}
use Rattle.hullwhite.specs.laws.EachStep.{Reached}
use Rattle.hullwhite.proofs.variance.transition_variances.Given as goal

abbrev pub invariant-loop-k : goal.invariant-loop-k
invariant-loop-k l = Reached (model_of l.model) l.time_step l.steps l.initial.variances l.variances l.k
