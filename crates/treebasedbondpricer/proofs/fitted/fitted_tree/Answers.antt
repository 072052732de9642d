-- `fitted_tree` meets its contract: time_step, then the tree (`FittedIn`). Assumes nothing.
use Rattle.std.specs.Prelude.{Float, length}
use Rattle.std.proofs.Common.{refl, rules, sym, ◌∙◌}
use Rattle.floats.specs.Answers.{Outcome}
use Rattle.floats.specs.laws.Propagation.{stopped}
use Rattle.terms.specs.Curve.{curve_over}
use Rattle.terms.specs.Market.{model_of}
use Rattle.lattice.specs.laws.Growing.{room_left}
use Rattle.treebasedbondpricer.specs.Tree.{Fitted}
use Rattle.treebasedbondpricer.specs.laws.FittedIn.{fitted_over, refused_as}
use Rattle.treebasedbondpricer.proofs.fitted.fitted_tree.Goals as goal

pub returns-in_err-dt : goal.returns-in_err-dt
returns-in_err-dt c =
    let a = c.args in
    let over : Float → Outcome Fitted = fitted_over (curve_over a.curve.times.now a.curve.factors.now) (model_of a.model) (room_left a.nodes.now a.probabilities.now (length a.first.now) (length a.second.now)) a.steps in
    refused_as (search rules) (sym (stopped over _ _ (sym c.tested.ensures ∙ c.in_err-dt.was) refl))
