-- `step_variance` meets its contract: the two ends of the step are tested, and the rest is the piecewise variance. Assumes nothing.
use Rattle.std.specs.Prelude.{◌≡◌, ℕ, Float}
use Rattle.std.specs.Float.{binary64}
use Rattle.std.specs.Float.Ieee.{add, mul}
use Rattle.std.proofs.Common.{rules}
use Rattle.floats.specs.Answers.{Answer, when_finite}
use Rattle.terms.specs.Numbers.{float}
use Rattle.terms.specs.Terms.{HullWhite}
use Rattle.hullwhite.specs.Variance.{piecewise_variance, step_variance}
use Rattle.terms.specs.Market.{model_of}
use Rattle.hullwhite.proofs.variance.step_variance.Goals as goal

is_step : (model : HullWhite) (dt : Float) (k : ℕ) {a : Answer}
    → a ≡ when_finite (mul binary64 (float k) dt) k (λ start. when_finite (add binary64 start dt) k λ end. piecewise_variance model start end k)
    → a ≡ step_variance model dt k
unfolding step_variance
is_step model dt k h = h

pub returns-in_err-start : goal.returns-in_err-start
returns-in_err-start c = is_step (model_of c.args.model) c.args.time_step c.args.k (search rules)

pub returns-in_err-end : goal.returns-in_err-end
returns-in_err-end c = is_step (model_of c.args.model) c.args.time_step c.args.k (search rules)

pub returns : goal.returns
returns c = is_step (model_of c.args.model) c.args.time_step c.args.k (search rules)
