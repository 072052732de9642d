-- `bondevents::steps::step_of` meets its contract: the definition's quotient and product, through `near_to`. Assumes nothing.
use mathlib.Core.Path.{ap, ◌∙◌}
use lib.Ieee.{Float, binary64, mul, div, to_unsigned}
use Rattle.floats.specs.Whole.{rounded}
use Rattle.terms.specs.Numbers.{float}
use Rattle.bondevents.specs.Steps.{clamp, raw_step}
use Rattle.bondevents.proofs.steps.step_of.Goals as goal

pub returns : goal.returns
unfolding raw_step mul div
returns c =
    c.near_to.ensures
    ∙ ap (λ (t : Float). clamp 1 c.args.axis.steps (to_unsigned 64 (rounded (mul binary64 (div binary64 t c.args.axis.maturity) (float c.args.axis.steps))))) c.time_from.ensures
