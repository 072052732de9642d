-- `bondevents::steps::call_step_of` meets its contract: the definition's quotient and product, through `near_to`, at the highest step that is not maturity. Assumes nothing.
use Prim.Native.Nat.{ℕ, ◌-◌}
use native.Mathlib.Nat.{max-eq_left}
use native.Mathlib.Omega.{arith}
use mathlib.Core.Path.{ap, sym, ◌∙◌}
use lib.Ieee.{Float, binary64, mul, div, to_unsigned}
use Rattle.floats.specs.Whole.{rounded}
use Rattle.terms.specs.Numbers.{float}
use Rattle.bondevents.specs.Parts.{axis_in}
use Rattle.bondevents.specs.Steps.{clamp, raw_step}
use Rattle.bondevents.proofs.steps.call_step_of.Goals as goal

pub returns-then-axis-gt1 : goal.returns-then-axis-gt1
unfolding raw_step mul div
returns-then-axis-gt1 c =
    let e = max-eq_left {n = c.args.axis.steps - 1} {m = 1} (omega arith) in
    let n = λ (t : Float). to_unsigned 64 (rounded (mul binary64 (div binary64 t c.args.axis.maturity) (float c.args.axis.steps))) in
    c.near_to.ensures ∙ ap (λ (t : Float). clamp 1 (c.args.axis.steps - 1) (n t)) c.time_from.ensures ∙ ap (λ (h : ℕ). clamp 1 h (raw_step (axis_in c.args.axis) c.args.day)) (sym e)
