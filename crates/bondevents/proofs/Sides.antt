-- What is kept of two prices, in the shape that `search` wants: by the side. Assumes nothing.
use mathlib.Core.Path.{◌≡◌, sym, ap, ◌∙◌}
use lib.Ieee.{Float}
use Rattle.floats.specs.Extremes.{min_of, max_of}
use Rattle.bondevents.specs.declared.Side.{Side}
use Rattle.bondevents.specs.declared.Side.TheVariants.{Call, Put}
use Rattle.bondevents.specs.Calls.{kept}

pub of_calls : (side : Side) (x y : Float) {r : Float} → side ≡ Call → r ≡ min_of x y → r ≡ kept side x y
unfolding kept
of_calls side x y e p = p ∙ sym (ap (λ (s : Side). kept s x y) e)

pub of_puts : (side : Side) (x y : Float) {r : Float} → side ≡ Put → r ≡ max_of x y → r ≡ kept side x y
unfolding kept
of_puts side x y e p = p ∙ sym (ap (λ (s : Side). kept s x y) e)
