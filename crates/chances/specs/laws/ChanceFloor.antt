-- Three probabilities of which each is at least 0.04 before clamping. Assumes nothing.
use Rattle.std.specs.Prelude.{T, Float}
use Rattle.std.specs.Float.Ieee.{le}
use Rattle.chances.specs.Unclamped.{least_probability}

-- Each of the three is at least 0.04.
pub record Floored (down mid up : Float) : Type 0 where
  pub down_least : T (le least_probability down)
  pub middle-least : T (le least_probability mid)
  pub up_least : T (le least_probability up)
