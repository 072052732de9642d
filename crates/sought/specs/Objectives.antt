-- Definitions only. What bracketed_root works on: the objective of a yield, and the ends of the first bracket.
use Rattle.std.specs.Prelude.{Float, Err}
use Rattle.std.specs.Float.{binary64}
use Rattle.std.specs.Float.Ieee.{of_bits, sub}
use Rattle.floats.specs.Answers.{Answer, tested}
use Rattle.terms.specs.declared.Epoch.{Epoch}
use Rattle.terms.specs.Terms.{Leg}
use Rattle.interestrate.specs.declared.RateDefinition.{RateDefinition}
use Rattle.interestrate.specs.Prices.{flows, on_price, price_and_derivative}

-- The objective: price less target. Every evaluation works out the derivative too.
unfoldable pub objective : Epoch → Leg → RateDefinition → Float → Float → Answer
unfolding flows on_price sub
objective settlement leg rate target y =
    on_price (price_and_derivative settlement leg rate y) Err λ p d. tested (sub binary64 p target) 0

-- −0.05 and 0.10
abbrev pub first_lower : Float
first_lower = of_bits binary64 0xbfa9_9999_9999_999a

abbrev pub first_upper : Float
first_upper = of_bits binary64 0x3fb9_9999_9999_999a
