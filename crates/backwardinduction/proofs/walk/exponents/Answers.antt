-- `walk::exponents` meets its contract. Assumes nothing.
use Rattle.std.proofs.Common.{rules}
use Rattle.backwardinduction.specs.laws.Discounts.{exponent_of}
use Rattle.backwardinduction.proofs.walk.exponents.Goals as goal

pub returns : goal.returns
returns c = c.arguments.ensures (exponent_of c.args.rates) (λ x r p. search (rules, p))
