-- `ln::exponent_of` meets its contract. Assumes nothing.
use mathlib.Core.Path.{sym}
use Rattle.elementary.specs.laws.Scales.{exponent-bits}
use Rattle.elementary.proofs.ln.exponent_of.Goals as goal

pub returns : goal.returns
returns c = sym (exponent-bits c.args.bits c.requires)
