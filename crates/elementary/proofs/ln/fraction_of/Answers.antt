-- `ln::fraction_of` meets its contract. Assumes nothing.
use mathlib.Core.Path.{sym}
use native.Mathlib.Omega.{arith}
use Rattle.floats.specs.laws.Patterns.{no_nan}
use Rattle.elementary.specs.laws.Scales.{fraction-bits}
use Rattle.elementary.proofs.ln.fraction_of.Goals as goal

pub float_from_bits-result : goal.float_from_bits-result
float_from_bits-result c = no_nan _ (omega arith)

pub returns : goal.returns
returns c = sym (fraction-bits c.args.bits c.requires)
