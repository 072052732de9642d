-- `guess::guess` is safe: its patterns are no NaN's.
-- Assumes nothing.
use Prim.Native.Nat.{◌-◌, ◌/◌}
use native.Mathlib.Omega.{arith}
use Rattle.rounded.proofs.guess.Patterns.{number-bits}
use Rattle.rounded.proofs.guess.guess.Goals as goal

pub float_from_bits-a : goal.float_from_bits-a
float_from_bits-a c = number-bits c.args.bits (omega arith)

pub float_from_bits-inverse : goal.float_from_bits-inverse
float_from_bits-inverse c = number-bits (6910469410427058089 - c.args.bits / 2) (omega arith)
