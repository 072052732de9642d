-- `scaled` meets its contract: the pattern of q * 2^k smallest doubles is k * 2^52 + q, and it is no NaN's.
use Rattle.rounded.specs.laws.Packing.{plain_bits, signed-bits, plain_number, signed-number}
use Rattle.rounded.proofs.pack.scaled.Goals as goal

pub float_from_bits-result : goal.float_from_bits-result
float_from_bits-result c = signed-number c.args.q c.args.k c.requires

pub returns-then-neg : goal.returns-then-neg
returns-then-neg c = rw c.if-neg.true (signed-bits c.args.q c.args.k c.requires)

pub float_from_bits-result-else-neg : goal.float_from_bits-result-else-neg
float_from_bits-result-else-neg c = plain_number c.args.q c.args.k c.requires

pub returns-else-neg : goal.returns-else-neg
returns-else-neg c = rw c.if-neg.false (plain_bits c.args.q c.args.k c.requires)
