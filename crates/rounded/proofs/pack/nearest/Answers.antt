-- `nearest` meets its contract: the sum that it compares with the half says which side of the middle the rest lies on, and breaks a tie to the even number.
use mathlib.Core.Path.{sym}
use native.Mathlib.Omega.{arith}
use Rattle.rounded.proofs.pack.Numbers.{half_of, nearest_up}
use Rattle.rounded.proofs.pack.nearest.Goals as goal

pub overflow_add-result : goal.overflow_add-result
overflow_add-result c = omega (arith, half_of c.args.v c.args.places c.requires.0)

pub returns-then-rest-whole : goal.returns-then-rest-whole
returns-then-rest-whole c = sym (nearest_up c.args.v c.args.places c.requires c.if-rest-whole.true)
