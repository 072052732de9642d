-- `shift` meets its contract: the quotient, made odd where the rest is not 0.
use native.Mathlib.Omega.{arith}
use Rattle.rounded.proofs.pack.Numbers.{one_odd, cut_even, cut_odd}
use Rattle.rounded.proofs.pack.shift.Goals as goal

pub returns-then-places-ge128-clause-odd : goal.returns-then-places-ge128-clause-odd
returns-then-places-ge128-clause-odd c = one_odd c.args.w c.args.places c.requires c.ranges.w.fits c.if-places-ge128.true

pub returns-then-w-places-eq0-clause-odd : goal.returns-then-w-places-eq0-clause-odd
returns-then-w-places-eq0-clause-odd c = cut_even c.args.w c.args.places (omega arith) c.if-w-places-eq0.true

pub returns-else-w-places-eq0-clause-odd : goal.returns-else-w-places-eq0-clause-odd
returns-else-w-places-eq0-clause-odd c = cut_odd c.args.w c.args.places (omega arith) c.if-w-places-eq0.false
