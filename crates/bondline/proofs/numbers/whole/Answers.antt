-- `whole` meets its contract. Assumes nothing.
use Rattle.std.proofs.Common.{arith, rules, tests}
use Rattle.bondline.proofs.Reading.{below, longer, whole_more}
use Rattle.bondline.proofs.numbers.whole.Goals as goal

pub overflow_mul-value : goal.overflow_mul-value
overflow_mul-value c = omega (arith, below c.loop-i.i c.loop-i.value c.loop-i.invariant.0 c.if-i-lt-MOST_DIGITS.true)

pub overflow_add-value : goal.overflow_add-value
overflow_add-value c = omega (arith, below c.loop-i.i c.loop-i.value c.loop-i.invariant.0 c.if-i-lt-MOST_DIGITS.true)

pub loop-i-preserved : goal.loop-i-preserved
loop-i-preserved c = (longer c.loop-i.i c.loop-i.value c.from.result c.loop-i.invariant.0 (omega arith), search (rules, tests, whole_more))
