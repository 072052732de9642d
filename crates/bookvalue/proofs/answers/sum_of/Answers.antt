-- `sum_of` meets its contract: in the loop, the sum of the values before i, each finite so far. Assumes nothing.
use native.Mathlib.Omega.{arith}
use Rattle.std.proofs.Common.{rules, ◌∙◌}
use Rattle.bookvalue.proofs.laws.Summing.{sum-begin, sum_more, sum-refused, sum_done}
use Rattle.bookvalue.proofs.answers.sum_of.Goals as goal

pub loop-i-init : goal.loop-i-init
loop-i-init c = sum-begin _ _

pub returns-in_err-sum : goal.returns-in_err-sum
returns-in_err-sum c = search rules ∙ sum-refused _ _ _ _ c.loop-i.invariant (omega arith) (search rules) c.tested.ensures c.at_bond.ensures c.in_err-sum.was

pub loop-i-preserved : goal.loop-i-preserved
loop-i-preserved c = sum_more _ _ _ _ c.loop-i.invariant (omega arith) (search rules) c.tested.ensures c.at_bond.ensures c.in_ok-sum.was

pub returns : goal.returns
returns c = sum_done _ _ _ _ c.loop-i.invariant (omega arith)
