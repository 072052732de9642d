-- `bondevents::marks::each_step` meets its contract: the loop's invariant is `Copying`. Assumes nothing.
use borrow.Author.Rules.{rules}
use native.Mathlib.Omega.{arith}
use Rattle.bondevents.proofs.Filling.{begin, more}
use Rattle.bondevents.proofs.Copying.{past_end, copied}
use Rattle.bondevents.proofs.marks.each_step.Goals as goal

pub loop-i-init : goal.loop-i-init
loop-i-init g c = λ reading says. begin _ _ 513 _

pub loop-i-preserved : goal.loop-i-preserved
loop-i-preserved g c = λ reading says. more _ _ 513 _ _ (c.loop-i.invariant reading says) (omega arith) (says _ _ c.read.ensures)

pub returns : goal.returns
returns g c = λ reading says. copied reading past_end 513 c.args.steps.now _ _ (search rules) (omega arith) (c.loop-i.invariant reading says)
