-- `of_all` meets its contract. Assumes nothing.
use Rattle.std.proofs.Common.{ap, ◌∙◌}
use Rattle.std.proofs.lemmas.List.{get_or_read}
use Rattle.digest.proofs.Mixing.{mixing_begin, mixing_more, mixing_done}
use Rattle.digest.proofs.of_all.Goals as goal

pub loop-x-init : goal.loop-x-init
loop-x-init g c = λ d. mixing_begin _ _ _

pub loop-x-preserved : goal.loop-x-preserved
loop-x-preserved g c = λ d.
    let read = c.count.ensures ∙ ap g.T.Counts.counted (get_or_read _ _ _ c.loop-x-test.true c.x-item.is d) in
    mixing_more _ _ _ _ _ (c.loop-x.invariant d) c.loop-x-test.true c.mix-d.ensures read

pub returns : goal.returns
returns g c = λ d. mixing_done _ _ _ _ _ (c.loop-x.invariant d) c.loop-x-test.false
