-- `all_flows` meets its contract. Assumes nothing.
use Rattle.std.proofs.Common.{rules}
use Rattle.bondpricer.proofs.Flowing.{paid, unpaid, stopped, done}
use Rattle.floats.proofs.Laws.{answers}
use Rattle.bondpricer.proofs.all_flows.Goals.{then-by-day+in_ok-value, else-by-day}
use Rattle.bondpricer.proofs.all_flows.Goals as goal

pub returns-in_err-value : goal.returns-in_err-value
returns-in_err-value c =
    stopped _ _ _ _ _ _ _ _ c.requires c.loop-i.invariant c.loop-i-test.true c.if-by-day.true c.with_flow.ensures c.in_err-value.was (search rules)

pub loop-i-preserved : goal.loop-i-preserved
loop-i-preserved c =
    elim c.if-by-day.branch [
      | then-by-day+in_ok-value w ↦
          rw w.value-is (paid _ _ _ _ _ _ _ _ c.requires c.loop-i.invariant _ c.loop-i-test.true w.if-by-day.true w.with_flow.ensures w.in_ok-value.was)
      | else-by-day w ↦ rw w.value-is (unpaid _ _ _ _ _ _ _ _ c.requires c.loop-i.invariant c.loop-i-test.true w.if-by-day.false)
    ]

pub returns : goal.returns
returns c = search (answers, done)
