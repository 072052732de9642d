-- `prices::summed` meets its contract. Assumes nothing.
use Rattle.std.proofs.Common.{rules, sym, ◌∙◌}
use Rattle.interestrate.proofs.prices.Flowing.{start, refused, joined, not_joined, unpaid, done}
use Rattle.interestrate.proofs.Laws.{prices}
use Rattle.interestrate.proofs.prices.summed.Goals.{then-at-days+in_ok-flow+in_ok-join_sums, else-at-days}
use Rattle.interestrate.proofs.prices.summed.Goals as goal

pub loop-i-init : goal.loop-i-init
loop-i-init c = start _ _ _ _ _ _ _

pub returns-in_err-flow : goal.returns-in_err-flow
returns-in_err-flow c =
    refused _ _ _ _ _ _ _ _ _ _ c.requires.amounts_len c.loop-i.invariant c.loop-i-test.true c.if-at-days.true
    (rw c.time_from-time.ensures at (sym c.yield_discount_and_derivative.ensures ∙ c.in_err-flow.was)) (search rules)

pub returns-in_err-join_sums : goal.returns-in_err-join_sums
returns-in_err-join_sums c =
    not_joined _ _ _ _ _ _ _ _ _ _ c.requires.amounts_len c.loop-i.invariant _ _ c.loop-i-test.true c.if-at-days.true
    (rw c.time_from-time.ensures at (sym c.yield_discount_and_derivative.ensures ∙ c.in_ok-flow.was)) c.join_sums.ensures.joined c.in_err-join_sums.was (search rules)

pub loop-i-preserved : goal.loop-i-preserved
loop-i-preserved c =
    elim c.if-at-days.branch [
      | then-at-days+in_ok-flow+in_ok-join_sums w ↦
          rw w.sum-is (joined _ _ _ _ _ _ _ _ _ _ c.requires.amounts_len c.loop-i.invariant _ _ c.loop-i-test.true w.if-at-days.true
          (rw w.time_from-time.ensures at (sym w.yield_discount_and_derivative.ensures ∙ w.in_ok-flow.was)) w.join_sums.ensures.joined w.in_ok-join_sums.was)
      | else-at-days w ↦ rw w.sum-is (unpaid _ _ _ _ _ _ _ _ _ _ c.requires.amounts_len c.loop-i.invariant c.loop-i-test.true w.if-at-days.false)
    ]

pub returns : goal.returns
returns c = search (prices, done)
