-- `prices::yield_price_and_derivative` meets its contract: the parts that are left give the whole answer. Assumes nothing.
use Rattle.std.proofs.Common.{rules, inl, inr}
use Rattle.interestrate.proofs.prices.Flowing.{part-fits, part-paid, part-stopped, parts-done, no_days}
use Rattle.interestrate.proofs.prices.yield_price_and_derivative.Goals as goal

pub loop-days-init : goal.loop-days-init
loop-days-init c = (search rules, tt, record { sizes = (search rules, search rules); same = search rules; rest = search rules })

pub part_flows-requires : goal.part_flows-requires
part_flows-requires c = part-fits _ _ _ _ _ _ _ c.loop-days.invariant.2 _ _ _ _ _ _ c.in-Some.ensures.steps.0 c.in-Some.ensures.steps.1

pub returns-in_err-sum : goal.returns-in_err-sum
returns-in_err-sum c =
    part-stopped _ _ _ _ _ _ _ c.loop-days.invariant.2 _ _ _ _ _ _ c.in-Some.ensures.steps.0 c.in-Some.ensures.steps.1 c.part_flows.ensures c.in_err-sum.was (search rules)

pub loop-days-preserved : goal.loop-days-preserved
loop-days-preserved c = (
  search rules,
  tt,
  part-paid _ _ _ _ _ _ _ c.loop-days.invariant.2 _ _ _ _ _ _ c.in-Some.ensures.steps.0 c.in-Some.ensures.steps.1 _ c.part_flows.ensures c.in_ok-sum.was,
)

pub returns : goal.returns
returns c =
    parts-done _ _ _ _ _ _ _ c.loop-days.invariant.2
    (elim c.in-None.ensures.steps [
      | inl first ↦ first.1.1.0
      | inr second ↦ no_days _ _ _ _ _ _ _ c.loop-days.invariant.2 second.1.1.0
    ])
