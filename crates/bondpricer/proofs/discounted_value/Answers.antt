-- `discounted_value` meets its contract. Assumes nothing.
use Rattle.std.proofs.Common.{refl, rules}
use Rattle.floats.proofs.Laws.{taken_atmost, left_atmost}
use Rattle.bondpricer.proofs.Flowing.{at_settlement, no_reference}
use Rattle.bondpricer.proofs.discounted_value.Goals as goal

pub returns-in_err-reference : goal.returns-in_err-reference
returns-in_err-reference c = no_reference _ _ _ _ c.time_from-time.ensures c.curve_at.ensures c.in_err-reference.was (search rules)

pub returns-then-reference : goal.returns-then-reference
returns-then-reference c =
    at_settlement _ _ _ _ c.time_from-time.ensures c.curve_at.ensures c.in_ok-reference.was (taken_atmost _ _ _ _ c.if-reference.true refl)

pub returns : goal.returns
returns c =
    at_settlement _ _ _ _ c.time_from-time.ensures c.curve_at.ensures c.in_ok-reference.was (left_atmost _ _ _ _ c.if-reference.false c.all_flows.ensures)
