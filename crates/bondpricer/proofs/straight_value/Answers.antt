-- `straight_value` meets its contract. Assumes nothing.
use Rattle.std.proofs.Common.{rules}
use Rattle.terms.proofs.Timing.{fronted}
use Rattle.bondpricer.proofs.Entering.{same_count, straight-refused, straight-given}
use Rattle.floats.proofs.Laws.{answers}
use Rattle.bondpricer.proofs.straight_value.Goals as goal

pub returns-in_err-straight_checks : goal.returns-in_err-straight_checks
returns-in_err-straight_checks c = straight-refused _ _ _ _ c.straight_checks.ensures c.in_err-straight_checks.was (search rules)

pub discounted_value-requires : goal.discounted_value-requires
discounted_value-requires c = same_count _ _ _ _ c.straight_checks.ensures c.in_ok-straight_checks.was

pub returns : goal.returns
returns c = search (answers, straight-given, fronted, c.in_ok-straight_checks.was) depth 8
