-- `fit::add_share` meets its contract. Assumes nothing.
use Rattle.std.proofs.Common.{rules, sym, ◌∙◌}
use Rattle.floats.specs.laws.Propagation.{stopped}
use Rattle.floats.specs.Answers.{outcome_of}
use Rattle.forwardinduction.specs.laws.FitSteps.{add_at, share_at}
use Rattle.forwardinduction.proofs.fit.add_share.Goals as goal

pub returns-in_err-x : goal.returns-in_err-x
unfolding share_at outcome_of
returns-in_err-x c =
    let a = c.args in
    stopped (λ x. add_at a.place a.at a.count x a.next.now) _ a.place (sym c.tested.ensures ∙ c.in_err-x.was) (search rules)
