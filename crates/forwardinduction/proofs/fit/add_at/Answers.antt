-- `fit::add_at` meets its contract. Assumes nothing.
use Rattle.std.specs.Prelude.{Ok}
use Rattle.std.proofs.Common.{rules, sym, set, ◌∙◌}
use Rattle.floats.specs.laws.Propagation.{stopped, passed_on}
use Rattle.floats.proofs.Laws.{taken_lt}
use Rattle.floats.specs.Answers.{outcome_of}
use Rattle.forwardinduction.specs.laws.FitSteps.{add_at}
use Rattle.forwardinduction.proofs.fit.add_at.Goals as goal

pub returns-in_err-next : goal.returns-in_err-next
unfolding add_at outcome_of
returns-in_err-next c =
    let a = c.args in
    taken_lt _ _ _ _ c.if-at-count.true (stopped (λ x. Ok (set a.next.now a.at x)) _ a.place (sym c.tested.ensures ∙ c.in_err-next.was) (search rules))

pub returns-in_ok-next : goal.returns-in_ok-next
unfolding add_at outcome_of
returns-in_ok-next c =
    let a = c.args in
    taken_lt _ _ _ _ c.if-at-count.true (passed_on (λ x. Ok (set a.next.now a.at x)) _ a.place (sym c.tested.ensures ∙ c.in_ok-next.was) (λ f. search rules))
