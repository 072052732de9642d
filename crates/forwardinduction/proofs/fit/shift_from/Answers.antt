-- `fit::shift_from` meets its contract. Assumes nothing.
use Rattle.std.specs.Float.{binary64}
use Rattle.std.specs.Float.Ieee.{div}
use Rattle.std.proofs.Common.{rules, sym, ◌∙◌}
use Rattle.floats.specs.Answers.{plus_zero, follow, tested}
use Rattle.floats.specs.laws.Propagation.{stopped}
use Rattle.floats.proofs.Laws.{left_atmost}
use Rattle.elementary.specs.Logarithm.{ln_at}
use Rattle.forwardinduction.specs.laws.FitSteps.{shift_from}
use Rattle.forwardinduction.proofs.fit.shift_from.Goals as goal

pub returns-in_err-quotient : goal.returns-in_err-quotient
unfolding shift_from
returns-in_err-quotient c =
    let a = c.args in
    left_atmost a.factor plus_zero _ _ c.if-factor.false
    (stopped (λ quotient. follow (ln_at quotient a.place) λ log. tested (div binary64 log a.dt) a.place) _ a.place (sym c.tested.ensures ∙ c.in_err-quotient.was) (search rules))
