-- `step_of` meets its contract: by the test, then by the case of the spacing. Assumes nothing.
use Rattle.std.specs.Prelude.{◌≡◌, Err}
use Rattle.std.proofs.Common.{rules, sym, ◌∙◌}
use Rattle.floats.specs.Answers.{on_outcome}
use Rattle.lattice.specs.laws.MadeSteps.{step_is}
use Rattle.layers.proofs.grow.step_of.Goals as goal

pub returns-then-variance : goal.returns-then-variance
returns-then-variance c = let a = c.args in rw (← step_is a.spacing a.decay a.variance a.place, c.if-variance.true)

pub returns-in_err-new_spacing : goal.returns-in_err-new_spacing
unfolding on_outcome
returns-in_err-new_spacing c =
    let a = c.args in
    let e : c.from_residual.result ≡ Err c.in_err-new_spacing.field-0.0 = search rules in
    rw (e, ← step_is a.spacing a.decay a.variance a.place, c.if-variance.false, sym c.spacing_of.ensures ∙ c.in_err-new_spacing.was)

pub returns : goal.returns
unfolding on_outcome
returns c =
    let a = c.args in
    rw (← step_is a.spacing a.decay a.variance a.place, c.if-variance.false, sym c.spacing_of.ensures ∙ c.in_ok-new_spacing.was) c.divisors.ensures
