-- `sizes_over` meets its contract: the variances, then the widths. Assumes nothing.
use Rattle.std.specs.Prelude.{◌≡◌, Err}
use Rattle.std.proofs.Common.{rules}
use native.Mathlib.Omega.{arith}
use mathlib.Core.Path.{◌∙◌}
use Rattle.terms.specs.Market.{model_of}
use Rattle.sizing.specs.laws.Sized.{found-few, over-refused, over-found, sized-given, sized-refused}
use Rattle.sizing.proofs.entry.sizes_over.Goals as goal

pub returns-in_err-transition_variances : goal.returns-in_err-transition_variances
returns-in_err-transition_variances c =
    let a = c.args in
    let x : c.from_residual.result ≡ Err c.in_err-transition_variances.field-0.0 = search rules in
    rw x (over-refused _ (model_of a.model) a.dt a.steps c.transition_variances.ensures c.in_err-transition_variances.was)

pub returns-in_err-found : goal.returns-in_err-found
returns-in_err-found c =
    let a = c.args in
    let x : c.from_residual-in_err-found.result ≡ Err c.in_err-found.field-0.0 = search rules in
    rw x
    (sized-refused c.in_err-found.was ∙ over-found _ (model_of a.model) a.dt a.steps c.tree_widths.result c.transition_variances.ensures c.requires.2 c.in_ok-transition_variances.was c.tree_widths.ensures)

pub sized-requires : goal.sized-requires
sized-requires c =
    let a = c.args in
    let k = c.transition_variances.auto.variances in
    let p = c.requires in
    let f = found-few _ a.model.alpha a.dt _ c.tree_widths.result (omega (arith, k, p.0, p.2)) (omega (arith, k, p.1, p.2)) c.tree_widths.ensures in
    f.few _ c.in_ok-found.was

pub returns : goal.returns
returns c =
    let a = c.args in
    rw c.sized.ensures
    (sized-given c.in_ok-found.was ∙ over-found _ (model_of a.model) a.dt a.steps c.tree_widths.result c.transition_variances.ensures c.requires.2 c.in_ok-transition_variances.was c.tree_widths.ensures)
