-- `curved_widths` meets its contract: by the cases of decay and spacing 0. Assumes nothing.
use Rattle.std.specs.Prelude.{◌≡◌, Err}
use Rattle.std.proofs.Common.{rules}
use mathlib.Core.Path.{sym, ◌∙◌}
use Rattle.lattice.specs.laws.NextLayer.{spacing_bounds}
use Rattle.lattice.specs.laws.Rooted.{decay-above}
use Rattle.widths.specs.laws.Summing.{curved-no_decay, curved_no_spacing, curved-rooted}
use Rattle.widths.proofs.tree.curved_widths.Goals as goal

pub returns-in_err-decay : goal.returns-in_err-decay
returns-in_err-decay c =
    let a = c.args in
    let x : c.from_residual.result ≡ Err c.in_err-decay.field-0.0 = search rules in
    rw x (curved-no_decay _ a.alpha a.dt a.variances.now c.requires.0 (sym c.decay_of.ensures ∙ c.in_err-decay.was))

pub returns-in_err-spacing : goal.returns-in_err-spacing
returns-in_err-spacing c =
    let a = c.args in
    let x : c.from_residual-in_err-spacing.result ≡ Err c.in_err-spacing.field-0.0 = search rules in
    rw x
    (curved_no_spacing _ a.alpha a.dt a.variances.now c.requires.0 (sym c.decay_of.ensures ∙ c.in_ok-decay.was) (sym c.spacing_of.ensures ∙ c.in_err-spacing.was))

pub rooted-requires : goal.rooted-requires
rooted-requires c =
    let a = c.args in
    (decay-above a.alpha a.dt _ (sym c.decay_of.ensures ∙ c.in_ok-decay.was), (spacing_bounds _ 0 _ (sym c.spacing_of.ensures ∙ c.in_ok-spacing.was)).not_below_lem, c.requires.1)

pub returns : goal.returns
returns c =
    let a = c.args in
    c.rooted.ensures ∙ curved-rooted _ a.alpha a.dt a.variances.now c.requires.0 (sym c.decay_of.ensures ∙ c.in_ok-decay.was) (sym c.spacing_of.ensures ∙ c.in_ok-spacing.was)
