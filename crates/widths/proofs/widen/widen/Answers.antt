-- `widen` meets its contract: by the case of the new spacing. Assumes nothing.
use Rattle.std.specs.Prelude.{◌≡◌, Err}
use Rattle.std.proofs.Common.{rules}
use mathlib.Core.Path.{refl, sym}
use Rattle.terms.specs.laws.Outcomes.{follow-given, follow-refused}
use Rattle.widths.specs.laws.Widening.{next_wide, new-not_below, widened-refused}
use Rattle.widths.proofs.widen.widen.Goals as goal

pub returns-in_err-made : goal.returns-in_err-made
unfolding next_wide
returns-in_err-made c =
    let m = sym (rw c.in_err-made.was at c.new_spacing.ensures) in
    let x : c.from_residual.result ≡ Err c.in_err-made.field-0.0 = search rules in
    rw x (widened-refused (follow-refused _ _ m) refl)

pub widen_by-requires : goal.widen_by-requires
widen_by-requires c =
    let a = c.args in
    let p = c.requires in
    let m = sym (rw c.in_ok-made.was at c.new_spacing.ensures) in
    (p.0, new-not_below a.variance a.step _ m, p.1)

pub returns : goal.returns
unfolding next_wide
returns c =
    let m = sym (rw c.in_ok-made.was at c.new_spacing.ensures) in
    rw (follow-given _ _ m) c.widen_by.ensures
