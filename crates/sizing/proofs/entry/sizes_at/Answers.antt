-- `sizes_at` meets its contract: time_step, then the widths. Assumes nothing.
use Rattle.std.specs.Prelude.{◌≡◌, Err}
use Rattle.std.proofs.Common.{rules}
use mathlib.Core.Path.{sym, ◌∙◌}
use Rattle.sizing.specs.laws.Sized.{at-refused, at-given}
use Rattle.sizing.proofs.entry.sizes_at.Goals as goal

pub returns-in_err-dt : goal.returns-in_err-dt
returns-in_err-dt c =
    let x : c.from_residual.result ≡ Err c.in_err-dt.field-0.0 = search rules in
    rw x (at-refused _ _ _ _ (sym c.tested.ensures ∙ c.in_err-dt.was))

pub returns : goal.returns
returns c = at-given _ _ _ _ (sym c.tested.ensures ∙ c.in_ok-dt.was) c.sizes_over.ensures
