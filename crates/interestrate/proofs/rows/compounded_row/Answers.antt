-- `rows::compounded_row` meets its contract: the loops one after the other. Assumes nothing.
use mathlib.Core.Path.{sym, ◌∙◌}
use lib.Seq.{length-take-le}
use Rattle.interestrate.specs.laws.Rows.{no_row, compounded_row_lem}
use Rattle.interestrate.proofs.rows.compounded_row.Goals as goal

pub returns-then-not_finite : goal.returns-then-not_finite
returns-then-not_finite c = no_row

pub returns-then-base : goal.returns-then-base
returns-then-base c = no_row

pub returns-in_default : goal.returns-in_default
returns-in_default c = no_row

pub returns-then-n-gt64 : goal.returns-then-n-gt64
returns-then-n-gt64 c = no_row

pub returns-then-not-exp_row : goal.returns-then-not-exp_row
returns-then-not-exp_row c = no_row

pub returns : goal.returns
returns c =
    let finite = sym c.not_finite.ensures ∙ c.if-not_finite.false in
    let log = sym c.ln_at.ensures ∙ c.in-Ok.is in
    let at = c.exponents.ensures in
    let said = c.if-not-exp_row.false in
    let few = c.if-n-gt64.false in
    compounded_row_lem _ _ _ _ _ finite c.if-base.false log (length-take-le _ _ few) (length-take-le _ _ few) at said c.exp_row.ensures c.slope_row.ensures
