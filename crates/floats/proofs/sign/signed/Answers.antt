-- `signed` meets its contract: the cast of a number up to 2^53 is that number rounded, and a sign changed is the other sign rounded. Assumes nothing.
use native.Mathlib.Omega.{arith}
use mathlib.Core.Path.{sym, ◌∙◌}
use mathlib.Core.Bool.{false}
use lib.Ieee.{binary64, of_int}
use Rattle.floats.specs.laws.Cuts.{whole-nil, whole_pos}
use Rattle.floats.specs.laws.Rounding.{round-neg}
use Rattle.floats.proofs.sign.signed.Goals as goal

pub returns-then-q-eq0 : goal.returns-then-q-eq0
returns-then-q-eq0 c = rw c.if-q-eq0.true (sym (whole-nil c.args.negative))

pub returns-then-negative : goal.returns-then-negative
unfolding of_int
returns-then-negative c =
    rw c.if-negative.true
    (sym (round-neg binary64 false c.args.q 1) ∙ sym (whole_pos _ c.args.q (omega arith)))

pub returns : goal.returns
unfolding of_int
returns c = rw c.if-negative.false (sym (whole_pos false c.args.q (omega arith)))
