-- `pack` meets its contract: a word moved up and its exponent moved down are the same number.
use mathlib.Core.Path.{sym, ◌∙◌}
use native.Mathlib.Omega.{arith}
use Rattle.rounded.proofs.pack.Places.{nothing, moved}
use Rattle.rounded.proofs.pack.pack.Goals as goal

pub returns-then-w-eq0 : goal.returns-then-w-eq0
returns-then-w-eq0 c = c.scaled.ensures ∙ sym (nothing c.args.neg c.args.w c.args.e (omega arith))

pub returns : goal.returns
returns c =
    let a = c.args in
    let l = c.lift-places in
    c.pack_normal.ensures ∙ moved a.neg a.w l.result a.e l.ensures (omega arith)
