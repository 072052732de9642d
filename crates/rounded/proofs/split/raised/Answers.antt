-- `raised` meets its contract: the digits moved up and their place moved down are the same number.
use mathlib.Core.Path.{refl}
use Rattle.rounded.proofs.split.Fields.{moved_value, moved_ample}
use Rattle.rounded.proofs.split.raised.Goals as goal

pub returns : goal.returns
returns c =
    let a = c.args in
    let p = c.requires in
    let r = c.lift-up.result in
    (refl, moved_value a.m a.k r p.1 c.lift-up.ensures, moved_ample a.m a.k r p.1 c.lift-up.ensures p.2)
