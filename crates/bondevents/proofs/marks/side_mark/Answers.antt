-- `bondevents::marks::side_mark` meets its contract: the side's mark as a byte. Assumes nothing.
use mathlib.Core.Path.{◌≡◌, refl, ap, ◌∙◌}
use mathlib.Core.Bool.{Bool, true, false, cond}
use Rattle.bondevents.specs.Parts.{mark_of, side_mark}
use mir.Val.{bool_byte}
use Rattle.bondevents.proofs.marks.side_mark.Goals as goal

byte_is : (b : Bool) → bool_byte b ≡ cond b 1 0
byte_is true = refl
byte_is false = refl

pub returns : goal.returns
unfolding side_mark
returns c = byte_is c.side_of.result.marked ∙ ap mark_of c.side_of.ensures
