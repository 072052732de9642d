-- `bondevents::marks::step_prices` meets its contract: the loop's invariant is `Pairing`. Assumes nothing.
use mathlib.Core.Path.{◌≡◌}
use lib.ListN.{length}
use Rattle.bondevents.proofs.SideBySide.{Pairing}
use Rattle.bondevents.proofs.marks.step_prices.Given as goal

-- The steps are all 513, so that a place past them isn't read.
abbrev pub invariant-loop-i : goal.invariant-loop-i
invariant-loop-i l = (length l.steps ≡ 513) × ((whole : length l.steps ≡ 513) → Pairing l.steps whole l.i l.prices)
