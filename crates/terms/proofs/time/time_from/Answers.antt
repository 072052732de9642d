-- `time_from` meets its contract: the code's operations are the definition's. Assumes nothing.
use mathlib.Core.Path.{refl}
use lib.Ieee.{of_int}
use Rattle.terms.specs.Times.{time_from}
use Rattle.terms.proofs.time.time_from.Goals as goal

pub returns : goal.returns
unfolding time_from of_int
returns c = rw (← c.year_of.ensures, ← c.count_of-count.ensures) refl
