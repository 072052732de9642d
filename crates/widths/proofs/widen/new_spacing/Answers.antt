-- `new_spacing` meets its contract: by the test. Assumes nothing.
use Rattle.widths.specs.Widths.{new_spacing}
use Rattle.widths.proofs.widen.new_spacing.Goals as goal

pub returns-then-variance : goal.returns-then-variance
unfolding new_spacing
returns-then-variance c = rw c.if-variance.true

pub returns : goal.returns
unfolding new_spacing
returns c = rw c.if-variance.false c.spacing_of.ensures
