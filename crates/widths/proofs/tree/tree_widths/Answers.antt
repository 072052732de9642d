-- `tree_widths` meets its contract: by the test of all variances. Assumes nothing.
use mathlib.Core.Path.{sym, ◌∙◌}
use Rattle.widths.specs.Widths.{widths}
use Rattle.widths.proofs.tree.tree_widths.Goals as goal

pub returns-then-all_flat : goal.returns-then-all_flat
unfolding widths
returns-then-all_flat c = rw (sym c.all_flat.ensures ∙ c.if-all_flat.true) c.flat_widths.ensures

pub returns : goal.returns
unfolding widths
returns c = rw (sym c.all_flat.ensures ∙ c.if-all_flat.false) c.curved_widths.ensures
