-- `fit::discounted` meets its contract. Assumes nothing.
use mathlib.Core.Path.{refl}
use Rattle.floats.specs.Answers.{on_outcome}
use Rattle.floats.proofs.Laws.{answers, valued}
use Rattle.forwardinduction.specs.laws.Exps.{discounted-fused}
use Rattle.forwardinduction.proofs.fit.discounted.Goals as goal

pub returns-then-known : goal.returns-then-known
returns-then-known c = rw discounted-fused (valued _ _ _ refl (c.requires c.if-known.true) c.tested.ensures)

pub returns-in_err-discount : goal.returns-in_err-discount
unfolding on_outcome
returns-in_err-discount c = rw discounted-fused (search answers)

pub returns : goal.returns
unfolding on_outcome
returns c = rw discounted-fused (search answers)
