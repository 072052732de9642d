-- `probabilities` meets its contract: the tests of the three results stand for those on the way. Assumes nothing.
use Rattle.std.proofs.Common.{rules, sym, ◌∙◌}
use Rattle.lattice.specs.laws.Bounds.{within-numbered}
use Rattle.lattice.proofs.Signed.{back-numbered}
use Rattle.lattice.proofs.Fused.{chances_by, chances_passed}
use Rattle.lattice.proofs.Laws.{transitions}
use Rattle.lattice.proofs.node.probabilities.Goals.{then-down-via-then-down, then-down-via-else-down+then-mid, then-down-via-else-down+else-mid+then-up}
use Rattle.lattice.proofs.node.probabilities.Goals as goal

pub returns-in_err-down : goal.returns-in_err-down
returns-in_err-down c = let a = c.args in chances_by a.middle a.error a.step.now.denominator a.step.now.scale a.step.now.place (search rules)

pub returns-in_err-mid : goal.returns-in_err-mid
returns-in_err-mid c = let a = c.args in chances_by a.middle a.error a.step.now.denominator a.step.now.scale a.step.now.place (search rules)

pub returns-in_err-up : goal.returns-in_err-up
returns-in_err-up c = let a = c.args in chances_by a.middle a.error a.step.now.denominator a.step.now.scale a.step.now.place (search rules)

pub returns-then-down : goal.returns-then-down
returns-then-down c =
    let a = c.args in
    chances_passed a.middle a.error a.step.now.denominator a.step.now.scale a.step.now.place (sym c.tested.ensures ∙ c.in_ok-down.was) (sym c.tested-2.ensures ∙ c.in_ok-mid.was) (sym c.tested-3.ensures ∙ c.in_ok-up.was)
    (elim c.then-down.branch [
      | then-down-via-then-down w ↦ search transitions
      | then-down-via-else-down+then-mid w ↦ search transitions
      | then-down-via-else-down+else-mid+then-up w ↦ search transitions
    ])

pub returns : goal.returns
returns c =
    let a = c.args in
    chances_passed a.middle a.error a.step.now.denominator a.step.now.scale a.step.now.place (sym c.tested.ensures ∙ c.in_ok-down.was) (sym c.tested-2.ensures ∙ c.in_ok-mid.was) (sym c.tested-3.ensures ∙ c.in_ok-up.was)
    (rw (c.if-down.false, c.if-mid.false, c.if-up.false) (rw (back-numbered (within-numbered c.requires)) at c.clamped.ensures))
