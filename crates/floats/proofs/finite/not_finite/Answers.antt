-- `not_finite` meets its contract: a number between the two infinities is finite, and every other is not. Assumes nothing.
use mathlib.Core.Path.{◌≡◌, refl, ap, ◌∙◌}
use mathlib.Core.Bool.{true, false, not}
use lib.Ieee.{Float, nan, inf, fin, neg, lt, div, of_bits}
use Rattle.floats.specs.Answers.{not_finite}
use Rattle.floats.proofs.finite.not_finite.Goals as goal
use Rattle.floats.proofs.finite.not_finite.Goals.{then-infinity-x, else-infinity-x}

-- Above −∞ the second test decides.
above : (x : Float) → lt (inf true) x ≡ true → not (lt x (inf false)) ≡ not_finite x
unfolding lt
above nan e = refl
above (inf true) e = e
above (inf false) e = refl
above (fin s m e) t = refl

-- Nothing finite fails the first test.
under : (x : Float) → lt (inf true) x ≡ false → true ≡ not_finite x
unfolding lt
under nan e = refl
under (inf s) e = refl
under (fin s m e) t = t

pub returns : goal.returns
unfolding neg div of_bits
returns c =
    elim c.if-infinity-x.branch [
      | then-infinity-x w ↦ ap not w.result-is ∙ above c.args.x w.if-infinity-x.true
      | else-infinity-x w ↦ ap not (w.result-is ∙ w.if-infinity-x.false) ∙ under c.args.x w.if-infinity-x.false
    ]
