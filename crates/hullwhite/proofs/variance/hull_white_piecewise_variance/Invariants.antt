-- `hull_white_piecewise_variance` meets its contract: the invariant is that the pieces from entry i on give the whole. Assumes nothing.
use Rattle.hullwhite.specs.laws.Pieces.{Left}
use Rattle.hullwhite.proofs.variance.hull_white_piecewise_variance.Given as goal

abbrev pub invariant-loop-i : goal.invariant-loop-i
invariant-loop-i l = Left l.model.alpha l.model.sigma.times.now l.model.sigma.sigmas.now l.start l.end l.place l.total l.lower l.i
