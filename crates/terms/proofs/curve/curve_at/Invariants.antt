-- `curve_at` meets its contract: in the loop, the time is not before pillar i, and what is left of the curve from there on is the whole. Assumes nothing.
use Rattle.terms.proofs.Curving.{Curving}
use Rattle.terms.proofs.curve.curve_at.Given as goal

abbrev pub invariant-loop-i : goal.invariant-loop-i
invariant-loop-i l = Curving l.t l.place l.times l.factors l.i
