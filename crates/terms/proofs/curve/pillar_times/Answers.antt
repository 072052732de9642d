-- `pillar_times` meets its contract: in the loop, the times before i are the days'. Assumes nothing.
use Rattle.terms.proofs.Timing.{timing}
use Rattle.terms.proofs.curve.pillar_times.Goals as goal

pub returns : goal.returns
returns c = search timing
