-- `digits::mended`: nothing is known on the way down, each turn of which takes 1 off. On the way up the square isn't above, and the measure is what is left up to 2^62, which a root is below.
-- Assumes nothing.
use Prim.Native.Nat.{◌*◌, ◌-◌, ◌^◌, ◌≤◌}
use Rattle.rounded.proofs.digits.mended.Given as goal

abbrev pub invariant-sink : goal.invariant-sink
invariant-sink l = Unit

abbrev pub decreases-sink : goal.decreases-sink
decreases-sink l = l.r

abbrev pub invariant-rise : goal.invariant-rise
invariant-rise l = l.r * l.r ≤ l.n

abbrev pub decreases-rise : goal.decreases-rise
decreases-rise l = 2 ^ 62 - l.r
