-- `fill` meets its contract: the invariant is that the first i nodes behind are filled, the rest gives the whole, and the nodes in front are as they were. Assumes nothing.
use Prim.Native.Nat.{◌+◌, ◌*◌, ◌≤◌}
use lib.ListN.{length}
use Rattle.layers.specs.laws.Behind.{FillingBehind}
use Rattle.layers.proofs.layers.fill.Given as goal

abbrev pub invariant-loop-i : goal.invariant-loop-i
invariant-loop-i l =
    record {
      filling : FillingBehind l.step l.before l.count l.known l.initial.nodes l.initial.probabilities l.nodes l.probabilities l.i;
      pairs : (l.before + l.count) * 2 ≤ length l.nodes;
      threes : (l.before + l.count) * 3 ≤ length l.probabilities;
    }
