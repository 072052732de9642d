-- `spread` meets its contract: middle by middle, with the layer in front as it was. Assumes nothing.
use Prim.Native.Nat.{◌≤◌}
use lib.ListN.{length}
use Rattle.widths.specs.laws.Spreading.{Spreading}
use Rattle.widths.proofs.layer.spread.Given as goal

abbrev pub invariant-loop-i : goal.invariant-loop-i
invariant-loop-i l = record { spreading : Spreading l.initial.nodes l.count l.r l.i l.nodes; room : l.count ≤ length l.nodes }
