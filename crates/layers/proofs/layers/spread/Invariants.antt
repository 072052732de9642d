-- `spread` meets its contract: middle by middle, with the layer in front as it was. Assumes nothing.
use Prim.Native.Nat.{◌*◌, ◌≤◌}
use lib.ListN.{length}
use Rattle.lattice.specs.laws.Spreading.{Spreading}
use Rattle.layers.proofs.layers.spread.Given as goal

abbrev pub invariant-loop-i : goal.invariant-loop-i
invariant-loop-i l = record { spreading : Spreading l.initial.nodes l.count l.r l.i l.nodes; pairs : 2 * l.count ≤ length l.nodes }
