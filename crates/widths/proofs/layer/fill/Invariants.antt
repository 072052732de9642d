-- `fill` meets its contract: the invariant is that the first i middles are there and the rest gives the whole. Assumes nothing.
use Prim.Native.Nat.{◌≤◌}
use lib.ListN.{length}
use Rattle.widths.specs.laws.InPlace.{InPlace}
use Rattle.widths.proofs.layer.fill.Given as goal

abbrev pub invariant-loop-i : goal.invariant-loop-i
invariant-loop-i l = record { filling : InPlace l.spacing l.decay l.new_spacing l.place l.count l.initial.nodes l.nodes l.i; room : l.count ≤ length l.nodes }
