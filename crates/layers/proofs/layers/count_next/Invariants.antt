-- `count_next` meets its contract: the invariant is that the middles from node i on, replayed, give the whole reach. Assumes nothing.
use Prim.Native.Nat.{◌*◌, ◌≤◌}
use Rattle.lattice.specs.laws.Counting.{Counting}
use Rattle.layers.proofs.layers.count_next.Given as goal

abbrev pub invariant-loop-i : goal.invariant-loop-i
invariant-loop-i l = record { counting : Counting l.nodes l.count l.r l.i; few : l.r.count ≤ 3 * l.i }
