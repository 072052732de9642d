-- Where a node's destinations stand in the next layer: replayed middle by middle, they are the last three reached. Assumes nothing.
use Rattle.std.specs.Prelude.{refl, List, [], ◌∷◌, ℤ}
use Rattle.std.proofs.Common.{arith}
use Rattle.lattice.specs.laws.Reaching.{nothing_below}
use Rattle.lattice.specs.laws.RisingMiddles.{Rising, around, laid, done_at}
use Rattle.lattice.proofs.theorems.RisingMiddles.{around-laid}
use Rattle.lattice.specs.laws.Replaying.{Replays, first_reach, node, replays_on, stands_after}

pub replayed : (m : ℤ) (ms : List ℤ) → Rising m ms → Replays (around (m ∷ ms)) (nothing_below m) (m ∷ ms)
replayed m ms r =
    let d = first_reach m in
    rw (around-laid 3 m ms r) (node {r = nothing_below m} {m = m} {ms = ms} (rw d (omega arith)) (rw d (stands_after [] m (laid (done_at m 3) ms) 3 refl)) (rw d (replays_on [] m ms 3 refl r)))
