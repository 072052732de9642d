-- Where a node's three destinations lie in the next row: once the node is replayed, they are the last three reached; in a flat tree all three are the one there is. Assumes nothing.
use Rattle.std.specs.Prelude.{ℕ, ◌-◌, ◌≤◌, ◌<◌, ◌+◌, ◌*◌, ◌≡◌, Bool, true, false, cond, List, [], ◌∷◌, ltb, length, get_or, ℤ, pos, Float}
use Rattle.std.proofs.Common.{arith}
use Rattle.lattice.specs.declared.reach.Reach.{Reach}
use Rattle.lattice.specs.laws.Bounds.{Within}
use Rattle.lattice.specs.laws.Stored.{middles_in}
use Rattle.lattice.specs.laws.Reaching.{reach, nothing_below}

-- The position of a destination: `back` before the count that is reached, or 0 in a flat tree.
abbrev pub spot_at : Bool → ℕ → ℕ → ℕ
spot_at flat count back = cond flat 0 (count - back)

-- How many are reached, `count` before, once the position was written.
abbrev pub past : ℕ → ℕ → ℕ
past count at = cond (ltb at count) count (at + 1)

-- Before the first node nothing is reached.
abbrev pub start_of : List ℤ → Reach
start_of nodes = nothing_below (get_or nodes 1 (pos 0))

-- Every node, replayed in turn, has its destinations within the room.
pub data Roomy (flat : Bool) (room : ℕ) : Reach → List ℤ → Type 0 where
  no_nodes : {r : Reach} → Roomy flat room r []
  one_node : {r : Reach} {m : ℤ} {ms : List ℤ} → Within m → r.count ≤ room → 3 ≤ (reach r m).count → spot_at flat (reach r m).count 1 < room → Roomy flat room (reach r m) ms → Roomy flat room r (m ∷ ms)

-- A destination further back is within the room too.
pub spot-below : (flat : Bool) (count back room : ℕ) {s : ℕ} → s ≡ spot_at flat count back → 1 ≤ back → spot_at flat count 1 < room → s < room
spot-below true count back room e b h = omega arith
spot-below false count back room e b h = omega arith

-- What one layer brings: two entries a node, three probabilities a node, at least one node, and room for its destinations.
pub record Layered (flat : Bool) (room : ℕ) (nodes : List ℤ) (probabilities : List Float) (count : ℕ) : Type 0 where
  pub pairs : length nodes ≡ count * 2
  pub threes : length probabilities ≡ count * 3
  pub some-node : 0 < count
  pub roomy : Roomy flat room (start_of nodes) (middles_in nodes)

-- The next node's share of the room.
pub record Held (flat : Bool) (room : ℕ) (r : Reach) (m : ℤ) (ms : List ℤ) : Type 0 where
  pub within : Within m
  pub counted : r.count ≤ room
  pub three : 3 ≤ (reach r m).count
  pub spot : spot_at flat (reach r m).count 1 < room
  pub rest : Roomy flat room (reach r m) ms

pub roomy_next : {flat : Bool} {room : ℕ} {r : Reach} {m : ℤ} {ms : List ℤ} → Roomy flat room r (m ∷ ms) → Held flat room r m ms
roomy_next (one_node w c t s rest) = record { within = w; counted = c; three = t; spot = s; rest = rest }
