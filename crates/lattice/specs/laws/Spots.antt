-- The places of a layer's destinations: where each node's three are looked for. Assumes nothing.
use Rattle.std.specs.Prelude.{ℕ, ◌≤◌, ◌<◌, ◌≡◌, Bool, cond, List, [], ◌∷◌, length, get_or, ℤ, pos}
use Rattle.std.proofs.Math.IntN.{pred_ℤ, suc_ℤ}
use Rattle.lattice.specs.declared.reach.Reach.{Reach}
use Rattle.lattice.specs.laws.Reaching.{reach}
use Rattle.lattice.specs.laws.Positions.{spot_at, past}

-- A destination's position among the numbers, c of which are reached.
pub record Spot (ns : List ℤ) (c p : ℕ) (n : ℤ) : Type 0 where
  pub reached : p ≤ c
  pub inside : p < length ns
  pub number : get_or ns p (pos 0) ≡ n

-- How many are reached once all three positions were written.
abbrev pub after_three : Bool → ℕ → ℕ → ℕ
after_three flat c count = past (past (past c (spot_at flat count 3)) (spot_at flat count 2)) (spot_at flat count 1)

-- The three destinations of a node.
pub record Spots (ns : List ℤ) (flat : Bool) (c count : ℕ) (m : ℤ) : Type 0 where
  pub three : 3 ≤ count
  pub counted : c ≤ length ns
  pub low : Spot ns c (spot_at flat count 3) (cond flat m (pred_ℤ m))
  pub mid : Spot ns (past c (spot_at flat count 3)) (spot_at flat count 2) m
  pub high : Spot ns (past (past c (spot_at flat count 3)) (spot_at flat count 2)) (spot_at flat count 1) (cond flat m (suc_ℤ m))

-- Replaying a layer's middles from r, with c reached, each node's destinations are where they are looked for; in the end all numbers are reached.
pub data Placed (ns : List ℤ) (flat : Bool) : Reach → ℕ → List ℤ → Type 0 where
  all_placed : {r : Reach} {c : ℕ} → c ≡ length ns → Placed ns flat r c []
  next_placed : {r : Reach} {c : ℕ} {m : ℤ} {ms : List ℤ} → r.count ≡ c → Spots ns flat r.count (reach r m).count m → Placed ns flat (reach r m) (after_three flat r.count (reach r m).count) ms → Placed ns flat r c (m ∷ ms)
