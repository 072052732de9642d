-- The replay finds the places of a layer's destinations: of a tree that isn't flat, by the theorem on rising middles; of a flat one, at the only position there is. Assumes nothing.
use Rattle.std.specs.Prelude.{ℕ, ◌+◌, ◌-◌, ◌≤◌, ◌≡◌, refl, Bool, true, false, cond, List, [], ◌∷◌, ltb, length, ℤ, pos}
use Rattle.std.proofs.Common.{arith, ltb-true, ltb-false}
use Rattle.lattice.specs.declared.reach.Reach.{Reach}
use Rattle.lattice.specs.laws.Bounds.{AllWithin, one_middle}
use Rattle.lattice.specs.laws.Reaching.{reach, reach-count, nothing_below}
use Rattle.lattice.specs.laws.Replaying.{Stands, Replays, done, node}
use Rattle.lattice.specs.laws.Positions.{past, Roomy, no_nodes, one_node}
use Rattle.lattice.specs.laws.Spots.{Spot, Spots, after_three, Placed, all_placed, next_placed}

-- ---- how many are reached

-- A position that was written is reached, and no more than it.
past_bounds : (c p : ℕ) → (c ≤ past c p) × (p + 1 ≤ past c p)
past_bounds c p = go (ltb p c) refl
  where
    go : (b : Bool) → ltb p c ≡ b → (c ≤ cond b c (p + 1)) × (p + 1 ≤ cond b c (p + 1))
    go true e = let h = ltb-true p c e in (omega arith, omega arith)
    go false e = let h = ltb-false p c e in (omega arith, omega arith)

past-most : (c p k : ℕ) → c ≤ k → p + 1 ≤ k → past c p ≤ k
past-most c p k a b = go (ltb p c)
  where
    go : (t : Bool) → cond t c (p + 1) ≤ k
    go true = a
    go false = b

-- ---- a tree that isn't flat

spots_of : (ns : List ℤ) (r : Reach) (m : ℤ) → 3 ≤ (reach r m).count → Stands ns ((reach r m).count - 3) m → Spots ns false r.count (reach r m).count m
spots_of ns r m h s =
    let n : ℕ = (reach r m).count in
    let k = reach-count r m in
    let a = past_bounds r.count (n - 3) in
    let b = past_bounds (past r.count (n - 3)) (n - 2) in
    let e2 : n - 3 + 1 ≡ n - 2 = omega arith in
    let e1 : n - 3 + 2 ≡ n - 1 = omega arith in
    record {
      three = h;
      counted = omega (arith, s.room, k.0);
      low = record { reached = omega (arith, k.1); inside = omega (arith, s.room); number = s.down };
      mid = record { reached = omega (arith, a.1); inside = omega (arith, s.room); number = rw e2 at s.middle };
      high = record { reached = omega (arith, b.1); inside = omega (arith, s.room); number = rw e1 at s.up };
    }

all_of : (r : Reach) (m : ℤ) → 3 ≤ (reach r m).count → after_three false r.count (reach r m).count ≡ (reach r m).count
all_of r m h =
    let n : ℕ = (reach r m).count in
    let k = reach-count r m in
    let x : past r.count (n - 3) ≤ n = past-most r.count (n - 3) n k.0 (omega arith) in
    let y : past (past r.count (n - 3)) (n - 2) ≤ n = past-most _ (n - 2) n x (omega arith) in
    let z : after_three false r.count n ≤ n = past-most _ (n - 1) n y (omega arith) in
    let w = past_bounds (past (past r.count (n - 3)) (n - 2)) (n - 1) in
    omega (arith, w.1)

pub placed-curved : {ns : List ℤ} {r : Reach} {ms : List ℤ} → Replays ns r ms → Placed ns false r r.count ms
placed-curved (done e) = all_placed e
placed-curved {ns = ns} (node {r = r} {m = m} {ms = ms} h s rest) = next_placed {r = r} {m = m} {ms = ms} refl (spots_of ns r m h s) (rw (all_of r m h) (placed-curved rest))

-- ---- a flat tree

abbrev root : List ℤ
root = pos 0 ∷ []

at_root : (c : ℕ) → Spot root c 0 (pos 0)
at_root c = record { reached = omega arith; inside = omega arith; number = refl }

pub placed-flat : Placed root true (nothing_below (pos 0)) 0 root
unfolding reach
placed-flat = next_placed {r = nothing_below (pos 0)} {m = pos 0} {ms = []} refl (record { three = omega arith; counted = omega arith; low = at_root _; mid = at_root _; high = at_root _ }) (all_placed refl)

-- ---- room for the destinations

pub roomy_of : {ns : List ℤ} {flat : Bool} {r : Reach} {c : ℕ} {ms : List ℤ} (room : ℕ) → Placed ns flat r c ms → AllWithin ms → length ns ≤ room → Roomy flat room r ms
roomy_of room (all_placed e) w l = no_nodes
roomy_of room (next_placed {r = r} {m = m} {ms = ms} e s rest) (one_middle w ws) l =
    one_node {r = r} {m = m} {ms = ms} w (omega (arith, s.counted)) s.three (omega (arith, s.high.inside)) (roomy_of room rest ws l)
