-- Counting the nodes that a layer's middles reach, and laying them out, node by node. Assumes nothing.
use Rattle.std.specs.Prelude.{ℕ, zero, suc, ◌+◌, ◌-◌, ◌*◌, ◌≤◌, ◌<◌, ◌≡◌, List, [], ◌∷◌, get_or, ℤ, pos}
use native.Mathlib.Omega.{arith}
use Rattle.lattice.specs.declared.reach.Reach.{Reach}
use Rattle.lattice.specs.laws.Bounds.{Within, AllWithin, held_both}
use Rattle.lattice.specs.laws.Reaching.{reach, reach_all, reach-count, nothing_below}

-- The middles of k nodes from node i on.
unfoldable pub middles_from : List ℤ → ℕ → ℕ → List ℤ
middles_from nodes i zero = []
middles_from nodes i (suc k) = get_or nodes (2 * i + 1) (pos 0) ∷ middles_from nodes (i + 1) k

-- The reach of the middles from node i on, replayed so far.
pub record Counting (nodes : List ℤ) (count : ℕ) (r : Reach) (i : ℕ) : Type 0 where
  pub within : i ≤ count
  pub few : r.count ≤ 3 * i
  pub held : AllWithin (middles_from nodes i (count - i))
  pub same : reach_all r (middles_from nodes i (count - i)) ≡ reach_all (nothing_below (get_or nodes 1 (pos 0))) (middles_from nodes 0 count)

-- One node of those that are left, and the others.
pub left_over : {i count : ℕ} → i < count → count - i ≡ suc (count - (i + 1))
left_over h = omega arith

module _ (nodes : List ℤ) (count : ℕ) where
  pub counting-begun : AllWithin (middles_from nodes 0 count) → Counting nodes count (nothing_below (get_or nodes 1 (pos 0))) 0
  counting-begun h = let e : count - 0 ≡ count = omega arith in record { within = omega arith; few = omega arith; held = rw e h; same = rw e }

  module _ (r : Reach) (i : ℕ) (c : Counting nodes count r i) where
    pub middle-held : i < count → Within (get_or nodes (2 * i + 1) (pos 0))
    unfolding middles_from
    middle-held h = (held_both (rw (left_over h) at c.held)).0

    pub counting_one : i < count → Counting nodes count (reach r (get_or nodes (2 * i + 1) (pos 0))) (i + 1)
    unfolding middles_from reach_all
    counting_one h =
        let f = c.few in
        let w = c.within in
        record {
          within = omega arith;
          few = omega (arith, (reach-count r (get_or nodes (2 * i + 1) (pos 0))).1);
          held = (held_both (rw (left_over h) at c.held)).1;
          same = rw (left_over h) at c.same;
        }

    pub counting_all : count ≤ i → r ≡ reach_all (nothing_below (get_or nodes 1 (pos 0))) (middles_from nodes 0 count)
    unfolding middles_from reach_all
    counting_all h = let z : count - i ≡ 0 = omega arith in rw z at c.same

  pub first_held : 0 < count → AllWithin (middles_from nodes 0 count) → Within (get_or nodes 1 (pos 0))
  first_held h a = middle-held (nothing_below (get_or nodes 1 (pos 0))) 0 (counting-begun a) h
