-- Counting the nodes that the middles in front of a slice reach, middle by middle. Assumes nothing.
use Rattle.std.specs.Prelude.{ℕ, ◌+◌, ◌*◌, ◌≤◌, ◌<◌, ◌≡◌, List, ◌∷◌, length, get_or, take, ℤ, pos}
use Rattle.std.proofs.Common.{arith}
use Rattle.lattice.specs.declared.reach.Reach.{Reach}
use Rattle.lattice.specs.laws.Bounds.{Within, AllWithin, held_both}
use Rattle.lattice.specs.laws.Reaching.{reach, reach_all, reach-count, nothing_below}
use Rattle.widths.specs.laws.LeftOver.{left_from, left_first, left_cons, left_none}

-- The reach of the middles from the i-th on, replayed so far.
pub record Counting (nodes : List ℤ) (count : ℕ) (r : Reach) (i : ℕ) : Type 0 where
  pub within : i ≤ count
  pub room : count ≤ length nodes
  pub few : r.count ≤ 3 * i
  pub held : AllWithin (left_from nodes count i)
  pub same : reach_all r (left_from nodes count i) ≡ reach_all (nothing_below (get_or nodes 0 (pos 0))) (take count nodes)

module _ (nodes : List ℤ) (count : ℕ) where
  pub counting-begun : count ≤ length nodes → AllWithin (take count nodes) → Counting nodes count (nothing_below (get_or nodes 0 (pos 0))) 0
  counting-begun l h = let e = left_first nodes count in record { within = omega arith; room = l; few = omega arith; held = rw e h; same = rw e }

  module _ (r : Reach) (i : ℕ) (c : Counting nodes count r i) where
    one_left : i < count → left_from nodes count i ≡ get_or nodes i (pos 0) ∷ left_from nodes count (i + 1)
    one_left h = left_cons nodes count i c.room h

    pub middle-held : i < count → Within (get_or nodes i (pos 0))
    middle-held h = (held_both (rw (one_left h) at c.held)).0

    pub counting_one : i < count → Counting nodes count (reach r (get_or nodes i (pos 0))) (i + 1)
    unfolding reach_all
    counting_one h =
        let f = c.few in
        let w = c.within in
        record {
          within = omega arith;
          room = c.room;
          few = omega (arith, (reach-count r (get_or nodes i (pos 0))).1);
          held = (held_both (rw (one_left h) at c.held)).1;
          same = rw (one_left h) at c.same;
        }

    pub counting_all : count ≤ i → r ≡ reach_all (nothing_below (get_or nodes 0 (pos 0))) (take count nodes)
    unfolding reach_all
    counting_all h = rw (left_none nodes count i h) at c.same

  pub first_held : 0 < count → count ≤ length nodes → AllWithin (take count nodes) → Within (get_or nodes 0 (pos 0))
  first_held h l a = middle-held (nothing_below (get_or nodes 0 (pos 0))) 0 (counting-begun l a) h
