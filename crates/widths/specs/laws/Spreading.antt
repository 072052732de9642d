-- A loop that lays the next layer's nodes behind a layer, middle by middle: the layer in front stays as it is, and what is left to do gives the whole. Assumes nothing.
use Rattle.std.specs.Prelude.{ℕ, ◌+◌, ◌≤◌, ◌<◌, ◌≡◌, refl, Bool, true, false, cond, List, ◌∷◌, take, set, ℤ, pos}
use Rattle.std.proofs.Common.{arith, ap, ◌∙◌, get_or-set_other}
use Rattle.std.proofs.Math.ListN.{length, get_or}
use Rattle.std.proofs.Math.IntN.{suc_ℤ, pred_ℤ}
use Rattle.lattice.specs.declared.reach.Reach.{Reach}
use Rattle.lattice.specs.Layers.{below}
use Rattle.lattice.specs.laws.Bounds.{Within, AllWithin, held_both}
use Rattle.lattice.specs.laws.Reaching.{reach_one, reach, reach_all, nothing_below, reach_one-count}
use Rattle.lattice.specs.laws.Laying.{Pushed, reach_all-count}
use Rattle.widths.specs.laws.LeftOver.{left_from, left_first, left_cons, left_none}
use Rattle.widths.specs.laws.Placing.{placed, placed_three, placed_all, placed-length, three_length}

-- ---- three nodes, one by one

pub three_is : (from : ℕ) (r : Reach) (m : ℤ) (l : List ℤ) → placed_three from r m l ≡ placed from (reach_one (reach_one r (pred_ℤ m)) m) (suc_ℤ m) (placed from (reach_one r (pred_ℤ m)) m (placed from r (pred_ℤ m) l))
unfolding placed_three
three_is from r m l = refl

-- With what the code has in hand: a, b and d are the three nodes.
module _ (from : ℕ) (r : Reach) (m : ℤ) (l : List ℤ) (room : from + (reach r m).count ≤ length l) where
  pub first_room : {a : ℤ} → a ≡ pred_ℤ m → from + (reach_one r a).count ≤ length l
  unfolding reach
  first_room {a} p =
      rw p
      (omega (arith, room, (reach_one-count (reach_one r (pred_ℤ m)) m).0, (reach_one-count (reach_one (reach_one r (pred_ℤ m)) m) (suc_ℤ m)).0))

  module _ {a : ℤ} {s : Reach} {k : List ℤ} (p : a ≡ pred_ℤ m) (one : Pushed s (reach_one r a) k (placed from r a l)) where
    first_long : length k ≡ length l
    first_long = ap length one.slice ∙ placed-length from r a l

    pub second-room : {b : ℤ} → b ≡ m → from + (reach_one s b).count ≤ length k
    unfolding reach
    second-room {b} q = rw (q, one.reach, p, first_long) (omega (arith, room, (reach_one-count (reach_one (reach_one r (pred_ℤ m)) m) (suc_ℤ m)).0))

    module _ {b : ℤ} {t : Reach} {h : List ℤ} (q : b ≡ m) (two : Pushed t (reach_one s b) h (placed from s b k)) where
      pub third-room : {d : ℤ} → d ≡ suc_ℤ m → from + (reach_one t d).count ≤ length h
      unfolding reach
      third-room {d} z = rw (z, two.slice, placed-length from s b k, first_long, two.reach, one.reach, q, p) room

      pub three_placed : {d : ℤ} {u : Reach} {o : List ℤ} → d ≡ suc_ℤ m → Pushed u (reach_one t d) o (placed from t d h) → Pushed u (reach r m) o (placed_three from r m l)
      unfolding reach placed_three
      three_placed {d} {u} {o} z three =
          record {
            reach = three.reach ∙ (rw (z, two.reach, one.reach, q, p));
            slice = three.slice ∙ (rw (z, two.slice, two.reach, one.slice, one.reach, q, p));
          }

-- ---- the layer in front

placed-front : (from : ℕ) (r : Reach) (n : ℤ) (l : List ℤ) (k : ℕ) → k < from → get_or (placed from r n l) k (pos 0) ≡ get_or l k (pos 0)
unfolding placed
placed-front from r n l k h = go (below r.top n)
  where
    go : (b : Bool) → get_or (cond b (set l (from + r.count) n) l) k (pos 0) ≡ get_or l k (pos 0)
    go true = get_or-set_other l (from + r.count) k n (pos 0) (λ e. omega arith)
    go false = refl

three_front : (from : ℕ) (r : Reach) (m : ℤ) (l : List ℤ) (k : ℕ) → k < from → get_or (placed_three from r m l) k (pos 0) ≡ get_or l k (pos 0)
three_front from r m l k h =
    let a = placed from r (pred_ℤ m) l in
    let b = placed from (reach_one r (pred_ℤ m)) m a in
    rw (three_is from r m l) (placed-front from (reach_one (reach_one r (pred_ℤ m)) m) (suc_ℤ m) b k h ∙ placed-front from (reach_one r (pred_ℤ m)) m a k h ∙ placed-front from r (pred_ℤ m) l k h)

-- ---- the loop

module _ (before : List ℤ) (count : ℕ) where
  pub record Spreading (r : Reach) (i : ℕ) (nodes : List ℤ) : Type 0 where
    pub within : i ≤ count
    pub held : AllWithin (left_from before count i)
    pub room : count + (reach_all r (left_from before count i)).count ≤ length before
    pub long : length nodes ≡ length before
    pub front : (k : ℕ) → k < count → get_or nodes k (pos 0) ≡ get_or before k (pos 0)
    pub same : placed_all count r (left_from before count i) nodes ≡ placed_all count (nothing_below (get_or before 0 (pos 0))) (take count before) before

  pub spreading_begun : AllWithin (take count before) → count + (reach_all (nothing_below (get_or before 0 (pos 0))) (take count before)).count ≤ length before → Spreading (nothing_below (get_or before 0 (pos 0))) 0 before
  spreading_begun a h =
      let e = left_first before count in
      record { within = omega arith; held = rw e a; room = rw e h; long = refl; front = λ k _. refl; same = rw e }

  module _ (r : Reach) (i : ℕ) (nodes : List ℤ) (s : Spreading r i nodes) where
    one_left : i < count → left_from before count i ≡ get_or before i (pos 0) ∷ left_from before count (i + 1)
    one_left h = let a = s.room in left_cons before count i (omega arith) h

    -- the middle that is read
    middle-read : i < count → get_or nodes i (pos 0) ≡ get_or before i (pos 0)
    middle-read h = s.front i (omega arith)

    pub spread-held : i < count → Within (get_or nodes i (pos 0))
    spread-held h = rw (middle-read h) (held_both (rw (one_left h) at s.held)).0

    pub spread-long : count ≤ length nodes
    spread-long = let a = s.room in let b = s.long in omega arith

    pub spread-room : i < count → count + (reach r (get_or nodes i (pos 0))).count ≤ length nodes
    unfolding reach_all
    spread-room h =
        let m = get_or before i (pos 0) in
        let a : count + (reach_all (reach r m) (left_from before count (i + 1))).count ≤ length before = rw (one_left h) at s.room in
        let b = reach_all-count (reach r m) (left_from before count (i + 1)) in
        let l = s.long in
        rw (middle-read h) (omega arith)

    pub spreading_one : i < count → Spreading (reach r (get_or nodes i (pos 0))) (i + 1) (placed_three count r (get_or nodes i (pos 0)) nodes)
    unfolding reach_all placed_all
    spreading_one h =
        let m = get_or before i (pos 0) in
        rw (middle-read h)
        (record {
          within = omega arith;
          held = (held_both (rw (one_left h) at s.held)).1;
          room = rw (one_left h) at s.room;
          long = three_length count r m nodes ∙ s.long;
          front = λ k p. three_front count r m nodes k p ∙ s.front k p;
          same = rw (one_left h) at s.same;
        })

    pub spreading_all : count ≤ i → nodes ≡ placed_all count (nothing_below (get_or before 0 (pos 0))) (take count before) before
    unfolding placed_all
    spreading_all h = rw (left_none before count i h) at s.same
