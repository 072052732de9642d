-- A loop that lays the next layer's nodes behind a layer, middle by middle: the layer in front stays as it is, and what is left to do gives the whole. Assumes nothing.
use Rattle.std.specs.Prelude.{ℕ, ◌+◌, ◌-◌, ◌*◌, ◌≤◌, ◌<◌, ◌≡◌, refl, Bool, true, false, cond, List, set, ℤ, pos}
use native.Mathlib.Omega.{arith}
use Rattle.std.proofs.Common.{ap, ◌∙◌, get_or-set_other}
use Rattle.std.proofs.Math.ListN.{length, get_or}
use Rattle.std.proofs.Math.IntN.{suc_ℤ, pred_ℤ}
use Rattle.lattice.specs.declared.reach.Reach.{Reach}
use Rattle.lattice.specs.Layers.{below}
use Rattle.lattice.specs.laws.Bounds.{Within, AllWithin, held_both}
use Rattle.lattice.specs.laws.Reaching.{reach_one, reach, reach_all, nothing_below, reach_one-count}
use Rattle.lattice.specs.laws.Counting.{middles_from, left_over}
use Rattle.lattice.specs.laws.Laying.{Pushed, pushed, pushed_three, pushed_all, pushed-length, three_length, reach_all-count}

-- ---- three nodes, one by one

pub three_is : (from : ℕ) (r : Reach) (m : ℤ) (l : List ℤ) → pushed_three from r m l ≡ pushed from (reach_one (reach_one r (pred_ℤ m)) m) (suc_ℤ m) (pushed from (reach_one r (pred_ℤ m)) m (pushed from r (pred_ℤ m) l))
unfolding pushed_three
three_is from r m l = refl

-- With what the code has in hand: a, b and d are the three nodes.
module _ (from : ℕ) (r : Reach) (m : ℤ) (l : List ℤ) (room : 2 * (from + (reach r m).count) ≤ length l) where
  pub first_room : {a : ℤ} → a ≡ pred_ℤ m → 2 * (from + (reach_one r a).count) ≤ length l
  unfolding reach
  first_room {a} p =
      rw p
      (omega (arith, room, (reach_one-count (reach_one r (pred_ℤ m)) m).0, (reach_one-count (reach_one (reach_one r (pred_ℤ m)) m) (suc_ℤ m)).0))

  module _ {a : ℤ} {s : Reach} {k : List ℤ} (p : a ≡ pred_ℤ m) (one : Pushed s (reach_one r a) k (pushed from r a l)) where
    first_long : length k ≡ length l
    first_long = ap length one.slice ∙ pushed-length from r a l

    pub second-room : {b : ℤ} → b ≡ m → 2 * (from + (reach_one s b).count) ≤ length k
    unfolding reach
    second-room {b} q = rw (q, one.reach, p, first_long) (omega (arith, room, (reach_one-count (reach_one (reach_one r (pred_ℤ m)) m) (suc_ℤ m)).0))

    module _ {b : ℤ} {t : Reach} {h : List ℤ} (q : b ≡ m) (two : Pushed t (reach_one s b) h (pushed from s b k)) where
      pub third-room : {d : ℤ} → d ≡ suc_ℤ m → 2 * (from + (reach_one t d).count) ≤ length h
      unfolding reach
      third-room {d} z = rw (z, two.slice, pushed-length from s b k, first_long, two.reach, one.reach, q, p) room

      pub three_pushed : {d : ℤ} {u : Reach} {o : List ℤ} → d ≡ suc_ℤ m → Pushed u (reach_one t d) o (pushed from t d h) → Pushed u (reach r m) o (pushed_three from r m l)
      unfolding reach pushed_three
      three_pushed {d} {u} {o} z three =
          record {
            reach = three.reach ∙ (rw (z, two.reach, one.reach, q, p));
            slice = three.slice ∙ (rw (z, two.slice, two.reach, one.slice, one.reach, q, p));
          }

-- ---- the layer in front

pushed_front : (from : ℕ) (r : Reach) (n : ℤ) (l : List ℤ) (k : ℕ) → k < 2 * from → get_or (pushed from r n l) k (pos 0) ≡ get_or l k (pos 0)
unfolding pushed
pushed_front from r n l k h = go (below r.top n)
  where
    go : (b : Bool) → get_or (cond b (set (set l (2 * (from + r.count)) n) (2 * (from + r.count) + 1) (pos 0)) l) k (pos 0) ≡ get_or l k (pos 0)
    go true =
        get_or-set_other (set l (2 * (from + r.count)) n) (2 * (from + r.count) + 1) k (pos 0) (pos 0) (λ e. omega arith)
        ∙ get_or-set_other l (2 * (from + r.count)) k n (pos 0) (λ e. omega arith)
    go false = refl

three_front : (from : ℕ) (r : Reach) (m : ℤ) (l : List ℤ) (k : ℕ) → k < 2 * from → get_or (pushed_three from r m l) k (pos 0) ≡ get_or l k (pos 0)
three_front from r m l k h =
    let a = pushed from r (pred_ℤ m) l in
    let b = pushed from (reach_one r (pred_ℤ m)) m a in
    rw (three_is from r m l) (pushed_front from (reach_one (reach_one r (pred_ℤ m)) m) (suc_ℤ m) b k h ∙ pushed_front from (reach_one r (pred_ℤ m)) m a k h ∙ pushed_front from r (pred_ℤ m) l k h)

-- ---- the loop

module _ (before : List ℤ) (count : ℕ) where
  pub record Spreading (r : Reach) (i : ℕ) (nodes : List ℤ) : Type 0 where
    pub within : i ≤ count
    pub held : AllWithin (middles_from before i (count - i))
    pub room : 2 * (count + (reach_all r (middles_from before i (count - i))).count) ≤ length before
    pub long : length nodes ≡ length before
    pub front : (k : ℕ) → k < 2 * count → get_or nodes k (pos 0) ≡ get_or before k (pos 0)
    pub same : pushed_all count r (middles_from before i (count - i)) nodes ≡ pushed_all count (nothing_below (get_or before 1 (pos 0))) (middles_from before 0 count) before

  pub spreading_begun : AllWithin (middles_from before 0 count) → 2 * (count + (reach_all (nothing_below (get_or before 1 (pos 0))) (middles_from before 0 count)).count) ≤ length before → Spreading (nothing_below (get_or before 1 (pos 0))) 0 before
  spreading_begun a h =
      let e : count - 0 ≡ count = omega arith in
      record { within = omega arith; held = rw e a; room = rw e h; long = refl; front = λ k _. refl; same = rw e }

  module _ (r : Reach) (i : ℕ) (nodes : List ℤ) (s : Spreading r i nodes) where
    -- the middle that is read
    middle-read : i < count → get_or nodes (2 * i + 1) (pos 0) ≡ get_or before (2 * i + 1) (pos 0)
    middle-read h = s.front (2 * i + 1) (omega arith)

    pub spread-held : i < count → Within (get_or nodes (2 * i + 1) (pos 0))
    unfolding middles_from
    spread-held h = rw (middle-read h) (held_both (rw (left_over h) at s.held)).0

    pub spread-pairs : 2 * count ≤ length nodes
    spread-pairs = let a = s.room in let b = s.long in omega arith

    pub spread-room : i < count → 2 * (count + (reach r (get_or nodes (2 * i + 1) (pos 0))).count) ≤ length nodes
    unfolding middles_from reach_all
    spread-room h =
        let m = get_or before (2 * i + 1) (pos 0) in
        let a : 2 * (count + (reach_all (reach r m) (middles_from before (i + 1) (count - (i + 1)))).count) ≤ length before = rw (left_over h) at s.room in
        let b = reach_all-count (reach r m) (middles_from before (i + 1) (count - (i + 1))) in
        let l = s.long in
        rw (middle-read h) (omega arith)

    pub spreading_one : i < count → Spreading (reach r (get_or nodes (2 * i + 1) (pos 0))) (i + 1) (pushed_three count r (get_or nodes (2 * i + 1) (pos 0)) nodes)
    unfolding middles_from reach_all pushed_all
    spreading_one h =
        let m = get_or before (2 * i + 1) (pos 0) in
        rw (middle-read h)
        (record {
          within = omega arith;
          held = (held_both (rw (left_over h) at s.held)).1;
          room = rw (left_over h) at s.room;
          long = three_length count r m nodes ∙ s.long;
          front = λ k p. three_front count r m nodes k p ∙ s.front k p;
          same = rw (left_over h) at s.same;
        })

    pub spreading_all : count ≤ i → nodes ≡ pushed_all count (nothing_below (get_or before 1 (pos 0))) (middles_from before 0 count) before
    unfolding middles_from pushed_all
    spreading_all h = let z : count - i ≡ 0 = omega arith in rw z at s.same
