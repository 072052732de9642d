-- What laying all middles of a layer leaves: the nodes that they reach, with middles 0, behind the layer in front; and how many there are. Assumes nothing.
use Rattle.std.specs.Prelude.{ℕ, zero, suc, ◌+◌, ◌*◌, ◌≤◌, ◌≡◌, refl, Bool, cond, get_or, ℤ}
use native.Mathlib.Omega.{arith}
use Rattle.std.proofs.Common.{sym, ◌∙◌}
use Rattle.std.proofs.Math.Path.{ap}
use Rattle.std.proofs.Math.Bool.{true, false}
use mathlib.Core.List.{List, [], ◌∷◌, ◌++◌, append_assoc, append-nil}
use Rattle.std.proofs.Math.ListN.{length, drop, set, length-append}
use Rattle.std.proofs.lemmas.List.{set_at}
use Rattle.std.proofs.Math.Seq.{drop-append_seam}
use Rattle.std.proofs.Math.IntN.{pos, suc_ℤ, pred_ℤ, pred-suc}
use Rattle.lattice.specs.declared.reach.Reach.{Reach}
use Rattle.lattice.specs.Layers.{below}
use Rattle.lattice.specs.laws.IntegerOrder.{up, up_pred, up_suc, below_up, at_base}
use Rattle.lattice.specs.laws.Reaching.{reach_one, reach, reach_all, nothing_below, reach_one-count, reach-count}
use Rattle.lattice.specs.laws.RisingMiddles.{laid_one, laid_three, laid}
use Rattle.lattice.specs.laws.Counting.{middles_from}
use Rattle.lattice.specs.laws.Stored.{last_pairs}
use Rattle.lattice.specs.laws.StoredAt.{two_more}
use Rattle.lattice.specs.laws.FilledLayer.{set-second}
use Rattle.lattice.specs.laws.Laying.{pushed, pushed_three, pushed_all, reach_all-count}

-- ---- how many

one_count : (r : Reach) (n : ℤ) (t : List ℤ) → length (laid_one r n t) + r.count ≡ length t + (reach_one r n).count
unfolding laid_one reach_one
one_count r n t = go (below r.top n)
  where
    go : (b : Bool) → length (cond b (n ∷ t) t) + r.count ≡ length t + (cond b (record { top = n; count = r.count + 1 }) r).count
    go true = omega arith
    go false = refl

three_count : (r : Reach) (m : ℤ) (t : List ℤ) → length (laid_three r m t) + r.count ≡ length t + (reach r m).count
unfolding laid_three reach
three_count r m t =
    let a = reach_one r (pred_ℤ m) in
    let b = reach_one a m in
    omega (arith, one_count r (pred_ℤ m) (laid_one a m (laid_one b (suc_ℤ m) t)), one_count a m (laid_one b (suc_ℤ m) t), one_count b (suc_ℤ m) t)

pub laid-count : (r : Reach) (ms : List ℤ) → length (laid r ms) + r.count ≡ (reach_all r ms).count
unfolding laid reach_all
laid-count r [] = omega arith
laid-count r (m ∷ ms) = omega (arith, three_count r m (laid (reach r m) ms), laid-count (reach r m) ms)

-- At most three a middle.
pub reach_few : (r : Reach) (l : List ℤ) (i k : ℕ) → (reach_all r (middles_from l i k)).count ≤ r.count + 3 * k
unfolding middles_from reach_all
reach_few r l i zero = omega arith
reach_few r l i (suc k) = let m = get_or l (2 * i + 1) (pos 0) in omega (arith, (reach-count r m).1, reach_few (reach r m) l (i + 1) k)

-- ---- where

-- The front of the slice once a node is tried.
unfoldable front_one : Reach → ℤ → List ℤ → List ℤ
front_one r n front = cond (below r.top n) (front ++ (n ∷ pos 0 ∷ [])) front

front_one_lem : (r : Reach) (n : ℤ) (front t : List ℤ) → front_one r n front ++ last_pairs t ≡ front ++ last_pairs (laid_one r n t)
unfolding front_one laid_one last_pairs
front_one_lem r n front t = go (below r.top n)
  where
    go : (b : Bool) → cond b (front ++ (n ∷ pos 0 ∷ [])) front ++ last_pairs t ≡ front ++ last_pairs (cond b (n ∷ t) t)
    go true = append_assoc front (n ∷ pos 0 ∷ []) (last_pairs t)
    go false = refl

-- A slice with so many nodes in front, and the rest as it was.
record Fronted (from : ℕ) (r : Reach) (front l before : List ℤ) : Type 0 where
  long : length front ≡ 2 * (from + r.count)
  is : l ≡ front ++ drop (2 * (from + r.count)) before

module _ (from : ℕ) (before : List ℤ) where
  pushed-fronted : (r : Reach) (n : ℤ) (front l : List ℤ) → 2 * (from + (reach_one r n).count) ≤ length before → Fronted from r front l before → Fronted from (reach_one r n) (front_one r n front) (pushed from r n l) before
  unfolding reach_one front_one pushed
  pushed-fronted r n front l room f = go (below r.top n) room
    where
      go : (b : Bool) → 2 * (from + (cond b (record { top = n; count = r.count + 1 }) r).count) ≤ length before
          → Fronted from (cond b (record { top = n; count = r.count + 1 }) r) (cond b (front ++ (n ∷ pos 0 ∷ [])) front) (cond b (set (set l (2 * (from + r.count)) n) (2 * (from + r.count) + 1) (pos 0)) l) before
      go true h =
          let p = 2 * (from + r.count) in
          let e : p + 2 ≡ 2 * (from + (r.count + 1)) = omega arith in
          let k = f.long in
          record {
            long = length-append front (n ∷ pos 0 ∷ []) ∙ (omega arith);
            is =
                ap (λ (z : List ℤ). set (set z p n) (p + 1) (pos 0)) (f.is ∙ ap (λ (z : List ℤ). front ++ z) (two_more (pos 0) before p (omega arith)))
                ∙ ap (λ (z : List ℤ). set z (p + 1) (pos 0)) (set_at front (get_or before p (pos 0)) (get_or before (p + 1) (pos 0) ∷ drop (p + 2) before) n p k)
                ∙ set-second front n (get_or before (p + 1) (pos 0)) (drop (p + 2) before) (p + 1) (pos 0) (omega arith)
                ∙ (rw e);
          }
      go false h = f

  record Three (r : Reach) (m : ℤ) (front l : List ℤ) : Type 0 where
    behind : List ℤ
    fronted : Fronted from (reach r m) behind (pushed_three from r m l) before
    laying : (t : List ℤ) → behind ++ last_pairs t ≡ front ++ last_pairs (laid_three r m t)

  three_fronted : (r : Reach) (m : ℤ) (front l : List ℤ) → 2 * (from + (reach r m).count) ≤ length before → Fronted from r front l before → Three r m front l
  unfolding reach pushed_three laid_three
  three_fronted r m front l room f =
      let a = reach_one r (pred_ℤ m) in
      let b = reach_one a m in
      let x = front_one r (pred_ℤ m) front in
      let y = front_one a m x in
      let p = pushed from r (pred_ℤ m) l in
      let i = (reach_one-count a m).0 in
      let j = (reach_one-count b (suc_ℤ m)).0 in
      let u = pushed-fronted r (pred_ℤ m) front l (omega arith) f in
      let v = pushed-fronted a m x p (omega arith) u in
      record {
        behind = front_one b (suc_ℤ m) y;
        fronted = pushed-fronted b (suc_ℤ m) y (pushed from a m p) room v;
        laying = λ t. front_one_lem b (suc_ℤ m) y t ∙ front_one_lem a m x (laid_one b (suc_ℤ m) t) ∙ front_one_lem r (pred_ℤ m) front (laid_one a m (laid_one b (suc_ℤ m) t));
      }

  record All (r : Reach) (ms front l : List ℤ) : Type 0 where
    fronted : Fronted from (reach_all r ms) (front ++ last_pairs (laid r ms)) (pushed_all from r ms l) before

  all_fronted : (r : Reach) (ms front l : List ℤ) → 2 * (from + (reach_all r ms).count) ≤ length before → Fronted from r front l before → All r ms front l
  unfolding reach_all pushed_all laid last_pairs
  all_fronted r [] front l room f = record { fronted = rw (append-nil front) f }
  all_fronted r (m ∷ ms) front l room f =
      let k = reach_all-count (reach r m) ms in
      let t = three_fronted r m front l (omega arith) f in
      let q = all_fronted (reach r m) ms t.behind (pushed_three from r m l) room t.fronted in
      record { fronted = rw (← t.laying (laid (reach r m) ms)) q.fronted }

-- Behind `front`, which is as long as the nodes of another layer.
pub laid-behind : (from : ℕ) (r : Reach) (ms front rest : List ℤ) → r.count ≡ 0 → length front ≡ 2 * from → 2 * (from + (reach_all r ms).count) ≤ length (front ++ rest)
    → pushed_all from r ms (front ++ rest) ≡ (front ++ last_pairs (laid r ms)) ++ drop (2 * (from + (reach_all r ms).count)) (front ++ rest)
laid-behind from r ms front rest z e room =
    let p : 2 * (from + r.count) ≡ length front = omega arith in
    (all_fronted from (front ++ rest) r ms front (front ++ rest) room (record { long = sym p; is = rw p (ap (λ (l : List ℤ). front ++ l) (sym (drop-append_seam front rest))) })).fronted.is

-- ---- from the first middle on

three_b : (b : ℤ) (t : List ℤ) → laid_three (record { top = up b 0; count = 0 }) (up b 2) t ≡ up b 1 ∷ up b 2 ∷ up b 3 ∷ t
unfolding laid_three laid_one reach_one
three_b b t = rw (up_pred b 1, up_suc b 2, below_up b 0 1, below_up b 1 2, below_up b 2 3)

First : List ℤ → ℤ → Type 0
First t m = laid_three (nothing_below m) m t ≡ pred_ℤ m ∷ m ∷ suc_ℤ m ∷ t

first_based : (t : List ℤ) (b : ℤ) → First t (suc_ℤ (suc_ℤ b))
unfolding First up
first_based t b = rw (pred-suc (suc_ℤ b), pred-suc b) (three_b b t)

pub first_laid : (m : ℤ) (t : List ℤ) → laid_three (nothing_below m) m t ≡ pred_ℤ m ∷ m ∷ suc_ℤ m ∷ t
unfolding First
first_laid m t = at_base (First t) (at_base (λ (b : ℤ). First t (suc_ℤ b)) (first_based t)) m
