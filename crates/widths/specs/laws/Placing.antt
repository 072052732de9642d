-- Laying the nodes of the next layer behind a layer, one place per node; and what laying all of them leaves. Assumes nothing.
use Prim.Native.Nat.{ℕ, suc, ◌+◌, ◌≤◌}
use native.Mathlib.Omega.{arith}
use Rattle.std.specs.Prelude.{◌≡◌, refl, Bool, cond, get_or, drop, ℤ, pos}
use Rattle.std.proofs.Math.Path.{sym, ap}
use Rattle.std.proofs.Common.{◌∙◌, length-set, drop-cons}
use Rattle.std.proofs.Math.Bool.{true, false}
use mathlib.Core.List.{List, [], ◌∷◌, ◌++◌, append_assoc, append-nil}
use Rattle.std.proofs.Math.ListN.{length, set, length-append}
use Rattle.std.proofs.Math.Seq.{set_at, drop-append_seam}
use Rattle.std.proofs.Math.IntN.{suc_ℤ, pred_ℤ}
use Rattle.lattice.specs.declared.reach.Reach.{Reach}
use Rattle.lattice.specs.Layers.{below}
use Rattle.lattice.specs.laws.Reaching.{reach_one, reach, reach_all, reach_one-count}
use Rattle.lattice.specs.laws.RisingMiddles.{laid_one, laid_three, laid}
use Rattle.lattice.specs.laws.Laying.{reach_all-count}

-- The slice once a node is tried: the first `from` places are another layer's.
unfoldable pub placed : ℕ → Reach → ℤ → List ℤ → List ℤ
placed from r n l = cond (below r.top n) (set l (from + r.count) n) l

unfoldable pub placed_three : ℕ → Reach → ℤ → List ℤ → List ℤ
unfolding placed reach_one
placed_three from r m l = placed from (reach_one (reach_one r (pred_ℤ m)) m) (suc_ℤ m) (placed from (reach_one r (pred_ℤ m)) m (placed from r (pred_ℤ m) l))

unfoldable pub placed_all : ℕ → Reach → List ℤ → List ℤ → List ℤ
unfolding placed_three reach
placed_all from r [] l = l
placed_all from r (m ∷ ms) l = placed_all from (reach r m) ms (placed_three from r m l)

-- ---- by the test

pub placed-new : (from : ℕ) (r : Reach) (n : ℤ) (l : List ℤ) → below r.top n ≡ true → placed from r n l ≡ set l (from + r.count) n
unfolding placed
placed-new from r n l e = ap (λ (b : Bool). cond b (set l (from + r.count) n) l) e

pub placed-old : (from : ℕ) (r : Reach) (n : ℤ) (l : List ℤ) → below r.top n ≡ false → placed from r n l ≡ l
unfolding placed
placed-old from r n l e = ap (λ (b : Bool). cond b (set l (from + r.count) n) l) e

pub placed-length : (from : ℕ) (r : Reach) (n : ℤ) (l : List ℤ) → length (placed from r n l) ≡ length l
unfolding placed
placed-length from r n l = go (below r.top n)
  where
    go : (b : Bool) → length (cond b (set l (from + r.count) n) l) ≡ length l
    go true = length-set l (from + r.count) n
    go false = refl

pub three_length : (from : ℕ) (r : Reach) (m : ℤ) (l : List ℤ) → length (placed_three from r m l) ≡ length l
unfolding placed_three
three_length from r m l =
    let a = placed from r (pred_ℤ m) l in
    let b = placed from (reach_one r (pred_ℤ m)) m a in
    placed-length from (reach_one (reach_one r (pred_ℤ m)) m) (suc_ℤ m) b ∙ placed-length from (reach_one r (pred_ℤ m)) m a ∙ placed-length from r (pred_ℤ m) l

pub all_length : (from : ℕ) (r : Reach) (ms l : List ℤ) → length (placed_all from r ms l) ≡ length l
unfolding placed_all
all_length from r [] l = refl
all_length from r (m ∷ ms) l = all_length from (reach r m) ms (placed_three from r m l) ∙ three_length from r m l

-- ---- where

-- The front of the slice once a node is tried.
unfoldable front_one : Reach → ℤ → List ℤ → List ℤ
front_one r n front = cond (below r.top n) (front ++ (n ∷ [])) front

front_one_lem : (r : Reach) (n : ℤ) (front t : List ℤ) → front_one r n front ++ t ≡ front ++ laid_one r n t
unfolding front_one laid_one
front_one_lem r n front t = go (below r.top n)
  where
    go : (b : Bool) → cond b (front ++ (n ∷ [])) front ++ t ≡ front ++ cond b (n ∷ t) t
    go true = append_assoc front (n ∷ []) t
    go false = refl

-- A slice with so many nodes in front, and the rest as it was.
record Fronted (from : ℕ) (r : Reach) (front l before : List ℤ) : Type 0 where
  long : length front ≡ from + r.count
  is : l ≡ front ++ drop (from + r.count) before

module _ (from : ℕ) (before : List ℤ) where
  placed-fronted : (r : Reach) (n : ℤ) (front l : List ℤ) → from + (reach_one r n).count ≤ length before → Fronted from r front l before → Fronted from (reach_one r n) (front_one r n front) (placed from r n l) before
  unfolding reach_one front_one placed
  placed-fronted r n front l room f = go (below r.top n) room
    where
      go : (b : Bool) → from + (cond b (record { top = n; count = r.count + 1 }) r).count ≤ length before
          → Fronted from (cond b (record { top = n; count = r.count + 1 }) r) (cond b (front ++ (n ∷ [])) front) (cond b (set l (from + r.count) n) l) before
      go true h =
          let p = from + r.count in
          let e : suc p ≡ from + (r.count + 1) = omega arith in
          let k = f.long in
          record {
            long = length-append front (n ∷ []) ∙ (omega arith);
            is =
                ap (λ (z : List ℤ). set z p n) (f.is ∙ ap (λ (z : List ℤ). front ++ z) (drop-cons before p (pos 0) (omega arith)))
                ∙ set_at front (get_or before p (pos 0)) (drop (suc p) before) n p k
                ∙ sym (append_assoc front (n ∷ []) (drop (suc p) before))
                ∙ (rw e);
          }
      go false h = f

  record Three (r : Reach) (m : ℤ) (front l : List ℤ) : Type 0 where
    behind : List ℤ
    fronted : Fronted from (reach r m) behind (placed_three from r m l) before
    laying : (t : List ℤ) → behind ++ t ≡ front ++ laid_three r m t

  three_fronted : (r : Reach) (m : ℤ) (front l : List ℤ) → from + (reach r m).count ≤ length before → Fronted from r front l before → Three r m front l
  unfolding reach placed_three laid_three
  three_fronted r m front l room f =
      let a = reach_one r (pred_ℤ m) in
      let b = reach_one a m in
      let x = front_one r (pred_ℤ m) front in
      let y = front_one a m x in
      let p = placed from r (pred_ℤ m) l in
      let i = (reach_one-count a m).0 in
      let j = (reach_one-count b (suc_ℤ m)).0 in
      let u = placed-fronted r (pred_ℤ m) front l (omega arith) f in
      let v = placed-fronted a m x p (omega arith) u in
      record {
        behind = front_one b (suc_ℤ m) y;
        fronted = placed-fronted b (suc_ℤ m) y (placed from a m p) room v;
        laying = λ t. front_one_lem b (suc_ℤ m) y t ∙ front_one_lem a m x (laid_one b (suc_ℤ m) t) ∙ front_one_lem r (pred_ℤ m) front (laid_one a m (laid_one b (suc_ℤ m) t));
      }

  record All (r : Reach) (ms front l : List ℤ) : Type 0 where
    fronted : Fronted from (reach_all r ms) (front ++ laid r ms) (placed_all from r ms l) before

  all_fronted : (r : Reach) (ms front l : List ℤ) → from + (reach_all r ms).count ≤ length before → Fronted from r front l before → All r ms front l
  unfolding reach_all placed_all laid
  all_fronted r [] front l room f = record { fronted = rw (append-nil front) f }
  all_fronted r (m ∷ ms) front l room f =
      let k = reach_all-count (reach r m) ms in
      let t = three_fronted r m front l (omega arith) f in
      let q = all_fronted (reach r m) ms t.behind (placed_three from r m l) room t.fronted in
      record { fronted = rw (← t.laying (laid (reach r m) ms)) q.fronted }

-- Behind `front`, which is as long as the other layer.
pub laid-behind : (from : ℕ) (r : Reach) (ms front rest : List ℤ) → r.count ≡ 0 → length front ≡ from → from + (reach_all r ms).count ≤ length (front ++ rest)
    → placed_all from r ms (front ++ rest) ≡ (front ++ laid r ms) ++ drop (from + (reach_all r ms).count) (front ++ rest)
laid-behind from r ms front rest z e room =
    let p : from + r.count ≡ length front = omega arith in
    (all_fronted from (front ++ rest) r ms front (front ++ rest) room (record { long = sym p; is = rw p (ap (λ (l : List ℤ). front ++ l) (sym (drop-append_seam front rest))) })).fronted.is
