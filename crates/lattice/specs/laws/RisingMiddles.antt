-- Middles that never fall from node to node, and what follows: the sorted set of their destinations is laid by appending, and a node's three destinations are the last three reached. Assumes nothing.
use Prim.Native.Nat.{ℕ, zero, suc, ◌+◌, ◌<◌}
use Rattle.std.proofs.Common.{arith, sym, ◌∙◌, subst, lt-ltb}
use Rattle.std.specs.Prelude.{◌≡◌, refl, Bool, true, cond, List, [], ◌∷◌, ◌++◌, length, T, ltb, ℤ}
use Rattle.std.proofs.Math.IntN.{suc_ℤ, pred_ℤ, pred-suc}
use Rattle.lattice.specs.declared.reach.Reach.{Reach}
use Rattle.lattice.specs.Layers.{below, insert}
use Rattle.lattice.specs.laws.IntegerOrder.{up, below_up, up_suc, up_pred, up_shift, at_base}
use Rattle.lattice.specs.laws.Reaching.{reach_one, reach}

-- Each middle is the one before it or above it.
pub data Rising : ℤ → List ℤ → Type 0 where
  ends : {m : ℤ} → Rising m []
  next : {m : ℤ} {ms : List ℤ} (g : ℕ) → Rising (up m g) ms → Rising m (up m g ∷ ms)

-- Node numbers that rise, each above the one before, the first above t.
pub data Climbs : ℤ → List ℤ → Type 0 where
  none : {t : ℤ} → Climbs t []
  above : {t x : ℤ} {xs : List ℤ} → T (below t x) → Climbs x xs → Climbs t (x ∷ xs)

-- The sorted set of the destinations around middles.
unfoldable pub around : List ℤ → List ℤ
unfolding insert
around [] = []
around (m ∷ ms) = insert (pred_ℤ m) (insert m (insert (suc_ℤ m) (around ms)))

-- A node in front of the others where it is above all that are reached.
unfoldable pub laid_one : Reach → ℤ → List ℤ → List ℤ
laid_one r n rest = cond (below r.top n) (n ∷ rest) rest

unfoldable pub laid_three : Reach → ℤ → List ℤ → List ℤ
unfolding laid_one reach_one
laid_three r m rest = laid_one r (pred_ℤ m) (laid_one (reach_one r (pred_ℤ m)) m (laid_one (reach_one (reach_one r (pred_ℤ m)) m) (suc_ℤ m) rest))

-- The nodes that middles reach beyond those reached, in the order in which they are met.
unfoldable pub laid : Reach → List ℤ → List ℤ
unfolding laid_three reach
laid r [] = []
laid r (m ∷ ms) = laid_three r m (laid (reach r m) ms)

-- ---- one gap

-- The reach once a node is done: the highest is the one after its middle.
abbrev pub done_at : ℤ → ℕ → Reach
done_at m c = record { top = suc_ℤ m; count = c }

-- The count after a middle that lies g above the one before.
unfoldable pub grew : ℕ → ℕ → ℕ
grew c zero = c
grew c (suc zero) = c + 1
grew c (suc (suc zero)) = c + 1 + 1
grew c (suc (suc (suc h))) = c + 1 + 1 + 1

pub T_of : {b : Bool} → b ≡ true → T b
T_of e = subst T (sym e) tt

pub far : (n h : ℕ) → n < 3 → ltb n (suc (suc (suc h))) ≡ true
far n h p = lt-ltb n (suc (suc (suc h))) (omega arith)

step : (n : ℕ) → ltb n (suc n) ≡ true
step n = lt-ltb n (suc n) (omega arith)

-- the new nodes of a middle that lies g above the one before, which is b + 1
unfoldable pub news : ℤ → ℕ → List ℤ → List ℤ
news b zero t = t
news b (suc zero) t = up b 3 ∷ t
news b (suc (suc zero)) t = up b 3 ∷ up b 4 ∷ t
news b (suc (suc (suc h))) t = up b (suc (suc (suc h))) ∷ up b (suc (suc (suc (suc h)))) ∷ up b (suc (suc (suc (suc (suc h))))) ∷ t

module _ (b : ℤ) (c : ℕ) where
  beyond : (h : ℕ) → below (up b 2) (up b (suc (suc (suc h)))) ≡ true
  beyond h = below_up b 2 (suc (suc (suc h))) ∙ far 2 h (omega arith)

  one_up : (n : ℕ) → below (up b n) (up b (suc n)) ≡ true
  one_up n = below_up b n (suc n) ∙ step n

  reach_b : (g : ℕ) → reach (record { top = up b 2; count = c }) (up b (suc g)) ≡ record { top = up b (suc (suc g)); count = grew c g }
  unfolding reach grew
  reach_b zero = rw (up_pred b 0, up_suc b 1, below_up b 2 0, below_up b 2 1, below_up b 2 2)
  reach_b (suc zero) = rw (up_pred b 1, up_suc b 2, below_up b 2 1, below_up b 2 2, below_up b 2 3)
  reach_b (suc (suc zero)) = rw (up_pred b 2, up_suc b 3, below_up b 2 2, below_up b 2 3, below_up b 3 4)
  reach_b (suc (suc (suc h))) =
      rw (
        up_pred b (suc (suc (suc h))),
        up_suc b (suc (suc (suc (suc h)))),
        beyond h,
        one_up (suc (suc (suc h))),
        one_up (suc (suc (suc (suc h)))),
      )

  pub laid_b : (g : ℕ) (t : List ℤ) → laid_three (record { top = up b 2; count = c }) (up b (suc g)) t ≡ news b g t
  unfolding laid_three news
  laid_b zero t = rw (up_pred b 0, up_suc b 1, below_up b 2 0, below_up b 2 1, below_up b 2 2)
  laid_b (suc zero) t = rw (up_pred b 1, up_suc b 2, below_up b 2 1, below_up b 2 2, below_up b 2 3)
  laid_b (suc (suc zero)) t = rw (up_pred b 2, up_suc b 3, below_up b 2 2, below_up b 2 3, below_up b 3 4)
  laid_b (suc (suc (suc h))) t =
      rw (
        up_pred b (suc (suc (suc h))),
        up_suc b (suc (suc (suc (suc h)))),
        beyond h,
        one_up (suc (suc (suc h))),
        one_up (suc (suc (suc (suc h)))),
      )

-- What stands before the three nodes around the next middle, of the three around b + 1.
firsts_b : ℤ → ℕ → List ℤ
firsts_b b zero = []
firsts_b b (suc zero) = up b 0 ∷ []
firsts_b b (suc (suc zero)) = up b 0 ∷ up b 1 ∷ []
firsts_b b (suc (suc (suc h))) = up b 0 ∷ up b 1 ∷ up b 2 ∷ []

firsts-news : (b : ℤ) (g : ℕ) (t : List ℤ) → up b 0 ∷ up b 1 ∷ up b 2 ∷ news b g t ≡ firsts_b b g ++ (up b g ∷ up b (suc g) ∷ up b (suc (suc g)) ∷ t)
unfolding firsts_b news
firsts-news b zero t = refl
firsts-news b (suc zero) t = refl
firsts-news b (suc (suc zero)) t = refl
firsts-news b (suc (suc (suc h))) t = refl

firsts-count : (b : ℤ) (g c : ℕ) → length (firsts_b b g) + c ≡ grew c g
unfolding firsts_b grew
firsts-count b zero c = omega arith
firsts-count b (suc zero) c = omega arith
firsts-count b (suc (suc zero)) c = omega arith
firsts-count b (suc (suc (suc h))) c = omega arith

news_climb : (b : ℤ) (g : ℕ) (t : List ℤ) → Climbs (up b (suc (suc g))) t → Climbs (up b 2) (news b g t)
unfolding news
news_climb b zero t h = h
news_climb b (suc zero) t h = above (T_of (below_up b 2 3)) h
news_climb b (suc (suc zero)) t h = above (T_of (below_up b 2 3)) (above (T_of (below_up b 3 4)) h)
news_climb b (suc (suc (suc h))) t k =
    above (T_of (beyond b 0 h))
    (above (T_of (one_up b 0 (suc (suc (suc h))))) (above (T_of (one_up b 0 (suc (suc (suc (suc h)))))) k))

-- A middle that lies g above the one before.
module _ (c g : ℕ) where
  based_reach : (b : ℤ) → reach (done_at (suc_ℤ b) c) (up (suc_ℤ b) g) ≡ done_at (up (suc_ℤ b) g) (grew c g)
  unfolding up
  based_reach b = rw (up_shift b g) (reach_b b c g)

  pub reach-gap : (m : ℤ) → reach (done_at m c) (up m g) ≡ done_at (up m g) (grew c g)
  reach-gap m = at_base (λ (m : ℤ). reach (done_at m c) (up m g) ≡ done_at (up m g) (grew c g)) based_reach m

  -- The three nodes around the middle before and what is laid, as the three around this one with something in front.
  pub record Moved (m : ℤ) (t : List ℤ) : Type 0 where
    pub front : List ℤ
    pub same : pred_ℤ m ∷ m ∷ suc_ℤ m ∷ laid_three (done_at m c) (up m g) t ≡ front ++ (pred_ℤ (up m g) ∷ up m g ∷ suc_ℤ (up m g) ∷ t)
    pub count : length front + c ≡ grew c g

  based_moved : (t : List ℤ) (b : ℤ) → Moved (suc_ℤ b) t
  unfolding up
  based_moved t b =
      record {
        front = firsts_b b g;
        same = rw (pred-suc b, up_shift b g, pred-suc (up b g)) (rw (laid_b b c g t) (firsts-news b g t));
        count = firsts-count b g c;
      }

  pub moved : (t : List ℤ) (m : ℤ) → Moved m t
  moved t m = at_base (λ (m : ℤ). Moved m t) (based_moved t) m

  Climbing : List ℤ → ℤ → Type 0
  Climbing t m = Climbs (suc_ℤ (up m g)) t → Climbs (suc_ℤ m) (laid_three (done_at m c) (up m g) t)

  based_climbing : (t : List ℤ) (b : ℤ) → Climbing t (suc_ℤ b)
  unfolding up Climbing
  based_climbing t b k = rw (up_shift b g, laid_b b c g t) (news_climb b g t (rw (up_shift b g) at k))

  climb_gap : (t : List ℤ) (m : ℤ) → Climbing t m
  climb_gap t m = at_base (Climbing t) (based_climbing t) m

-- ---- all middles

pub laid-climbs : (c : ℕ) (m : ℤ) (ms : List ℤ) → Rising m ms → Climbs (suc_ℤ m) (laid (done_at m c) ms)
unfolding laid Climbing
laid-climbs c m [] ends = none
laid-climbs c m ms' (next {ms = ms} g r) =
    rw (reach-gap c g m) (climb_gap c g (laid (done_at (up m g) (grew c g)) ms) m (laid-climbs (grew c g) (up m g) ms r))
