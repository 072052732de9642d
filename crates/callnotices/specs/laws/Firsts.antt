-- The lowest index at which a test holds, and the highest version of a series. Assumes nothing.
use Rattle.std.specs.Prelude.{◌≡◌, Bool, true, false, not, cond, ◌&&◌, List, length, get_or, T, eqb, ltb}
use Rattle.std.proofs.Math.Path.{refl}
use Rattle.std.proofs.Common.{inl, inr, eq-or-lt_of_le, arith, T_not, ltb→lt, nltb→le}
use Prim.Native.Nat.{ℕ, zero, suc, ◌+◌, ◌≤◌, ◌<◌}
use Rattle.std.specs.Float.Ieee.Fits.{eq→eqb}
use Rattle.callnotices.specs.Standing.{first_from, first, higher, highest_from, highest, is_version}

-- ---- two tests that both hold

pub both : (p q : Bool) → T p → T q → T (p && q)
both true q h k = k
both false q h k = h

pub both_of : (p q : Bool) → T (p && q) → T p × T q
both_of true q h = (tt, h)
both_of false q h = absurd h

-- ---- the lowest index at which a test holds

module _ (test : ℕ → Bool) where
  -- The test holds at the index found, or at none.
  data Seen (count i k : ℕ) : Type 0 where
    seen : k < i + count → T (test k) → Seen count i k
    unseen : k ≡ i + count → ((j : ℕ) → i ≤ j → j < i + count → T (not (test j))) → Seen count i k

  later : (count i : ℕ) → T (not (test i)) → {k : ℕ} → Seen count (suc i) k → Seen (suc count) i k
  later count i h (seen u t) = seen (omega arith) t
  later count i h (unseen e none) =
      unseen (omega arith) (λ j l u. elim (eq-or-lt_of_le l) [ inl q ↦ rw (← q) h | inr s ↦ none j s (omega arith) ])

  step : (count i : ℕ) (b : Bool) (k : ℕ) → test i ≡ b → Seen count (suc i) k → Seen (suc count) i (cond b i k)
  step count i true k e s = seen (omega arith) (rw e tt)
  step count i false k e s = later count i (rw e tt) s

  look : (count i : ℕ) → Seen count i (first_from test count i)
  unfolding first_from
  look zero i = unseen (omega arith) (λ j l u. absurd (omega arith))
  look (suc count) i = step count i (test i) (first_from test count (suc i)) refl (look count (suc i))

  pub first_holds : (count : ℕ) → first test count < count → T (test (first test count))
  first_holds count h = go (look count 0)
    where
      go : Seen count 0 (first test count) → T (test (first test count))
      go (seen u t) = t
      go (unseen e none) = absurd (omega arith)

  pub first_none : (count : ℕ) → count ≤ first test count → (j : ℕ) → j < count → T (not (test j))
  first_none count h = go (look count 0)
    where
      go : Seen count 0 (first test count) → (j : ℕ) → j < count → T (not (test j))
      go (seen u t) j l = absurd (omega arith)
      go (unseen e none) j l = none j (omega arith) (omega arith)

  pub first_below : (count j : ℕ) → j < count → T (test j) → first test count < count
  first_below count j l t = go (look count 0)
    where
      go : Seen count 0 (first test count) → first test count < count
      go (seen u s) = omega arith
      go (unseen e none) = absurd (T_not (test j) (none j (omega arith) (omega arith)) t)

-- ---- the highest version of a series

module _ (series versions : List ℕ) (s : ℕ) where
  -- It is one of the versions, or none was above what was there before.
  data Reached (so_far count i top : ℕ) : Type 0 where
    as_before : top ≡ so_far → Reached so_far count i top
    reached : (j : ℕ) → j < i + count → T (is_version series versions s top j) → Reached so_far count i top

  record Top (so_far count i top : ℕ) : Type 0 where
    at_least : so_far ≤ top
    over : (j : ℕ) → i ≤ j → j < i + count → T (eqb (get_or series j 0) s) → get_or versions j 0 ≤ top
    from : Reached so_far count i top

  -- What one notice makes of the highest so far.
  data One (so_far i next : ℕ) : Type 0 where
    raised : next ≡ get_or versions i 0 → so_far ≤ next → T (eqb (get_or series i 0) s) → One so_far i next
    stays : next ≡ so_far → (T (eqb (get_or series i 0) s) → get_or versions i 0 ≤ so_far) → One so_far i next

  one : (so_far i : ℕ) → One so_far i (higher series versions s so_far i)
  one so_far i = go (eqb (get_or series i 0) s) refl (ltb so_far (get_or versions i 0)) refl
    where
      go : (p : Bool) → eqb (get_or series i 0) s ≡ p → (q : Bool) → ltb so_far (get_or versions i 0) ≡ q → One so_far i (cond (p && q) (get_or versions i 0) so_far)
      go true e true f = raised refl (let l = ltb→lt so_far (get_or versions i 0) (rw f tt) in omega arith) (rw e tt)
      go true e false f = stays refl (λ t. nltb→le so_far (get_or versions i 0) (rw f tt))
      go false e q f = stays refl (λ t. absurd (rw e at t))

  over_all : (so_far count i next top : ℕ) → One so_far i next → Top next count (suc i) top → (j : ℕ) → i ≤ j → j < i + suc count → T (eqb (get_or series j 0) s) → get_or versions j 0 ≤ top
  over_all so_far count i next top o t j l u h = elim (eq-or-lt_of_le l) [ inl q ↦ here o (rw (← q) at h) q | inr k ↦ t.over j k (omega arith) h ]
    where
      here : One so_far i next → T (eqb (get_or series i 0) s) → i ≡ j → get_or versions j 0 ≤ top
      here (raised e m v) h q = rw (← q) (omega (arith, t.at_least))
      here (stays e f) h q = let g = f h in rw (← q) (omega (arith, t.at_least))

  from_all : (so_far count i next top : ℕ) → One so_far i next → Reached next count (suc i) top → Reached so_far (suc count) i top
  from_all so_far count i next top o (reached j u t) = reached j (omega arith) t
  from_all so_far count i next top (raised e m v) (as_before q) =
      let same : get_or versions i 0 ≡ top = omega arith in
      reached i (omega arith) (both (eqb (get_or series i 0) s) (eqb (get_or versions i 0) top) v (eq→eqb same))
  from_all so_far count i next top (stays e f) (as_before q) = as_before (omega arith)

  least : (so_far count i next top : ℕ) → One so_far i next → Top next count (suc i) top → so_far ≤ top
  least so_far count i next top (raised e m v) t = omega (arith, t.at_least)
  least so_far count i next top (stays e f) t = omega (arith, t.at_least)

  top : (so_far count i : ℕ) → Top so_far count i (highest_from series versions s so_far count i)
  unfolding highest_from
  top so_far zero i =
      record {
        at_least = omega arith;
        over = λ j l u h. absurd (omega arith);
        from = as_before refl;
      }
  top so_far (suc count) i =
      let next = higher series versions s so_far i in
      let all = highest_from series versions s next count (suc i) in
      let t = top next count (suc i) in
      record {
        at_least = least so_far count i next all (one so_far i) t;
        over = over_all so_far count i next all (one so_far i) t;
        from = from_all so_far count i next all (one so_far i) t.from;
      }

  -- No version of the series is above it.
  pub highest-over : (j : ℕ) → j < length series → T (eqb (get_or series j 0) s) → get_or versions j 0 ≤ highest series versions s
  highest-over j l h = (top 0 (length series) 0).over j (omega arith) (omega arith) h

  -- It is 0, or a version of the series.
  pub data HighestOf (v : ℕ) : Type 0 where
    no_version : v ≡ 0 → HighestOf v
    version : (j : ℕ) → j < length series → T (is_version series versions s v j) → HighestOf v

  pub highest_of : HighestOf (highest series versions s)
  highest_of = go (top 0 (length series) 0).from
    where
      go : {v : ℕ} → Reached 0 (length series) 0 v → HighestOf v
      go (as_before e) = no_version e
      go (reached j u t) = version j (omega arith) t
