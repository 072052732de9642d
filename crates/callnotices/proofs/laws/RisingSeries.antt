-- The list's order is by series, rising: each entry is a set notice's, the highest version of its series, and none of these is missing. Assumes nothing.
use Rattle.std.specs.Prelude.{◌≡◌, refl, Bool, true, false, cond, List, [], ◌∷◌, ◌++◌, map, length, get_or, replicate, T, eqb, ltb, Ok}
use Rattle.std.proofs.Common.{sym, ◌∙◌, arith, eq-or-lt_of_le, le_of_suc-le-suc, length-append, eqb→eq, ltb→lt, lt→ltb}
use Rattle.std.proofs.Math.Logic.{inl, inr}
use Prim.Native.Nat.{ℕ, zero, suc, ◌+◌, ◌-◌, ◌≤◌, ◌<◌}
use Rattle.std.proofs.lemmas.List.{length-map}
use Rattle.std.proofs.Math.ListN.{get_or-append}
use Rattle.std.proofs.Math.Seq.{get_or-append_seam}
use Rattle.std.specs.Float.Ieee.Fits.{eq→eqb}
use Rattle.floats.specs.Answers.{plus_zero}
use Rattle.terms.specs.Checks.{outside}
use Rattle.terms.specs.laws.Sequence.{indexed-passed}
use Rattle.terms.specs.laws.Ranges.{none_of, inside_of}
use Rattle.terms.specs.laws.Pairing.{Taken}
use Rattle.callnotices.specs.Notices.{Notices, Parallel, is_set, size, series_at, version_at, action_at, start_at, end_at, strike_at}
use Rattle.callnotices.specs.Standing.{highest, is_version, standing, yields, entries_to, entries}
use Rattle.callnotices.specs.Checks.{wrong_at, notice_checks}
use Rattle.callnotices.specs.Lists.{in_places, list_of}
use Rattle.callnotices.specs.Rules.{Highest, BySeries, RisingSeries}
use Rattle.callnotices.specs.laws.Answers.{accepted, passed_counted, passed-each, passed_of}
use Rattle.callnotices.specs.laws.Appending.{map_at}
use Rattle.callnotices.specs.laws.Firsts.{both, both_of, first_holds, first_below, highest-over, HighestOf, no_version, version, highest_of}
use Rattle.callnotices.proofs.laws.AnyOrder.{Single, one_version}
use Rattle.floats.specs.declared.Reason.TheVariants as reason

module _ (n : Notices) (parallel : Parallel n) where
  -- A set notice of a series, of which no version is higher.
  record Stands (s i : ℕ) : Type 0 where
    below : i < size n
    of_series : series_at n i ≡ s
    set : action_at n i ≡ 0
    over : (j : ℕ) → j < size n → series_at n j ≡ s → version_at n j ≤ version_at n i

  -- What stands and yields an entry is such a notice.
  stands : (s : ℕ) → T (yields n.actions (standing n.series n.versions s)) → Stands s (standing n.series n.versions s)
  stands s y =
      let i = standing n.series n.versions s in
      let top = highest n.series n.versions s in
      let (l, t) = both_of (ltb i (length n.actions)) (is_set n.actions i) y in
      let m : i < length n.actions = ltb→lt i (length n.actions) l in
      let inside : i < size n = let e = parallel.actions_too in omega arith in
      let (u, v) = both_of (eqb (series_at n i) s) (eqb (version_at n i) top) (first_holds (is_version n.series n.versions s top) (size n) inside) in
      let is : version_at n i ≡ top = eqb→eq (version_at n i) top v in
      record {
        below = inside;
        of_series = eqb→eq (series_at n i) s u;
        set = eqb→eq (action_at n i) 0 t;
        over = λ j k e. let o = highest-over n.series n.versions s j k (eq→eqb e) in omega arith;
      }

  -- Notices of series up to s, one for a series at the most, rising.
  data Rising : ℕ → List ℕ → Type 0 where
    no_series : Rising 0 []
    no_entry_lem : {s : ℕ} {is : List ℕ} → Rising s is → Rising (suc s) is
    one_entry : {s : ℕ} {is : List ℕ} (i : ℕ) → Rising s is → Stands (suc s) i → Rising (suc s) (is ++ (i ∷ []))

  rising_more : (s i : ℕ) (is : List ℕ) (b : Bool) → (T b → Stands (suc s) i) → Rising s is → Rising (suc s) (cond b (is ++ (i ∷ [])) is)
  rising_more s i is true f r = one_entry i r (f tt)
  rising_more s i is false f r = no_entry_lem r

  rising_to : (s : ℕ) → Rising s (entries_to n s)
  unfolding entries_to
  rising_to zero = no_series
  rising_to (suc s) =
      let i = standing n.series n.versions (suc s) in
      rising_more s i (entries_to n s) (yields n.actions i) (stands (suc s)) (rising_to s)

  -- An entry's notice, of a series up to s.
  record Up (s i : ℕ) : Type 0 where
    series : ℕ
    up_to : series ≤ s
    it : Stands series i

  up_at : {s : ℕ} {is : List ℕ} → Rising s is → (k : ℕ) → k < length is → Up s (get_or is k 0)
  up_at no_series k h = absurd (omega arith)
  up_at (no_entry_lem r) k h = let u = up_at r k h in record { series = u.series; up_to = omega (arith, u.up_to); it = u.it }
  up_at (one_entry {s = s} {is = is} i r t) k h =
      let m : length (is ++ (i ∷ [])) ≡ length is + 1 = length-append is (i ∷ []) in
      let u : k < suc (length is) = omega arith in
      elim (eq-or-lt_of_le (le_of_suc-le-suc u)) [
        | inl e ↦ rw (e, get_or-append_seam is i [] 0) (record { series = suc s; up_to = omega arith; it = t })
        | inr l ↦ rw (get_or-append is (i ∷ []) 0 k l) (let v = up_at r k l in record { series = v.series; up_to = omega (arith, v.up_to); it = v.it })
      ]

  rises : {s : ℕ} {is : List ℕ} → Rising s is → (j k : ℕ) → j < k → k < length is → series_at n (get_or is j 0) < series_at n (get_or is k 0)
  rises no_series j k l h = absurd (omega arith)
  rises (no_entry_lem r) j k l h = rises r j k l h
  rises (one_entry {s = s} {is = is} i r t) j k l h =
      let m : length (is ++ (i ∷ [])) ≡ length is + 1 = length-append is (i ∷ []) in
      let u : k < suc (length is) = omega arith in
      elim (eq-or-lt_of_le (le_of_suc-le-suc u)) [
        | inl e ↦
            let front : j < length is = omega arith in
            let v = up_at r j front in
            rw (e, get_or-append_seam is i [] 0, get_or-append is (i ∷ []) 0 j front) (omega (arith, v.up_to, v.it.of_series, t.of_series))
        | inr v ↦ rw (get_or-append is (i ∷ []) 0 k v, get_or-append is (i ∷ []) 0 j (omega arith)) (rises r j k l v)
      ]

  -- ---- none is missing

  -- It is one of these entries.
  record In (is : List ℕ) (i : ℕ) : Type 0 where
    at : ℕ
    inside : at < length is
    found : get_or is at 0 ≡ i

  still_in : (is : List ℕ) (i j : ℕ) (b : Bool) → In is i → In (cond b (is ++ (j ∷ [])) is) i
  still_in is i j true h =
      let m : length (is ++ (j ∷ [])) ≡ length is + 1 = length-append is (j ∷ []) in
      record { at = h.at; inside = omega (arith, h.inside); found = get_or-append is (j ∷ []) 0 h.at h.inside ∙ h.found }
  still_in is i j false h = h

  last_in : (is : List ℕ) (i j : ℕ) (b : Bool) → j ≡ i → T b → In (cond b (is ++ (j ∷ [])) is) i
  last_in is i j true e t =
      let m : length (is ++ (j ∷ [])) ≡ length is + 1 = length-append is (j ∷ []) in
      record { at = length is; inside = omega arith; found = get_or-append_seam is j [] 0 ∙ e }
  last_in is i j false e t = absurd t

  module _ (single : Single n) (s i : ℕ) (t : Stands s i) where
    top_is : version_at n i ≡ highest n.series n.versions s
    top_is = go (highest n.series n.versions s) (highest-over n.series n.versions s i t.below (eq→eqb t.of_series)) (highest_of n.series n.versions s)
      where
        go : (v : ℕ) → version_at n i ≤ v → HighestOf n.series n.versions s v → version_at n i ≡ v
        go v l (no_version e) = omega arith
        go v l (version j k h) =
            let (a, b) = both_of (eqb (series_at n j) s) (eqb (version_at n j) v) h in
            let o = t.over j k (eqb→eq (series_at n j) s a) in
            let e : version_at n j ≡ v = eqb→eq (version_at n j) v b in
            omega arith

    stands_is : standing n.series n.versions s ≡ i
    stands_is =
        let top = highest n.series n.versions s in
        let test = is_version n.series n.versions s top in
        let here = both (eqb (series_at n i) s) (eqb (version_at n i) top) (eq→eqb t.of_series) (eq→eqb top_is) in
        let below = first_below test (size n) i t.below here in
        one_version n single s top (standing n.series n.versions s) i below t.below (first_holds test (size n) below) here

    yields_it : T (yields n.actions i)
    yields_it =
        let inside : i < length n.actions = let e = parallel.actions_too in omega (arith, t.below) in
        both (ltb i (length n.actions)) (is_set n.actions i) (lt→ltb i (length n.actions) inside) (eq→eqb t.set)

  listed : Single n → (s t i : ℕ) → t < s → Stands (suc t) i → In (entries_to n s) i
  unfolding entries_to
  listed single zero t i l h = absurd (omega arith)
  listed single (suc s) t i l h =
      let j = standing n.series n.versions (suc s) in
      elim (eq-or-lt_of_le (le_of_suc-le-suc l)) [
        | inl e ↦
            let here : Stands (suc s) i = rw e at h in
            let is = stands_is single (suc s) i here in
            last_in (entries_to n s) i j (yields n.actions j) is (rw is (yields_it single (suc s) i here))
        | inr m ↦ still_in (entries_to n s) i j (yields n.actions j) (listed single s t i m h)
      ]

-- ---- the list

place_of : {A : Type 0} (nil : A) (f : ℕ → A) (is : List ℕ) (k : ℕ) → k < length is → get_or (in_places nil (map f is)) k nil ≡ f (get_or is k 0)
place_of nil f is k h =
    get_or-append (map f is) (replicate (64 - length (map f is)) nil) nil k (let e : length (map f is) ≡ length is = length-map is f in omega arith)
    ∙ map_at f is k 0 nil h

module _ (n : Notices) (h : notice_checks n ≡ Ok tt) where
  parallel_of : Parallel n
  parallel_of = (passed_counted n refl h).parallel

  -- Each entry is a set notice.
  pub entry_set : (k : ℕ) → k < length (entries n) → (get_or (entries n) k 0 < size n) × (action_at n (get_or (entries n) k 0) ≡ 0)
  entry_set k l = let u = up_at n parallel_of (rising_to n parallel_of 64) k l in (u.it.below, u.it.set)

  by_series : BySeries n (list_of n (entries n))
  by_series =
      record {
        notice = λ k. get_or (entries n) k 0;
        behind = λ k l.
            let u = up_at n parallel_of (rising_to n parallel_of 64) k l in
            record {
              is_notice = u.it.below;
              is_set_lem = u.it.set;
              is_highest = λ j m e. u.it.over j m (e ∙ u.it.of_series);
              its_start = place_of 0 (start_at n) (entries n) k l;
              its_end = place_of 0 (end_at n) (entries n) k l;
              its_strike = place_of plus_zero (strike_at n) (entries n) k l;
            };
        rising = rises n parallel_of (rising_to n parallel_of 64);
        none-missing = λ i l z top. found i l z top (series_at n i) refl;
      }
    where
      -- 42 has looked at the series.
      in_range : (i : ℕ) → i < size n → (1 ≤ series_at n i) × (series_at n i ≤ 64)
      in_range i l =
          inside_of 1 64 (series_at n i)
          (none_of (outside 1 64 (series_at n i)) (outside 1 65535 (version_at n i)) (ltb 1 (action_at n i))
          (indexed-passed reason.NoticeRange (wrong_at n.series n.versions n.actions) n.series (passed-each n h 2) i l)).0

      found : (i : ℕ) → i < size n → action_at n i ≡ 0 → Highest n i → (s : ℕ) → series_at n i ≡ s → Taken (λ k. get_or (entries n) k 0) (length (entries n)) i
      found i l z top zero e = absurd (let r = (in_range i l).0 in omega arith)
      found i l z top (suc t) e =
          let r = (in_range i l).1 in
          let there = listed n parallel_of (passed-each n h 3) 64 t i (omega arith) (record { below = l; of_series = e; set = z; over = λ j m q. top j m (q ∙ sym e) }) in
          record { by = there.at; below-size = there.inside; is = there.found }

pub rising-series : RisingSeries
rising-series n h = let p = passed_of n h in rw (← accepted n refl p refl) (by_series n p)
