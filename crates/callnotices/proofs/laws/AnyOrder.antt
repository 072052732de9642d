-- Notices in another order give the same list: for each series the same notice stands, since the highest versions agree and no two notices have one series and version. Assumes nothing.
use Rattle.std.specs.Prelude.{◌≡◌, Bool, true, false, cond, List, [], ◌∷◌, ◌++◌, map, length, get_or, T, eqb, Ok}
use Rattle.std.proofs.Math.Path.{refl}
use Rattle.std.proofs.Common.{sym, ap, ◌∙◌, inl, inr, arith, T_not, eqb→eq, lt-ltb, le-ltb}
use Prim.Native.Nat.{ℕ, zero, suc, ◌≤◌, ◌<◌}
use Rattle.std.proofs.lemmas.List.{length-map}
use Rattle.std.specs.Float.Ieee.Fits.{eq→eqb}
use Rattle.floats.specs.Answers.{plus_zero, Check}
use Rattle.floats.specs.Reasons.{reason_number}
use Rattle.terms.specs.laws.Sequence.{indexed-passed}
use Rattle.floats.specs.laws.Fractions.{decide}
use Rattle.terms.specs.laws.Searching.{below_or_not}
use Rattle.callnotices.specs.Notices.{Notices, size, start_at, end_at, strike_at}
use Rattle.callnotices.specs.Standing.{first, highest, is_version, standing, yields, entries_to, entries}
use Rattle.callnotices.specs.Checks.{repeats_at, no_repeats, notice_checks}
use Rattle.callnotices.specs.Lists.{in_places, list_of, call_list}
use Rattle.callnotices.specs.Rules.{OtherOrder, SameList, AnyOrder}
use Rattle.callnotices.specs.laws.Answers.{accepted, refused, passed-each}
use Rattle.callnotices.specs.laws.Appending.{map_next}
use Rattle.callnotices.specs.laws.Firsts.{both_of, first_holds, first_none, first_below, highest-over, HighestOf, no_version, version, highest_of}
use Rattle.callnotices.specs.laws.Alike.{Alike, both_pass, both_refuse}
use Rattle.callnotices.proofs.laws.Pairs.{Same, Pairs, forward, backward, repeat_two, checks-alike}
use Rattle.floats.specs.declared.Reason.TheVariants as reason

-- ---- the highest version of a series

-- A notice and its partner are of the same series and version, or neither is.
version-there : (a b : Notices) (i j s v : ℕ) → Same a b i j → T (is_version b.series b.versions s v i) → T (is_version a.series a.versions s v j)
version-there a b i j s v e t = rw (e.series, e.version) at t

highest_le : (a b : Notices) → Pairs a b → (s : ℕ) → highest b.series b.versions s ≤ highest a.series a.versions s
highest_le a b p s = go (highest b.series b.versions s) (highest_of b.series b.versions s)
  where
    go : (v : ℕ) → HighestOf b.series b.versions s v → v ≤ highest a.series a.versions s
    go v (no_version e) = omega arith
    go v (version i l t) =
        let j = p.partner i l in
        let there = both_of (eqb (get_or a.series j 0) s) (eqb (get_or a.versions j 0) v) (version-there a b i j s v (p.same i l) t) in
        let is : get_or a.versions j 0 ≡ v = eqb→eq (get_or a.versions j 0) v there.1 in
        let over = highest-over a.series a.versions s j (p.lands i l) there.0 in
        omega arith

-- ---- the notice that stands

-- The same notice stands in both, or none in either.
data Stand (a b : Notices) (i j : ℕ) : Type 0 where
  in_both : i < size b → j < size a → Same a b i j → Stand a b i j
  in_neither : size b ≤ i → size a ≤ j → Stand a b i j

-- No two notices have one series and version.
abbrev pub Single : Notices → Type 0
Single n = no_repeats n.series n.versions ≡ Ok tt

pub one_version : (n : Notices) → Single n → (s v i k : ℕ) → i < size n → k < size n → T (is_version n.series n.versions s v i) → T (is_version n.series n.versions s v k) → i ≡ k
one_version n h s v i k li lk t u =
    elim (decide (eqb i k)) [
      | inl e ↦ eqb→eq i k e
      | inr e ↦
          absurd
          (let x = both_of (eqb (get_or n.series i 0) s) (eqb (get_or n.versions i 0) v) t in
          let y = both_of (eqb (get_or n.series k 0) s) (eqb (get_or n.versions k 0) v) u in
          let w = repeat_two n i k li lk (λ q. T_not (eqb i k) e (eq→eqb q))
          (eqb→eq (get_or n.series i 0) s x.0 ∙ sym (eqb→eq (get_or n.series k 0) s y.0))
          (eqb→eq (get_or n.versions i 0) v x.1 ∙ sym (eqb→eq (get_or n.versions k 0) v y.1)) in
          T_not (repeats_at n.series n.versions w.index) (indexed-passed reason.NoticeRepeated (repeats_at n.series n.versions) n.series h w.index w.below) w.holds)
    ]

-- The notice of a series with a version, and the first of them.
abbrev has : Notices → ℕ → ℕ → ℕ → Bool
has n s v = is_version n.series n.versions s v

abbrev first_at : Notices → ℕ → ℕ → ℕ
first_at n s v = first (has n s v) (size n)

module _ (a b : Notices) (p : Pairs a b) (q : Pairs b a) (single : Single a) where
  highest_same : (s : ℕ) → highest b.series b.versions s ≡ highest a.series a.versions s
  highest_same s = let x = highest_le a b p s in let y = highest_le b a q s in omega arith

  -- For any version: the first notice of b that has it is the first of a.
  stand_at : (s v : ℕ) → Stand a b (first_at b s v) (first_at a s v)
  stand_at s v =
      let i = first_at b s v in
      let j = first_at a s v in
      elim (below_or_not (first_at b s v) (size b)) [
        | inl l ↦
            let k = p.partner i l in
            let there = version-there a b i k s v (p.same i l) (first_holds (has b s v) (size b) l) in
            let below = first_below (has a s v) (size a) k (p.lands i l) there in
            let is : k ≡ j = one_version a single s v k j (p.lands i l) below there (first_holds (has a s v) (size a) below) in
            in_both l below (rw is at (p.same i l))
        | inr l ↦
            elim (below_or_not (first_at a s v) (size a)) [
              | inl m ↦
                  let k = q.partner j m in
                  let there = version-there b a j k s v (q.same j m) (first_holds (has a s v) (size a) m) in
                  absurd (T_not (has b s v k) (first_none (has b s v) (size b) l k (q.lands j m)) there)
              | inr m ↦ in_neither l m
            ]
      ]

  stand : (s : ℕ) → Stand a b (standing b.series b.versions s) (standing a.series a.versions s)
  stand s = rw (highest_same s) (stand_at s (highest a.series a.versions s))

-- ---- the list

-- Both yield an entry, or neither does.
data Yield (a b : Notices) (i j : ℕ) : Bool → Bool → Type 0 where
  both_yield : Same a b i j → get_or b.actions i 0 ≡ 0 → Yield a b i j true true
  none_yields : Yield a b i j false false

module _ (a b : Notices) (o : OtherOrder a b) (single : Single a) where
  yield_of_lem : (i j : ℕ) → Stand a b i j → Yield a b i j (yields b.actions i) (yields a.actions j)
  yield_of_lem i j (in_neither l m) =
      let n = o.first_parallel.actions_too in
      let k = o.second-parallel.actions_too in
      rw (le-ltb i (length b.actions) (omega arith), le-ltb j (length a.actions) (omega arith)) none_yields
  yield_of_lem i j (in_both l m e) =
      let n = o.first_parallel.actions_too in
      let k = o.second-parallel.actions_too in
      rw (lt-ltb i (length b.actions) (omega arith), lt-ltb j (length a.actions) (omega arith), ← e.action) (go (eqb (get_or b.actions i 0) 0) refl)
    where
      go : (t : Bool) → eqb (get_or b.actions i 0) 0 ≡ t → Yield a b i j t t
      go true h = both_yield e (eqb→eq (get_or b.actions i 0) 0 (rw h tt))
      go false h = none_yields

  module _ {A : Type 0} (f g : ℕ → A) (field : (i j : ℕ) → Same a b i j → get_or b.actions i 0 ≡ 0 → g i ≡ f j) where
    one_series : (i j : ℕ) (x y : Bool) (is js : List ℕ) → Yield a b i j x y → map g is ≡ map f js → map g (cond x (is ++ (i ∷ [])) is) ≡ map f (cond y (js ++ (j ∷ [])) js)
    one_series i j x y is js (both_yield e z) h =
        map_next g is i ∙ ap (λ (r : List A). r ++ (g i ∷ [])) h ∙ ap (λ (r : A). map f js ++ (r ∷ [])) (field i j e z) ∙ sym (map_next f js j)
    one_series i j x y is js none_yields h = h

    entries_same : (s : ℕ) → map g (entries_to b s) ≡ map f (entries_to a s)
    unfolding entries_to
    entries_same zero = refl
    entries_same (suc s) =
        let i = standing b.series b.versions (suc s) in
        let j = standing a.series a.versions (suc s) in
        one_series i j (yields b.actions i) (yields a.actions j) (entries_to b s) (entries_to a s)
        (yield_of_lem i j (stand a b (forward a b o) (backward a b o) single (suc s))) (entries_same s)

  list_same : SameList (list_of a (entries a)) (list_of b (entries b))
  list_same =
      let starts = entries_same (start_at a) (start_at b) (λ i j e z. e.start z) 64 in
      record {
        same_number = refl;
        same_count = sym (length-map (entries b) (start_at b)) ∙ ap length starts ∙ length-map (entries a) (start_at a);
        same_starts = ap (in_places 0) starts;
        same_ends = ap (in_places 0) (entries_same (end_at a) (end_at b) (λ i j e z. e.end z) 64);
        same_strikes = ap (in_places plus_zero) (entries_same (strike_at a) (strike_at b) (λ i j e z. e.strike z) 64);
      }

pub any_order : AnyOrder
any_order a b o = go (notice_checks a) (notice_checks b) refl refl (checks-alike a b o)
  where
    go : (c d : Check) → c ≡ notice_checks a → d ≡ notice_checks b → Alike c d → SameList (call_list a) (call_list b)
    go c d e f both_pass =
        rw (← accepted a e refl refl, ← accepted b f refl refl) (list_same a b o (passed-each a (sym e) 3))
    go c d e f (both_refuse r q n) =
        rw (← refused a e refl refl, ← refused b f refl refl)
        (record { same_number = ap reason_number n; same_count = refl; same_starts = refl; same_ends = refl; same_strikes = refl })
