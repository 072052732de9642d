-- Notices in another order: each has its own in the other, both ways; so the checks of the two are alike. Assumes nothing.
use Rattle.std.specs.Prelude.{◌≡◌, refl, Bool, not, ◌&&◌, ◌||◌, ℕ, zero, suc, ◌<◌, length, get_or, T, eqb, ltb, Ok}
use Rattle.std.proofs.Common.{sym, ap, ◌∙◌, inl, inr, arith, eqb→eq, ltb→lt, lt→ltb}
use Rattle.std.proofs.Math.Dec.{eqb-suc-zero}
use Rattle.std.specs.Float.Ieee.Fits.{eq→eqb}
use Rattle.floats.specs.declared.Reason.{Reason}
use Rattle.terms.specs.Numbers.{million}
use Rattle.terms.specs.Checks.{first_of, single, lowest, no_day, not_above}
use Rattle.terms.specs.laws.Sequence.{single_of_not}
use Rattle.terms.specs.laws.Ranges.{not_or, not_unequal}
use Rattle.terms.specs.laws.Searching.{Somewhere, below_or_not}
use Rattle.terms.specs.laws.Pairing.{Taken, all_taken}
use Rattle.callnotices.specs.Notices.{Notices, Parallel, size, start_at, end_at, strike_at}
use Rattle.callnotices.specs.Standing.{first, is_version}
use Rattle.callnotices.specs.Checks.{unequal, wrong_at, repeats_at, set_day_wrong, set_strike_wrong, set_ends_early, notice_count, too_many, notice_range, no_repeats, set_days, set_strikes, set_order, notice_checks}
use Rattle.callnotices.specs.Rules.{OtherOrder}
use Rattle.callnotices.specs.laws.Firsts.{both, both_of, first_holds, first_below}
use Rattle.callnotices.specs.laws.Alike.{Alike, no_check, one_more, alike_of, alike_first, alike-lowest}
use Rattle.floats.specs.declared.Reason.TheVariants as reason

-- Notice i of b is notice j of a.
pub record Same (a b : Notices) (i j : ℕ) : Type 0 where
  pub series : get_or b.series i 0 ≡ get_or a.series j 0
  pub version : get_or b.versions i 0 ≡ get_or a.versions j 0
  pub action : get_or b.actions i 0 ≡ get_or a.actions j 0
  pub start : get_or b.actions i 0 ≡ 0 → start_at b i ≡ start_at a j
  pub end : get_or b.actions i 0 ≡ 0 → end_at b i ≡ end_at a j
  pub strike : get_or b.actions i 0 ≡ 0 → strike_at b i ≡ strike_at a j

-- Each notice of b has its own in a.
pub record Pairs (a b : Notices) : Type 0 where
  pub partner : (i : ℕ) → i < size b → ℕ
  pub lands : (i : ℕ) (l : i < size b) → partner i l < size a
  pub apart : (i j : ℕ) (l : i < size b) (k : j < size b) → partner i l ≡ partner j k → i ≡ j
  pub same : (i : ℕ) (l : i < size b) → Same a b i (partner i l)

module _ (a b : Notices) (o : OtherOrder a b) where
  pub forward : Pairs a b
  forward =
      record {
        partner = λ i l. o.partner i;
        lands = λ i l. o.paired.lands i l;
        apart = λ i j l k e. o.paired.apart i j l k e;
        same = λ i l.
            record {
              series = o.same_series i l;
              version = o.same_version i l;
              action = o.same_action i l;
              start = o.same_start i l;
              end = o.same_end i l;
              strike = o.same_strike i l;
            };
      }

  taken : (j : ℕ) → j < size a → Taken o.partner (size b) j
  taken j l = all_taken o.partner (size b) (rw (← o.all_paired) at o.paired) j (let e = o.all_paired in omega arith)

  module _ (j : ℕ) (l : j < size a) where
    by : ℕ
    by = (taken j l).by

    by_below : by < size b
    unfolding by
    by_below = (taken j l).below-size

    by_is : o.partner by ≡ j
    unfolding by
    by_is = (taken j l).is

    -- A field of b at the one that takes j is a's at j.
    back : {A : Type 0} (f g : ℕ → A) → f by ≡ g (o.partner by) → g j ≡ f by
    back f g e = ap g (sym by_is) ∙ sym e

    same_back : Same b a j by
    same_back =
        let set : (get_or a.actions j 0 ≡ 0 → get_or b.actions by 0 ≡ 0) = λ z. o.same_action by by_below ∙ ap (λ (k : ℕ). get_or a.actions k 0) by_is ∙ z in
        record {
          series = back (λ i. get_or b.series i 0) (λ i. get_or a.series i 0) (o.same_series by by_below);
          version = back (λ i. get_or b.versions i 0) (λ i. get_or a.versions i 0) (o.same_version by by_below);
          action = back (λ i. get_or b.actions i 0) (λ i. get_or a.actions i 0) (o.same_action by by_below);
          start = λ z. back (start_at b) (start_at a) (o.same_start by by_below (set z));
          end = λ z. back (end_at b) (end_at a) (o.same_end by by_below (set z));
          strike = λ z. back (strike_at b) (strike_at a) (o.same_strike by by_below (set z));
        }

  pub backward : Pairs b a
  backward =
      record {
        partner = by;
        lands = by_below;
        apart = λ i j l k e. sym (by_is i l) ∙ ap o.partner e ∙ by_is j k;
        same = same_back;
      }

-- ---- a cause at one notice is the same at its partner

-- A test that is made of sets only.
set-alike : (x y : ℕ) (p q : Bool) → x ≡ y → (x ≡ 0 → p ≡ q) → (eqb x 0 && p) ≡ (eqb y 0 && q)
set-alike zero y p q e f = rw (← e) (f refl)
set-alike (suc x) y p q e f = rw (← e, eqb-suc-zero x) refl

module _ (a b : Notices) (i j : ℕ) (s : Same a b i j) where
  wrong_same : wrong_at b.series b.versions b.actions i ≡ wrong_at a.series a.versions a.actions j
  wrong_same = rw (s.series, s.version, s.action) refl

  day_same : set_day_wrong b.actions b.starts b.ends i ≡ set_day_wrong a.actions a.starts a.ends j
  day_same =
      set-alike (get_or b.actions i 0) (get_or a.actions j 0) (no_day (start_at b i) || no_day (end_at b i)) (no_day (start_at a j) || no_day (end_at a j))
      s.action (λ z. rw (s.start z, s.end z) refl)

  strike_same : set_strike_wrong b.actions b.strikes i ≡ set_strike_wrong a.actions a.strikes j
  strike_same =
      set-alike (get_or b.actions i 0) (get_or a.actions j 0) (not_above million (strike_at b i)) (not_above million (strike_at a j))
      s.action (λ z. ap (not_above million) (s.strike z))

  early_same : set_ends_early b.actions b.starts b.ends i ≡ set_ends_early a.actions a.starts a.ends j
  early_same =
      set-alike (get_or b.actions i 0) (get_or a.actions j 0) (ltb (end_at b i) (start_at b i)) (ltb (end_at a j) (start_at a j))
      s.action (λ z. rw (s.start z, s.end z) refl)

-- ---- 43

-- The later of two notices that have the same series and version repeats the other.
repeat_of : (n : Notices) (i k : ℕ) → i < k → get_or n.series i 0 ≡ get_or n.series k 0 → get_or n.versions i 0 ≡ get_or n.versions k 0 → T (repeats_at n.series n.versions k)
repeat_of n i k l e f =
    let test = is_version n.series n.versions (get_or n.series k 0) (get_or n.versions k 0) in
    lt→ltb (first test k) k
    (first_below test k i l (both (eqb (get_or n.series i 0) (get_or n.series k 0)) (eqb (get_or n.versions i 0) (get_or n.versions k 0)) (eq→eqb e) (eq→eqb f)))

pub repeat_two : (n : Notices) (i k : ℕ) → i < size n → k < size n → (i ≡ k → ⊥) → get_or n.series i 0 ≡ get_or n.series k 0 → get_or n.versions i 0 ≡ get_or n.versions k 0 → Somewhere (repeats_at n.series n.versions) (size n)
repeat_two n i k li lk ne e f =
    elim (below_or_not i k) [
      | inl l ↦ record { index = k; below = lk; holds = repeat_of n i k l e f }
      | inr l ↦ record { index = i; below = li; holds = repeat_of n k i (omega arith) (sym e) (sym f) }
    ]

module _ (a b : Notices) (p : Pairs a b) where
  -- A repeat in b is one in a.
  repeat_there : (k : ℕ) → k < size b → T (repeats_at b.series b.versions k) → Somewhere (repeats_at a.series a.versions) (size a)
  repeat_there k l t =
      let test = is_version b.series b.versions (get_or b.series k 0) (get_or b.versions k 0) in
      let i = first test k in
      let earlier : i < k = ltb→lt i k t in
      let li : i < size b = omega arith in
      let hit = both_of (eqb (get_or b.series i 0) (get_or b.series k 0)) (eqb (get_or b.versions i 0) (get_or b.versions k 0)) (first_holds test k earlier) in
      let x = p.same i li in
      let y = p.same k l in
      repeat_two a (p.partner i li) (p.partner k l) (p.lands i li) (p.lands k l)
      (λ q. let z = p.apart i k li l q in omega arith)
      (sym x.series ∙ eqb→eq (get_or b.series i 0) (get_or b.series k 0) hit.0 ∙ y.series)
      (sym x.version ∙ eqb→eq (get_or b.versions i 0) (get_or b.versions k 0) hit.1 ∙ y.version)

  -- A cause that a notice has wherever it stands.
  cause-there : (bad worse : ℕ → Bool) → ((i j : ℕ) → Same a b i j → worse i ≡ bad j) → (i : ℕ) → i < size b → T (worse i) → Somewhere bad (size a)
  cause-there bad worse f i l t = record { index = p.partner i l; below = p.lands i l; holds = rw (f i (p.partner i l) (p.same i l)) at t }

-- ---- all checks

count-passed : (n : Notices) → Parallel n → notice_count n ≡ Ok tt
count-passed n p =
    let count = size n in
    let e : (ℕ → Bool) = λ m. not (eqb m count) in
    single_of_not reason.Count 0 (unequal count (length n.versions) (length n.actions) (length n.starts) (length n.ends) (length n.strikes))
    (not_or (e (length n.versions)) _ (not_unequal (length n.versions) count p.versions_too)
    (not_or (e (length n.actions)) _ (not_unequal (length n.actions) count p.actions_too)
    (not_or (e (length n.starts)) _ (not_unequal (length n.starts) count p.starts_too)
    (not_or (e (length n.ends)) _ (not_unequal (length n.ends) count p.ends_too)
    (not_unequal (length n.strikes) count p.strikes_too)))))

module _ (a b : Notices) (o : OtherOrder a b) where
  count-alike : Alike (notice_count a) (notice_count b)
  count-alike = alike_of (notice_count a) (notice_count b) (count-passed b o.second-parallel ∙ sym (count-passed a o.first_parallel))

  many-alike : Alike (too_many a.series) (too_many b.series)
  many-alike = alike_of (too_many a.series) (too_many b.series) (ap (λ (n : ℕ). single reason.NoticeCount 0 (ltb 256 n)) o.all_paired)

  repeats-alike : Alike (no_repeats a.series a.versions) (no_repeats b.series b.versions)
  repeats-alike =
      alike-lowest reason.NoticeRepeated (repeats_at a.series a.versions) (repeats_at b.series b.versions) (size a) (size b)
      (repeat_there b a (backward a b o)) (repeat_there a b (forward a b o))

  -- A cause that a notice has wherever it stands.
  cause-alike : (why : Reason) (bad worse : ℕ → Bool) → ((i j : ℕ) → Same a b i j → worse i ≡ bad j) → ((i j : ℕ) → Same b a i j → bad i ≡ worse j) → (count many : ℕ) → count ≡ size a → many ≡ size b → Alike (lowest why bad count 0) (lowest why worse many 0)
  cause-alike why bad worse f g count many e d =
      rw (e, d)
      (alike-lowest why bad worse (size a) (size b) (cause-there b a (backward a b o) worse bad g) (cause-there a b (forward a b o) bad worse f))

  range_alike : Alike (notice_range a.series a.versions a.actions) (notice_range b.series b.versions b.actions)
  range_alike =
      cause-alike reason.NoticeRange (wrong_at a.series a.versions a.actions) (wrong_at b.series b.versions b.actions)
      (wrong_same a b) (wrong_same b a) (size a) (size b) refl refl

  days-alike : Alike (set_days a.actions a.starts a.ends) (set_days b.actions b.starts b.ends)
  days-alike =
      cause-alike reason.Day (set_day_wrong a.actions a.starts a.ends) (set_day_wrong b.actions b.starts b.ends)
      (day_same a b) (day_same b a) (length a.actions) (length b.actions) o.first_parallel.actions_too o.second-parallel.actions_too

  strikes-alike : Alike (set_strikes a.actions a.strikes) (set_strikes b.actions b.strikes)
  strikes-alike =
      cause-alike reason.Number (set_strike_wrong a.actions a.strikes) (set_strike_wrong b.actions b.strikes)
      (strike_same a b) (strike_same b a) (length a.actions) (length b.actions) o.first_parallel.actions_too o.second-parallel.actions_too

  order_alike : Alike (set_order a.actions a.starts a.ends) (set_order b.actions b.starts b.ends)
  order_alike =
      cause-alike reason.CallOrder (set_ends_early a.actions a.starts a.ends) (set_ends_early b.actions b.starts b.ends)
      (early_same a b) (early_same b a) (length a.actions) (length b.actions) o.first_parallel.actions_too o.second-parallel.actions_too

  -- The checks of the two are alike.
  pub checks-alike : Alike (notice_checks a) (notice_checks b)
  unfolding notice_checks first_of
  checks-alike =
      alike_first
      (one_more count-alike (one_more many-alike (one_more range_alike (one_more repeats-alike
      (one_more days-alike (one_more strikes-alike (one_more order_alike no_check)))))))
