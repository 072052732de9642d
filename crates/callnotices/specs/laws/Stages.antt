-- The checks of notices in stages, and what is known of the notices where the first stage passes. Assumes nothing.
use Rattle.std.specs.Prelude.{◌≡◌, refl, not, ◌||◌, List, [], ◌∷◌, ℕ, zero, suc, ◌≤◌, length, get_or, eqb, ltb, Float, Ok}
use Rattle.std.proofs.Common.{sym, ◌∙◌, nltb→le}
use Rattle.floats.specs.Answers.{Check}
use Rattle.terms.specs.Checks.{first_of}
use Rattle.terms.specs.laws.Sequence.{Passes, passes_of_first, single-passed}
use Rattle.terms.specs.laws.Ranges.{not_or_l, not_or_r, same_length}
use Rattle.terms.specs.laws.Stages.{Tells, in_stages}
use Rattle.callnotices.specs.Notices.{Notices, Parallel, size}
use Rattle.callnotices.specs.Checks.{notice_count, too_many, notice_range, no_repeats, set_days, set_strikes, set_order, notice_checks}
use Rattle.floats.specs.declared.Reason.TheVariants as reason

-- Each of the checks is passed, by index.
pub passed_at : (cs : List Check) → first_of cs ≡ Ok tt → (i : ℕ) → get_or cs i (Ok tt) ≡ Ok tt
passed_at cs h i = at cs i (passes_of_first cs h)
  where
    at : (xs : List Check) (k : ℕ) → Passes xs → get_or xs k (Ok tt) ≡ Ok tt
    at [] k p = refl
    at (x ∷ xs) zero p = p.0
    at (x ∷ xs) (suc k) p = at xs k p.1

-- 2 and 41.
abbrev pub notice_counts : Notices → Check
notice_counts n = first_of (notice_count n ∷ too_many n.series ∷ [])

-- 42 and 43.
abbrev pub notice_fields : List ℕ → List ℕ → List ℕ → Check
notice_fields series versions actions = first_of (notice_range series versions actions ∷ no_repeats series versions ∷ [])

-- 3, 4 and 5.
abbrev pub set_fields : List ℕ → List ℕ → List ℕ → List Float → Check
set_fields actions starts ends strikes =
    first_of (set_days actions starts ends ∷ set_strikes actions strikes ∷ set_order actions starts ends ∷ [])

pub notices_in_stages : (n : Notices) → notice_checks n ≡ first_of (notice_counts n ∷ notice_fields n.series n.versions n.actions ∷ set_fields n.actions n.starts n.ends n.strikes ∷ [])
unfolding notice_checks
notices_in_stages n =
    in_stages
    ((notice_count n ∷ too_many n.series ∷ [])
    ∷ (notice_range n.series n.versions n.actions ∷ no_repeats n.series n.versions ∷ [])
    ∷ (set_days n.actions n.starts n.ends ∷ set_strikes n.actions n.strikes ∷ set_order n.actions n.starts n.ends ∷ [])
    ∷ [])

pub as_notices : {r : Check} (n : Notices) → r ≡ first_of (notice_counts n ∷ notice_fields n.series n.versions n.actions ∷ set_fields n.actions n.starts n.ends n.strikes ∷ []) → r ≡ notice_checks n
as_notices n p = p ∙ sym (notices_in_stages n)

-- As many of each field, 256 at most.
pub record Counted (n : Notices) : Type 0 where
  pub parallel : Parallel n
  pub few : size n ≤ 256

parallel-six : (n : Notices) → notice_count n ≡ Ok tt → Parallel n
parallel-six n h =
    let count = size n in
    let v = not (eqb (length n.versions) count) in
    let a = not (eqb (length n.actions) count) in
    let s = not (eqb (length n.starts) count) in
    let e = not (eqb (length n.ends) count) in
    let k = not (eqb (length n.strikes) count) in
    let none = single-passed reason.Count 0 (v || (a || (s || (e || k)))) h in
    let none_2 = not_or_r v (a || (s || (e || k))) none in
    let none-3 = not_or_r a (s || (e || k)) none_2 in
    let none-4 = not_or_r s (e || k) none-3 in
    record {
      versions_too = same_length (length n.versions) count (not_or_l v (a || (s || (e || k))) none);
      actions_too = same_length (length n.actions) count (not_or_l a (s || (e || k)) none_2);
      starts_too = same_length (length n.starts) count (not_or_l s (e || k) none-3);
      ends_too = same_length (length n.ends) count (not_or_l e k none-4);
      strikes_too = same_length (length n.strikes) count (not_or_r e k none-4);
    }

pub counted : (n : Notices) → notice_counts n ≡ Ok tt → Counted n
counted n h =
    let checks = notice_count n ∷ too_many n.series ∷ [] in
    record {
      parallel = parallel-six n (passed_at checks h 0);
      few = nltb→le 256 (size n) (single-passed reason.NoticeCount 0 (ltb 256 (size n)) (passed_at checks h 1));
    }

pub counts_tell : (n : Notices) {r : Check} → r ≡ notice_counts n → Tells r (notice_counts n) (Counted n)
counts_tell n e = record { same = e; passed = λ p. counted n (sym e ∙ p) }
