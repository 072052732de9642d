-- An accepted list passes the checks of calls: each of its entries is a set notice, whose call fields were checked. Assumes nothing.
use Rattle.std.specs.Prelude.{◌≡◌, refl, Bool, true, false, not, cond, ◌&&◌, ◌||◌, List, [], ◌∷◌, ◌++◌, map, ℕ, zero, suc, ◌+◌, ◌-◌, ◌≤◌, ◌<◌, length, get_or, take, replicate, T, ltb, Ok}
use Rattle.std.proofs.Common.{sym, ap, ◌∙◌, arith, length-append, nltb→le}
use Rattle.std.proofs.lemmas.List.{length-map}
use Rattle.std.proofs.Math.Seq.{take-append_seam}
use Rattle.std.specs.Float.Ieee.Fits.{eq→eqb}
use Rattle.floats.specs.Answers.{plus_zero}
use Rattle.floats.specs.declared.Reason.{Reason}
use Rattle.terms.specs.Numbers.{million}
use Rattle.terms.specs.Terms.{CallSchedule}
use Rattle.terms.specs.Checks.{indexed, no_day, not_above}
use Rattle.terms.specs.CallLists.{strike_of}
use Rattle.terms.specs.laws.Sequence.{indexed-passed, indexed_of_none}
use Rattle.terms.specs.laws.Ranges.{neither, not_and_r}
use Rattle.terms.specs.laws.Groups.{CallsPassed}
use Rattle.terms.specs.laws.CallChecks.{call-count_of, call-days_of, call_order_of}
use Rattle.callnotices.specs.Notices.{Notices, is_set, start_at, end_at, strike_at}
use Rattle.callnotices.specs.Standing.{standing, yields, entries_to, entries}
use Rattle.callnotices.specs.Checks.{notice_checks}
use Rattle.callnotices.specs.Lists.{in_places, list_of, schedule_of}
use Rattle.callnotices.specs.Rules.{ListAccepted}
use Rattle.callnotices.specs.laws.Answers.{accepted, passed_counted, passed-each, passed_of}
use Rattle.callnotices.specs.laws.Appending.{map_at}
use Rattle.callnotices.proofs.laws.RisingSeries.{entry_set}
use Rattle.floats.specs.declared.Reason.TheVariants as reason

few_more : (is : List ℕ) (i s : ℕ) (b : Bool) → length is ≤ s → length (cond b (is ++ (i ∷ [])) is) ≤ suc s
few_more is i s true h = let n : length (is ++ (i ∷ [])) ≡ length is + 1 = length-append is (i ∷ []) in omega arith
few_more is i s false h = omega arith

few-entries : (n : Notices) (s : ℕ) → length (entries_to n s) ≤ s
unfolding entries_to
few-entries n zero = omega arith
few-entries n (suc s) =
    let i = standing n.series n.versions (suc s) in
    few_more (entries_to n s) i s (yields n.actions i) (few-entries n s)

-- A cause that the checks found at no set notice is there at no entry, whose notice is a set.
not_there : (n : Notices) → notice_checks n ≡ Ok tt → (why : Reason) (bad : ℕ → Bool) → indexed why (λ i. is_set n.actions i && bad i) n.actions ≡ Ok tt → (k : ℕ) → k < length (entries n) → T (not (bad (get_or (entries n) k 0)))
not_there n h why bad e k l =
    let i = get_or (entries n) k 0 in
    let (inside, set) = entry_set n h k l in
    not_and_r (is_set n.actions i) (bad i)
    (indexed-passed why (λ j. is_set n.actions j && bad j) n.actions e i (let p = (passed_counted n refl h).parallel.actions_too in omega arith))
    (eq→eqb set)

-- ---- the list as calls

-- The entries of the places, without the zeros behind them.
from_places : {A : Type 0} (nil : A) (f : ℕ → A) (is : List ℕ) → take (length is) (in_places nil (map f is)) ≡ map f is
from_places nil f is =
    ap (λ (k : ℕ). take k (in_places nil (map f is))) (sym (length-map is f))
    ∙ take-append_seam (map f is) (replicate (64 - length (map f is)) nil)

abbrev calls_of : Notices → List ℕ → CallSchedule
calls_of n is = record { starts = map (start_at n) is; ends = map (end_at n) is; strikes = map (strike_at n) is }

as_calls : (n : Notices) (is : List ℕ) → schedule_of (list_of n is) ≡ calls_of n is
as_calls n is = rw (from_places 0 (start_at n) is, from_places 0 (end_at n) is, from_places plus_zero (strike_at n) is) refl

module _ (n : Notices) (h : notice_checks n ≡ Ok tt) where
  abbrev es : List ℕ
  es = entries n

  abbrev calls : CallSchedule
  calls = calls_of n es

  of_entries : {A : Type 0} (f : ℕ → A) (k : ℕ) → k < length (map f es) → k < length es
  of_entries f k l = let e : length (map f es) ≡ length es = length-map es f in omega arith

  calls-passed : CallsPassed calls
  calls-passed =
      record {
        counted =
            call-count_of calls
            (record {
              entries =
                  record {
                    ends_too = length-map es (end_at n) ∙ sym (length-map es (start_at n));
                    strikes_too = length-map es (strike_at n) ∙ sym (length-map es (start_at n));
                  };
              few = let e : length (map (start_at n) es) ≡ length es = length-map es (start_at n) in let f = few-entries n 64 in omega arith;
            });
        days =
            call-days_of calls
            (λ k l.
            let u = of_entries (start_at n) k l in
            let i = get_or es k 0 in
            let b = neither (no_day (start_at n i)) (no_day (end_at n i)) (not_there n h reason.Day (λ j. no_day (start_at n j) || no_day (end_at n j)) (passed-each n h 4) k u) in
            record {
              start-day = rw (map_at (start_at n) es k 0 0 u) (nltb→le 200000 (start_at n i) b.0);
              end-day = rw (map_at (end_at n) es k 0 0 u) (nltb→le 200000 (end_at n i) b.1);
            });
        strikes =
            indexed_of_none reason.Number (λ k. not_above million (strike_of calls k)) calls.strikes
            (λ k l.
            let u = of_entries (strike_at n) k l in
            rw (map_at (strike_at n) es k 0 plus_zero u) (not_there n h reason.Number (λ j. not_above million (strike_at n j)) (passed-each n h 5) k u));
        ordered =
            call_order_of calls
            (λ k l.
            let u = of_entries (start_at n) k l in
            let i = get_or es k 0 in
            rw (map_at (start_at n) es k 0 0 u, map_at (end_at n) es k 0 0 u)
            (nltb→le (end_at n i) (start_at n i) (not_there n h reason.CallOrder (λ j. ltb (end_at n j) (start_at n j)) (passed-each n h 6) k u)));
      }

pub list_accepted : ListAccepted
list_accepted n h =
    let p = passed_of n h in
    rw (← accepted n refl p refl, as_calls n (entries n)) (calls-passed n p)
