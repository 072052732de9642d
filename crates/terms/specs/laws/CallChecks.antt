-- What the checks of a call schedule say of its entries, and that a schedule of which this holds passes them. Assumes nothing.
use Rattle.std.specs.Prelude.{◌≡◌, false, ℕ, ◌≤◌, ◌<◌, length, T, ltb, Ok, Err}
use Rattle.std.proofs.Common.{nltb→le}
use Rattle.std.specs.Float.Ieee.{lt, le}
use Rattle.floats.specs.Refusals.{Refusal}
use Rattle.floats.specs.Answers.{plus_zero, not_finite}
use Rattle.floats.specs.laws.Fractions.{or_r}
use Rattle.terms.specs.Numbers.{million}
use Rattle.terms.specs.Terms.{CallSchedule}
use Rattle.terms.specs.Checks.{no_day, not_above, call_count, put_count, put_most, call_days, call_order, strike_range}
use Rattle.terms.specs.CallLists.{size, start_of, end_of, strike_of, Entries}
use Rattle.terms.specs.laws.Limits.{million-finite}
use Rattle.terms.specs.laws.Sequence.{LowestAt, single-passed, single_of_not, indexed-passed, indexed_of_none, indexed-found}
use Rattle.terms.specs.laws.Counts.{parallel_three, parallel_three_of}
use Rattle.terms.specs.laws.Ranges.{Above, above_of, not_not_above, neither, not_or, not_ltb}
use Rattle.floats.specs.declared.Reason.TheVariants as reason

module _ (c : CallSchedule) where
  -- 2: as many ends and strikes as starts, 64 at most.
  pub record CallCounted : Type 0 where
    pub entries : Entries c
    pub few : size c ≤ 64

  pub call-counted : call_count c ≡ Ok tt → CallCounted
  call-counted h =
      let p = parallel_three (ltb 64 (size c)) (size c) (length c.ends) (length c.strikes) h in
      record {
        entries = record { ends_too = p.1; strikes_too = p.2 };
        few = nltb→le 64 (size c) p.0;
      }

  pub call-count_of : CallCounted → call_count c ≡ Ok tt
  call-count_of k =
      parallel_three_of (ltb 64 (size c)) (size c) (length c.ends) (length c.strikes)
      (not_ltb 64 (size c) k.few) k.entries.ends_too k.entries.strikes_too

  -- Of puts 2 and 37 say together what 2 says of calls.
  pub put_entries : put_count c ≡ Ok tt → Entries c
  put_entries h =
      let p = parallel_three false (size c) (length c.ends) (length c.strikes) h in
      record { ends_too = p.1; strikes_too = p.2 }

  pub put-few : put_most c ≡ Ok tt → size c ≤ 64
  put-few h = nltb→le 64 (size c) (single-passed reason.PutCount 0 (ltb 64 (size c)) h)

  pub put-count_of : Entries c → put_count c ≡ Ok tt
  put-count_of e = parallel_three_of false (size c) (length c.ends) (length c.strikes) tt e.ends_too e.strikes_too

  pub put_most_of : size c ≤ 64 → put_most c ≡ Ok tt
  put_most_of h = single_of_not reason.PutCount 0 (ltb 64 (size c)) (not_ltb 64 (size c) h)

  -- 3: each day is 0 to 200,000.
  pub record DaysInRange (i : ℕ) : Type 0 where
    pub start-day : start_of c i ≤ 200000
    pub end-day : end_of c i ≤ 200000

  pub call_days-passed : call_days c ≡ Ok tt → (i : ℕ) → i < size c → DaysInRange i
  call_days-passed h i l =
      let b = neither (no_day (start_of c i)) (no_day (end_of c i)) (indexed-passed _ _ c.starts h i l) in
      record { start-day = nltb→le 200000 (start_of c i) b.0; end-day = nltb→le 200000 (end_of c i) b.1 }

  pub call-days_of : ((i : ℕ) → i < size c → DaysInRange i) → call_days c ≡ Ok tt
  call-days_of f =
      indexed_of_none reason.Day _ c.starts
      (λ i l. not_or (no_day (start_of c i)) (no_day (end_of c i)) (not_ltb 200000 (start_of c i) (f i l).start-day) (not_ltb 200000 (end_of c i) (f i l).end-day))

  -- 4: each strike is above 0 and up to 1e6.
  pub strikes-passed : strike_range c ≡ Ok tt → (i : ℕ) → i < length c.strikes → Above million (strike_of c i)
  strikes-passed h i l = above_of million (strike_of c i) million-finite (indexed-passed _ _ c.strikes h i l)

  pub strikes_of : ((i : ℕ) → i < length c.strikes → Above million (strike_of c i)) → strike_range c ≡ Ok tt
  strikes_of f = indexed_of_none reason.Number _ c.strikes (λ i l. not_not_above million (strike_of c i) (f i l))

  -- A strike above 1e6 is refused with 4.
  pub strike-refused : (i : ℕ) → i < length c.strikes → T (lt million (strike_of c i)) → (r : Refusal) × (strike_range c ≡ Err r) × LowestAt reason.Number (λ k. not_above million (strike_of c k)) (length c.strikes) 0 r
  strike-refused i l h =
      indexed-found reason.Number (λ k. not_above million (strike_of c k)) c.strikes i l
      (or_r (not_finite (strike_of c i)) _ (or_r (le (strike_of c i) plus_zero) (lt million (strike_of c i)) h))

  -- 5: no call ends before it starts.
  pub call_order-passed : call_order c ≡ Ok tt → (i : ℕ) → i < size c → start_of c i ≤ end_of c i
  call_order-passed h i l = nltb→le (end_of c i) (start_of c i) (indexed-passed _ _ c.starts h i l)

  pub call_order_of : ((i : ℕ) → i < size c → start_of c i ≤ end_of c i) → call_order c ≡ Ok tt
  call_order_of f = indexed_of_none reason.CallOrder _ c.starts (λ i l. not_ltb (end_of c i) (start_of c i) (f i l))
