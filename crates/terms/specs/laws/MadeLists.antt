-- The strikes and days of a call list made from an accepted one: refused with 4 where a strike is above 1,000,000, else accepted. Assumes nothing.
use Rattle.std.specs.Prelude.{◌≡◌, ◌⊎◌, ℕ, ◌<◌, T, Ok, Err}
use Rattle.std.proofs.Common.{inl, inr, arith}
use Rattle.std.specs.Float.Ieee.{lt, le}
use Rattle.floats.specs.Refusals.{Refusal}
use Rattle.floats.specs.declared.Reason.TheVariants as reason
use Rattle.floats.specs.Answers.{plus_zero}
use Rattle.floats.specs.laws.Order.{number_of-finite, number_of_le, le_of_lt, le_of_not_lt, lt_of_lt_of_le, between}
use Rattle.terms.specs.Numbers.{million}
use Rattle.terms.specs.Terms.{CallSchedule}
use Rattle.terms.specs.Checks.{call_days, call_order, strike_range}
use Rattle.terms.specs.CallLists.{size, strike_of, MadeFrom, Reordered}
use Rattle.terms.specs.laws.Searching.{Somewhere, somewhere}
use Rattle.terms.specs.laws.Limits.{zero-finite, million-finite}
use Rattle.terms.specs.laws.Ranges.{Above}
use Rattle.terms.specs.laws.CallChecks.{call-counted, call_days-passed, call-days_of, strikes-passed, strikes_of, strike-refused, call_order-passed, call_order_of}
use Rattle.terms.specs.laws.Groups.{CallsPassed}

-- Some strike is above 1,000,000.
abbrev pub SomeAbove : CallSchedule → Type 0
SomeAbove c = Somewhere (λ i. lt million (strike_of c i)) (size c)

-- Every strike is at most 1,000,000.
abbrev pub AllWithin : CallSchedule → Type 0
AllWithin c = (i : ℕ) → i < size c → T (le (strike_of c i) million)

-- Each strike of an accepted list is in range.
pub accepted-strike : (c : CallSchedule) → CallsPassed c → (i : ℕ) → i < size c → Above million (strike_of c i)
accepted-strike c k i l =
    let e = (call-counted c k.counted).entries.strikes_too in
    strikes-passed c k.strikes i (omega arith)

module _ (first second : CallSchedule) (made : MadeFrom first second) where
  -- One of the two holds: the strikes of the second are numbers.
  pub strikes-decided : SomeAbove second ⊎ AllWithin second
  strikes-decided =
      elim (somewhere (λ i. lt million (strike_of second i)) (size second)) [
        | inl s ↦ inl s
        | inr none ↦
            inr
            (λ i l.
            le_of_not_lt million (strike_of second i) (number_of-finite million million-finite)
            (number_of_le (strike_of first (made.partner i)) (strike_of second i) (made.strike_as_high i l)).1
            (none i l))
      ]

  -- ---- the checks of the call entries

  module _ (accepted : CallsPassed first) where
    pub made-days : call_days second ≡ Ok tt
    made-days =
        call-days_of second
        (λ i l.
        let d = call_days-passed first accepted.days (made.partner i) (made.of_first i l) in
        record { start-day = rw (made.same_start i l) d.start-day; end-day = rw (made.same_end i l) d.end-day })

    pub made-ordered : call_order second ≡ Ok tt
    made-ordered =
        call_order_of second
        (λ i l.
        rw (made.same_start i l, made.same_end i l)
        (call_order-passed first accepted.ordered (made.partner i) (made.of_first i l)))

    -- Each strike of the second is above 0.
    pub made-above_zero : (i : ℕ) → i < size second → T (lt plus_zero (strike_of second i))
    made-above_zero i l =
        lt_of_lt_of_le plus_zero (strike_of first (made.partner i)) (strike_of second i)
        (accepted-strike first accepted (made.partner i) (made.of_first i l)).above_zero
        (made.strike_as_high i l)

    pub made-strikes : AllWithin second → strike_range second ≡ Ok tt
    made-strikes h =
        strikes_of second
        (λ i u.
        let l : i < size second = let e = made.entries.strikes_too in omega arith in
        let positive = made-above_zero i l in
        record {
          is_finite = between plus_zero (strike_of second i) million zero-finite million-finite (le_of_lt plus_zero (strike_of second i) positive) (h i l);
          above_zero = positive;
          at_most = h i l;
        })

  pub made-refused : SomeAbove second → (r : Refusal) × (strike_range second ≡ Err r) × (r.reason ≡ reason.Number)
  made-refused s =
      let e = made.entries.strikes_too in
      let found = strike-refused second s.index (let b = s.below in omega arith) s.holds in
      (found.0, found.1, found.2.same_reason)

-- ---- a reordered list

module _ (first second : CallSchedule) (r : Reordered first second) where
  pub reordered-within : CallsPassed first → AllWithin second
  reordered-within k i l =
      rw (r.equal_strike i l)
      (accepted-strike first k (r.made.partner i) (r.made.of_first i l)).at_most
