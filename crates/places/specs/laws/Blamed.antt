-- Whoever is blamed for a refusal of a bond without puts is at fault: the check that looks there refuses, with this number and place. Assumes nothing.
use Rattle.floats.specs.laws.Reasons.{reason_by_number}
use Rattle.floats.specs.Reasons.{reason_number}
use Rattle.floats.specs.declared.Reason.TheVariants as reason
use Rattle.floats.specs.declared.Reason.{Reason}
use Rattle.std.specs.Prelude.{ℕ, ◌≤◌, ◌<◌, ◌≡◌, Bool, true, false, cond, length, get_or, eqb, ltb, Float, Ok, Err}
use Rattle.std.proofs.Math.Path.{refl}
use Rattle.std.proofs.Common.{sym, ap, ◌∙◌, arith, le-leb, eq-eqb, ne_eqb}
use Rattle.std.proofs.Math.Logic.{inl, inr}
use Rattle.std.proofs.Math.Bool.{or_comm}
use mathlib.Core.List.{List, [], ◌∷◌}
use Rattle.std.proofs.lemmas.Bool.{lt-leb}
use Rattle.std.specs.Float.Ieee.Bits.{is_true, is_false}
use Rattle.floats.specs.Refusals.{Refusal}
use Rattle.floats.specs.Answers.{Check}
use Rattle.terms.specs.Numbers.{float, amount_limit}
use Rattle.terms.specs.Terms.{Leg, CallSchedule, SigmaSchedule, Market, no_entries, with_puts}
use Rattle.terms.specs.Checks.{first_of, single, indexed, no_day, falls, beyond, not_above, settings, day_count, leg_days, call_days, amount_range, strike_range, sigma_range, call_order, sigma_order, last_day, any_paid, pillar_order, pillars_apart, maturity_apart, positive_factors}
use Rattle.terms.specs.Entries.{market_checks, tree_checks}
use Rattle.terms.specs.laws.Sequence.{passed_not_refused, passes_of_first, first_refusal, indexed-passed, indexed-refused}
use Rattle.terms.specs.laws.Searching.{below_or_not}
use Rattle.terms.specs.laws.TermChecks.{LegCounted, SigmaCounted}
use Rattle.terms.specs.laws.CallChecks.{CallCounted}
use Rattle.places.specs.declared.Whose.{Whose}
use Rattle.places.specs.declared.Whose.TheVariants.{Nobody, Settlement, Units, Alpha, Spread, Cashflow, Call, Sigma, Pillar}
use Rattle.places.specs.Places.{inside, cashflow_day_wrong, call_day_wrong, whose_day, amount_wrong, strike_wrong, up_to_wrong, sigma_wrong, whose_field, whose_number, whose_order}
use Rattle.places.specs.Blame.{checks_of, day_check, number_check, order_check, blamed_day, or_else, blamed_number, blamed, check_of}
use Rattle.places.specs.laws.Refusing.{Numbers, numbers, first_refused_lem, none-refused, Counted, by_steps, by_code, by_counts, by_days, by_numbers, by_orders, refusing, steps_check, code_check, day_checks, number_checks, order_checks}

-- ---- a test that tells what a check says

record Tells (r : Refusal) (c : Check) (wrong : Bool) : Type 0 where
  refused : c ≡ Err r → wrong ≡ true
  passed : c ≡ Ok tt → wrong ≡ false

single_tells : (r : Refusal) (n : Reason) (place : ℕ) (b : Bool) → Tells r (single n place b) b
single_tells r n place true = record { refused = λ e. refl; passed = λ e. absurd (passed_not_refused (Ok tt) (record { reason = n; place = place }) refl (sym e)) }
single_tells r n place false = record { refused = λ e. absurd (passed_not_refused (Ok tt) r refl e); passed = λ e. refl }

-- A list's test, at the place: the check's own cause inside the list, nothing past its end.
module _ {A : Type 0} (r : Refusal) (n : Reason) (bad wrong : ℕ → Bool) (xs : List A) where
  list_tells : ((i : ℕ) → i < length xs → wrong i ≡ bad i) → ((i : ℕ) → length xs ≤ i → wrong i ≡ false) → Tells r (indexed n bad xs) (wrong r.place)
  list_tells same past =
      record {
        refused = λ e. let at = indexed-refused n bad xs r e in same r.place (let u = at.to in omega arith) ∙ is_true (bad r.place) at.holds;
        passed = λ e.
            elim (below_or_not r.place (length xs)) [
              | inl l ↦ same r.place l ∙ is_false (bad r.place) (indexed-passed n bad xs e r.place l)
              | inr l ↦ past r.place l
            ];
      }

within_list : {A : Type 0} (xs : List A) (i : ℕ) (b : Bool) → i < length xs → inside xs i b ≡ b
within_list xs i b l = rw (lt-leb (length xs) i l)

past_list : {A : Type 0} (xs : List A) (i : ℕ) (b : Bool) → length xs ≤ i → inside xs i b ≡ false
past_list xs i b l = rw (le-leb (length xs) i l)

-- The first whose test holds is blamed, and its check is the first that refused.
module _ (check : Whose → Check) (r : Refusal) where
  next : (c : Check) (cs : List Check) (b : Bool) (w rest : Whose) → Tells r c b → check w ≡ c → (first_of cs ≡ Err r → check rest ≡ Err r) → first_of (c ∷ cs) ≡ Err r → check (cond b w rest) ≡ Err r
  next c cs b w rest t e k h =
      elim (first_refused_lem c cs r h) [
        | inl p ↦ rw (t.refused p) (e ∙ p)
        | inr p ↦ rw (t.passed p.0) (k p.1)
      ]

  last : (c : Check) (w : Whose) → check w ≡ c → first_of (c ∷ []) ≡ Err r → check w ≡ Err r
  last c w e h = elim (first_refused_lem c [] r h) [ inl p ↦ e ∙ p | inr p ↦ absurd (none-refused r p.1) ]

-- ---- 3: days

leg_tells : (r : Refusal) (l : Leg) → LegCounted l → Tells r (leg_days l) (cashflow_day_wrong r.place l.days l.kinds)
unfolding cashflow_day_wrong
leg_tells r l k =
    list_tells r reason.Day _ (λ i. cashflow_day_wrong i l.days l.kinds) l.days
    (λ i u. within_list l.days i _ u ∙ within_list l.kinds i _ (let e = k.kinds_too in omega arith) ∙ rw (or_comm (ltb 1 (get_or l.kinds i 0)) (falls l.days i)))
    (λ i u. past_list l.days i _ u)

call_tells : (r : Refusal) (c : CallSchedule) → CallCounted c → Tells r (call_days c) (call_day_wrong r.place c.starts c.ends)
unfolding call_day_wrong
call_tells r c k =
    list_tells r reason.Day _ (λ i. call_day_wrong i c.starts c.ends) c.starts
    (λ i u. within_list c.starts i _ u ∙ within_list c.ends i _ (let e = k.entries.ends_too in omega arith))
    (λ i u. past_list c.starts i _ u)

-- ---- 4: numbers

amount_tells : (r : Refusal) (l : Leg) → Tells r (amount_range l) (amount_wrong r.place l.amounts)
unfolding amount_wrong
amount_tells r l = list_tells r reason.Number _ (λ i. amount_wrong i l.amounts) l.amounts (λ i u. within_list l.amounts i _ u) (λ i u. past_list l.amounts i _ u)

strike_tells : (r : Refusal) (c : CallSchedule) → Tells r (strike_range c) (strike_wrong r.place c.strikes)
unfolding strike_wrong
strike_tells r c = list_tells r reason.Number _ (λ i. strike_wrong i c.strikes) c.strikes (λ i u. within_list c.strikes i _ u) (λ i u. past_list c.strikes i _ u)

sigma_tells : (r : Refusal) (s : SigmaSchedule) → SigmaCounted s → Tells r (sigma_range s) (sigma_wrong r.place s.times s.sigmas)
unfolding sigma_wrong up_to_wrong
sigma_tells r s k =
    let e = k.sigmas_too in
    list_tells r reason.Number _ (λ i. sigma_wrong i s.times s.sigmas) s.times
    (λ i u. rw (lt-leb (length s.times) i u, lt-leb (length s.sigmas) i (omega arith)))
    (λ i u. rw (le-leb (length s.times) i u, le-leb (length s.sigmas) i (omega arith)))

-- ---- the laws

module _ (m : Market) (calls : CallSchedule) (r : Refusal) where
  days-blamed : Counted m calls → first_of (day_checks m calls) ≡ Err r → day_check m calls (blamed_day m calls r.place) ≡ Err r
  unfolding checks_of whose_day
  days-blamed k =
      next (day_check m calls) r _ _ _ Settlement _ (single_tells r reason.Day 0 (no_day m.settlement.day)) refl
      (next (day_check m calls) r _ _ _ Cashflow _ (leg_tells r m.bond.leg k.leg) refl
      (next (day_check m calls) r _ _ _ Call _ (call_tells r calls k.call) refl
      (last (day_check m calls) r _ Pillar refl)))

  abbrev entry : Whose
  entry = whose_number r.place m.bond.leg.amounts calls.strikes m.model.sigma.times m.model.sigma.sigmas

  abbrev field : Whose → Check
  field w = number_check m calls (or_else w entry)

  numbers-blamed : Counted m calls → first_of (number_checks m calls (float 1)) ≡ Err r → number_check m calls (blamed_number m calls r.place) ≡ Err r
  unfolding checks_of or_else whose_field whose_number
  numbers-blamed k =
      next field r _ _ _ Units _ (single_tells r reason.Number 0 (not_above amount_limit m.bond.units)) refl
      (next field r _ _ _ Alpha _ (single_tells r reason.Number 0 (beyond (float 10) m.model.alpha)) refl
      (next field r _ _ _ Spread Nobody (single_tells r reason.Number 0 (beyond (float 1) m.spread)) refl
      (next (number_check m calls) r _ _ _ Cashflow _ (amount_tells r m.bond.leg) refl
      (next (number_check m calls) r _ _ _ Call _ (strike_tells r calls) refl
      (next (number_check m calls) r _ _ _ Sigma _ (sigma_tells r m.model.sigma k.sigma) refl
      (last (number_check m calls) r _ Pillar refl))))))

  -- A check whose refusals have one number is blamed by that number.
  named : (n : Reason) (c : Check) → Numbers (reason_number n) (reason_number n) c → c ≡ Err r → order_check m calls (whose_order (reason_number n)) ≡ Err r → order_check m calls (whose_order (reason_number r.reason)) ≡ Err r
  named n c p h e = let b = p.between r h in let q : r.reason ≡ n = reason_by_number r.reason n (omega arith) in ap (λ (k : Reason). order_check m calls (whose_order (reason_number k))) q ∙ e

  by_number : (n : Reason) (c : Check) → Numbers (reason_number n) (reason_number n) c → order_check m calls (whose_order (reason_number n)) ≡ c → c ≡ Err r → order_check m calls (whose_order (reason_number r.reason)) ≡ Err r
  by_number n c p e h = named n c p h (e ∙ h)

  abbrev paid_check : Check
  paid_check = any_paid m.settlement.day m.bond.leg

  abbrev apart_check : Check
  apart_check = maturity_apart m.settlement m.bond.leg

  abbrev rising_check : Check
  rising_check = pillar_order m.settlement.day (last_day m.bond.leg.days) m.pillars

  abbrev timed_check : Check
  timed_check = pillars_apart m.settlement m.pillars

  abbrev positive_check : Check
  positive_check = positive_factors m.pillars

  -- 8, 34, 35 and 44, where 33 and 7 passed.
  late-blamed : day_count m.settlement.code ≡ Ok tt → paid_check ≡ Ok tt → first_of (rising_check ∷ timed_check ∷ apart_check ∷ positive_check ∷ []) ≡ Err r → order_check m calls (whose_order (reason_number r.reason)) ≡ Err r
  unfolding checks_of whose_order
  late-blamed k p h =
      elim (first_refused_lem _ _ r h) [
        | inl e ↦ named reason.PillarOrder rising_check (search numbers) e (first_refusal [] rising_check r (timed_check ∷ positive_check ∷ []) tt e)
        | inr a ↦
            elim (first_refused_lem _ _ r a.1) [
              | inl e ↦ named reason.SameTime timed_check (search numbers) e (first_refusal (rising_check ∷ []) timed_check r (positive_check ∷ []) (a.0, tt) e)
              | inr b ↦
                  elim (first_refused_lem _ _ r b.1) [
                    | inl e ↦ named reason.NoTime apart_check (search numbers) e (first_refusal (day_count m.settlement.code ∷ paid_check ∷ []) apart_check r [] (k, (p, tt)) e)
                    | inr c ↦
                        elim (first_refused_lem _ _ r c.1) [
                          | inl e ↦ named reason.FactorNotPositive positive_check (search numbers) e (first_refusal (rising_check ∷ timed_check ∷ []) positive_check r [] (a.0, (b.0, tt)) e)
                          | inr d ↦ absurd (none-refused r d.1)
                        ]
                  ]
            ]
      ]

  orders-blamed : first_of (code_check m calls) ≡ Ok tt → first_of (order_checks m calls) ≡ Err r → order_check m calls (whose_order (reason_number r.reason)) ≡ Err r
  unfolding checks_of whose_order
  orders-blamed k h =
      let code = (passes_of_first (code_check m calls) k).0 in
      elim (first_refused_lem _ _ r h) [
        | inl e ↦ by_number reason.CallOrder (call_order calls) (search numbers) refl e
        | inr a ↦
            elim (first_refused_lem _ _ r a.1) [
              | inl e ↦ by_number reason.SigmaOrder (sigma_order m.model.sigma) (search numbers) refl e
              | inr b ↦
                  elim (first_refused_lem _ _ r b.1) [
                    | inl e ↦ named reason.NothingPaid paid_check (search numbers) e (first_refusal (day_count m.settlement.code ∷ []) paid_check r (apart_check ∷ []) (code, tt) e)
                    | inr c ↦ late-blamed code c.0 c.1
                  ]
            ]
      ]

  steps-blamed : first_of (steps_check m calls) ≡ Err r → order_check m calls (whose_order (reason_number r.reason)) ≡ Err r
  unfolding checks_of whose_order
  steps-blamed h =
      elim (first_refused_lem _ _ r h) [
        | inl e ↦ by_number reason.Setting (settings m.controls) (search numbers) refl e
        | inr a ↦ absurd (none-refused r a.1)
      ]

  code-blamed : first_of (code_check m calls) ≡ Err r → order_check m calls (whose_order (reason_number r.reason)) ≡ Err r
  unfolding checks_of whose_order
  code-blamed h =
      elim (first_refused_lem _ _ r h) [
        | inl e ↦ named reason.DayCount (day_count m.settlement.code) (search numbers) e (first_refusal [] (day_count m.settlement.code) r (paid_check ∷ apart_check ∷ []) tt e)
        | inr a ↦ absurd (none-refused r a.1)
      ]

module _ (limit : Float) (m : Market) (calls : CallSchedule) (r : Refusal) (h : market_checks limit (with_puts m no_entries) calls ≡ Err r) where
  -- 3: settlement, a cashflow, a call or a pillar.
  pub blamed_day_lem : (reason_number r.reason) ≡ 3 → day_check m calls (blamed_day m calls r.place) ≡ Err r
  blamed_day_lem n =
      elim (refusing m calls limit r h) [
        | by_steps a e ↦ absurd (omega arith)
        | by_code a e ↦ absurd (omega arith)
        | by_counts a ↦ absurd (omega arith)
        | by_days a k e ↦ days-blamed m calls r k e
        | by_numbers a k e ↦ absurd (omega arith)
        | by_orders a k e ↦ absurd (omega arith)
      ]

  -- Any number but 2, 3 and 4: the steps, a call, a sigma entry, settlement or a pillar.
  pub blamed-order : ((reason_number r.reason) ≡ 2 → ⊥) → ((reason_number r.reason) ≡ 3 → ⊥) → ((reason_number r.reason) ≡ 4 → ⊥) → order_check m calls (whose_order (reason_number r.reason)) ≡ Err r
  blamed-order not-2 not-3 not_4 =
      elim (refusing m calls limit r h) [
        | by_steps a e ↦ steps-blamed m calls r e
        | by_code a e ↦ code-blamed m calls r e
        | by_counts a ↦ absurd (not-2 a)
        | by_days a k e ↦ absurd (not-3 a)
        | by_numbers a k e ↦ absurd (not_4 a)
        | by_orders a k e ↦ orders-blamed m calls r k e
      ]

-- 4, where the spread's limit is 1: units, alpha, spread, a cashflow, a call, a sigma entry or a pillar.
pub blamed_number_lem : (m : Market) (calls : CallSchedule) (r : Refusal) → market_checks (float 1) (with_puts m no_entries) calls ≡ Err r → (reason_number r.reason) ≡ 4 → number_check m calls (blamed_number m calls r.place) ≡ Err r
blamed_number_lem m calls r h n =
    elim (refusing m calls (float 1) r h) [
      | by_steps a e ↦ absurd (omega arith)
      | by_code a e ↦ absurd (omega arith)
      | by_counts a ↦ absurd (omega arith)
      | by_days a k e ↦ absurd (omega arith)
      | by_numbers a k e ↦ numbers-blamed m calls r k e
      | by_orders a k e ↦ absurd (omega arith)
    ]

-- The tree value's refusals, but for 2, the counts: as the line is found.
pub blamed-tree : (m : Market) (calls : CallSchedule) (r : Refusal) → tree_checks (with_puts m no_entries) calls ≡ Err r → ((reason_number r.reason) ≡ 2 → ⊥) → check_of m calls (reason_number r.reason) (blamed m calls r) ≡ Err r
unfolding tree_checks
blamed-tree m calls r h not-2 =
    elim (refusing m calls (float 1) r h) [
      | by_steps a e ↦ rw (ne_eqb (reason_number r.reason) 3 (λ q. omega arith), ne_eqb (reason_number r.reason) 4 (λ q. omega arith)) (steps-blamed m calls r e)
      | by_code a e ↦ rw (ne_eqb (reason_number r.reason) 3 (λ q. omega arith), ne_eqb (reason_number r.reason) 4 (λ q. omega arith)) (code-blamed m calls r e)
      | by_counts a ↦ absurd (not-2 a)
      | by_days a k e ↦ rw (eq-eqb (reason_number r.reason) 3 a) (days-blamed m calls r k e)
      | by_numbers a k e ↦ rw (ne_eqb (reason_number r.reason) 3 (λ q. omega arith), eq-eqb (reason_number r.reason) 4 a) (numbers-blamed m calls r k e)
      | by_orders a k e ↦ rw (ne_eqb (reason_number r.reason) 3 (λ q. omega arith), ne_eqb (reason_number r.reason) 4 (λ q. omega arith)) (orders-blamed m calls r k e)
    ]

-- Somebody is blamed.
pub blamed-somebody : (m : Market) (calls : CallSchedule) (r : Refusal) → tree_checks (with_puts m no_entries) calls ≡ Err r → ((reason_number r.reason) ≡ 2 → ⊥) → blamed m calls r ≡ Nobody → ⊥
unfolding checks_of
blamed-somebody m calls r h not-2 e =
    passed_not_refused _ r (ap (check_of m calls (reason_number r.reason)) e ∙ all_pass (eqb (reason_number r.reason) 3) (eqb (reason_number r.reason) 4)) (blamed-tree m calls r h not-2)
  where
    all_pass : (a b : Bool) → ◌≡◌ {A = Check} (cond a (Ok tt) (cond b (Ok tt) (Ok tt))) (Ok tt)
    all_pass true b = refl
    all_pass false true = refl
    all_pass false false = refl
