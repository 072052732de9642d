-- Which of the tree's checks refused, of a bond without puts, by the number of the refusal: the settings, then the counts, the days, the numbers and the orders. Assumes nothing.
use Rattle.floats.specs.Reasons.{reason_number}
use Rattle.floats.specs.declared.Reason.{Reason}
use Rattle.std.specs.Prelude.{ℕ, ◌≤◌, ◌<◌, ◌≡◌, ◌⊎◌, Bool, true, false, List, [], ◌∷◌, ◌++◌, Float, Ok, Err}
use Rattle.std.proofs.Math.Path.{refl}
use Rattle.std.proofs.Common.{sym, ◌∙◌, inl, inr, arith, rules}
use Rattle.floats.specs.Refusals.{Refusal}
use Rattle.floats.specs.Answers.{Check}
use Rattle.terms.specs.Terms.{CallSchedule, Market, no_entries, with_puts}
use Rattle.terms.specs.Checks.{on_check, first_of, single, lowest, settings, day_count, leg_count, call_count, settlement_day, leg_days, call_days, pillar_days, amount_range, strike_range, call_order, sigma_order, any_paid}
use Rattle.terms.specs.Entries.{model_counts, tree_fields, model_numbers, late_checks, market_checks}
use Rattle.terms.specs.laws.Sequence.{passed_not_refused, all, groups_of_first, lowest-refused}
use Rattle.terms.specs.laws.TermChecks.{LegCounted, leg-counted, SigmaCounted, sigma-counted}
use Rattle.terms.specs.laws.CallChecks.{CallCounted, call-counted}
use Rattle.terms.specs.laws.Stages.{in_stages}

-- ---- the first of a list that refuses

pub first_refused_lem : (c : Check) (cs : List Check) (r : Refusal) → first_of (c ∷ cs) ≡ Err r → (c ≡ Err r) ⊎ ((c ≡ Ok tt) × (first_of cs ≡ Err r))
unfolding first_of on_check
first_refused_lem (Ok tt) cs r h = inr (refl, h)
first_refused_lem (Err q) cs r h = inl h

pub none-refused : (r : Refusal) → first_of [] ≡ Err r → ⊥
unfolding first_of
none-refused r h = passed_not_refused (Ok tt) r refl h

-- ---- the numbers of a check's refusals

pub record Numbers (low high : ℕ) (c : Check) : Type 0 where
  pub between : (r : Refusal) → c ≡ Err r → (low ≤ reason_number r.reason) × (reason_number r.reason ≤ high)

module _ {low high : ℕ} where
  pub single-numbers : (n : Reason) (place : ℕ) (b : Bool) → low ≤ reason_number n → reason_number n ≤ high → Numbers low high (single n place b)
  single-numbers n place true l h =
      record { between = λ r e. let q : record { reason = n; place = place } ≡ r = cc in rw (← q) (l, h) }
  single-numbers n place false l h = record { between = λ r e. absurd (passed_not_refused (Ok tt) r refl e) }

  pub lowest-numbers : (n : Reason) (bad : ℕ → Bool) (count i : ℕ) → low ≤ reason_number n → reason_number n ≤ high → Numbers low high (lowest n bad count i)
  lowest-numbers n bad count i l h =
      record { between = λ r e. let q = (lowest-refused n bad count i r e).same_reason in rw q (l, h) }

  pub none-numbers : Numbers low high (first_of [])
  none-numbers = record { between = λ r e. absurd (none-refused r e) }

  pub first_numbers_lem : (c : Check) (cs : List Check) → Numbers low high c → Numbers low high (first_of cs) → Numbers low high (first_of (c ∷ cs))
  first_numbers_lem c cs p q =
      record {
        between = λ r e. elim (first_refused_lem c cs r e) [ inl h ↦ p.between r h | inr h ↦ q.between r h.1 ];
      }

pub ruleset numbers = (single-numbers, lowest-numbers, none-numbers, first_numbers_lem, rules)

-- ---- the tree's checks by their number

module _ (m : Market) (calls : CallSchedule) where
  abbrev pub count_checks : List Check
  count_checks = leg_count m.bond.leg ∷ call_count calls ∷ model_counts m.model.sigma m.pillars

  abbrev pub day_checks : List Check
  day_checks = settlement_day m.settlement.day ∷ leg_days m.bond.leg ∷ call_days calls ∷ pillar_days m.pillars ∷ []

  abbrev pub number_checks : Float → List Check
  number_checks limit = tree_fields limit m.bond.units m.model.alpha m.spread ++ amount_range m.bond.leg ∷ strike_range calls ∷ model_numbers m.model.sigma m.pillars

  abbrev pub order_checks : List Check
  order_checks = call_order calls ∷ sigma_order m.model.sigma ∷ any_paid m.settlement.day m.bond.leg ∷ late_checks m.settlement m.bond.leg m.pillars

  -- 1, and 33.
  abbrev pub steps_check : List Check
  steps_check = settings m.controls ∷ []

  abbrev pub code_check : List Check
  code_check = day_count m.settlement.code ∷ []

  steps-numbers : Numbers 1 1 (first_of steps_check)
  steps-numbers = search numbers

  code-numbers : Numbers 33 33 (first_of code_check)
  code-numbers = search numbers

  count-numbers : Numbers 2 2 (first_of count_checks)
  count-numbers = search numbers depth 24

  day-numbers : Numbers 3 3 (first_of day_checks)
  day-numbers = search numbers depth 24

  number-numbers : (limit : Float) → Numbers 4 4 (first_of (number_checks limit))
  number-numbers limit = search numbers depth 24

  order-numbers : Numbers 5 44 (first_of order_checks)
  order-numbers = search numbers depth 24

  -- Where the counts are passed.
  pub record Counted : Type 0 where
    pub leg : LegCounted m.bond.leg
    pub call : CallCounted calls
    pub sigma : SigmaCounted m.model.sigma

  counted : first_of count_checks ≡ Ok tt → Counted
  counted h =
      let g = groups_of_first ((leg_count m.bond.leg ∷ call_count calls ∷ []) ∷ model_counts m.model.sigma m.pillars ∷ []) h in
      record {
        leg = leg-counted m.bond.leg g.0.0;
        call = call-counted calls g.0.1.0;
        sigma = sigma-counted m.model.sigma g.1.0.0;
      }

  -- Which group a refusal came from; those before it passed.
  pub data Refusing (limit : Float) (r : Refusal) : Type 0 where
    by_steps : reason_number r.reason ≡ 1 → first_of steps_check ≡ Err r → Refusing limit r
    by_code : reason_number r.reason ≡ 33 → first_of code_check ≡ Err r → Refusing limit r
    by_counts : reason_number r.reason ≡ 2 → Refusing limit r
    by_days : reason_number r.reason ≡ 3 → Counted → first_of day_checks ≡ Err r → Refusing limit r
    by_numbers : reason_number r.reason ≡ 4 → Counted → first_of (number_checks limit) ≡ Err r → Refusing limit r
    by_orders : 4 < reason_number r.reason → first_of code_check ≡ Ok tt → first_of order_checks ≡ Err r → Refusing limit r

  -- A bond without puts: their checks are passed, so that those of the others are left.
  without_puts : (limit : Float) → market_checks limit (with_puts m no_entries) calls ≡ first_of (all (steps_check ∷ code_check ∷ count_checks ∷ day_checks ∷ number_checks limit ∷ order_checks ∷ []))
  unfolding market_checks first_of on_check lowest
  without_puts limit = refl

  in_groups : (limit : Float) → market_checks limit (with_puts m no_entries) calls ≡ first_of (first_of steps_check ∷ first_of code_check ∷ first_of count_checks ∷ first_of day_checks ∷ first_of (number_checks limit) ∷ first_of order_checks ∷ [])
  in_groups limit = without_puts limit ∙ in_stages (steps_check ∷ code_check ∷ count_checks ∷ day_checks ∷ number_checks limit ∷ order_checks ∷ [])

  pub refusing : (limit : Float) (r : Refusal) → market_checks limit (with_puts m no_entries) calls ≡ Err r → Refusing limit r
  refusing limit r h =
      elim (first_refused_lem _ _ r (sym (in_groups limit) ∙ h)) [
        | inl e ↦ let b = steps-numbers.between r e in by_steps (omega arith) e
        | inr s ↦
            elim (first_refused_lem _ _ r s.1) [
              | inl e ↦ let b = code-numbers.between r e in by_code (omega arith) e
              | inr k ↦ later k.0 k.1
            ]
      ]
    where
      later : first_of code_check ≡ Ok tt → first_of (first_of count_checks ∷ first_of day_checks ∷ first_of (number_checks limit) ∷ first_of order_checks ∷ []) ≡ Err r → Refusing limit r
      later k l =
          elim (first_refused_lem _ _ r l) [
            | inl e ↦ let b = count-numbers.between r e in by_counts (omega arith)
            | inr b ↦
                let c = counted b.0 in
                elim (first_refused_lem _ _ r b.1) [
                  | inl e ↦ let n = day-numbers.between r e in by_days (omega arith) c e
                  | inr d ↦
                      elim (first_refused_lem _ _ r d.1) [
                        | inl e ↦ let n = (number-numbers limit).between r e in by_numbers (omega arith) c e
                        | inr f ↦
                            elim (first_refused_lem _ _ r f.1) [
                              | inl e ↦ let n = order-numbers.between r e in by_orders (omega arith) k e
                              | inr g ↦ absurd (none-refused r g.1)
                            ]
                      ]
                ]
          ]
