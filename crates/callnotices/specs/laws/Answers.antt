-- What the entry answers where the checks pass and where they don't, and what passed checks say of the notices. Assumes nothing.
use Rattle.std.specs.Prelude.{◌≡◌, refl, [], ◌∷◌, ℕ, get_or, Ok, Err}
use Rattle.std.proofs.Common.{sym, ◌∙◌, arith}
use Rattle.std.proofs.Math.Path.{ap}
use Rattle.floats.specs.Refusals.{Refusal}
use Rattle.floats.specs.Answers.{Check}
use Rattle.floats.specs.Reasons.{refusal_number}
use Rattle.floats.specs.laws.Reasons.{reason-above_zero}
use Rattle.terms.specs.Checks.{on_check}
use Rattle.callnotices.specs.declared.CallList.{CallList}
use Rattle.callnotices.specs.Notices.{Notices}
use Rattle.callnotices.specs.Standing.{entries}
use Rattle.callnotices.specs.Checks.{notice_count, too_many, notice_range, no_repeats, set_days, set_strikes, set_order, notice_checks}
use Rattle.callnotices.specs.Lists.{list_of, refused_list, call_list}
use Rattle.callnotices.specs.laws.Stages.{passed_at, Counted, notice_counts, notice_fields, set_fields, notices_in_stages, counted}

module _ (n : Notices) where
  pub accepted : {c : Check} {r : CallList} → c ≡ notice_checks n → c ≡ Ok tt → r ≡ list_of n (entries n) → r ≡ call_list n
  unfolding call_list on_check
  accepted e p q = q ∙ ap (λ (c : Check). on_check c refused_list (list_of n (entries n))) (sym p ∙ e)

  pub refused : {c : Check} {q : Refusal} {r : CallList} → c ≡ notice_checks n → c ≡ Err q → r ≡ refused_list q → r ≡ call_list n
  unfolding call_list on_check
  refused e p q = q ∙ ap (λ (c : Check). on_check c refused_list (list_of n (entries n))) (sym p ∙ e)

  -- As many of each field, 256 at most.
  pub passed_counted : {c : Check} → c ≡ notice_checks n → c ≡ Ok tt → Counted n
  passed_counted e p =
      counted n
      (passed_at
      (notice_counts n ∷ notice_fields n.series n.versions n.actions ∷ set_fields n.actions n.starts n.ends n.strikes ∷ [])
      (sym (notices_in_stages n) ∙ sym e ∙ p)
      0)

  -- Each check passed: 0 is 2's, 1 is 41's, then 42's, 43's, 3's, 4's and 5's.
  pub passed-each : notice_checks n ≡ Ok tt → (i : ℕ) → get_or (notice_count n ∷ too_many n.series ∷ notice_range n.series n.versions n.actions ∷ no_repeats n.series n.versions ∷ set_days n.actions n.starts n.ends ∷ set_strikes n.actions n.strikes ∷ set_order n.actions n.starts n.ends ∷ []) i (Ok tt) ≡ Ok tt
  unfolding notice_checks
  passed-each h =
      passed_at
      (notice_count n ∷ too_many n.series ∷ notice_range n.series n.versions n.actions ∷ no_repeats n.series n.versions ∷ set_days n.actions n.starts n.ends ∷ set_strikes n.actions n.strikes ∷ set_order n.actions n.starts n.ends ∷ [])
      h

-- An accepted list comes from passed checks.
pub passed_of : (n : Notices) → refusal_number (call_list n).refusal ≡ 0 → notice_checks n ≡ Ok tt
passed_of n h = go (notice_checks n) refl
  where
    go : (c : Check) → c ≡ notice_checks n → c ≡ Ok tt
    go (Ok tt) e = refl
    go (Err r) e =
        absurd
        (let q = ap (λ (l : CallList). refusal_number l.refusal) (refused n e refl refl) in
        let z = reason-above_zero r.reason in
        omega arith)
