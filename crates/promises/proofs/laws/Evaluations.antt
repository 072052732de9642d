-- Yield from price and spread from price make at most 386 evaluations, none where the input is refused. Assumes nothing.
use Rattle.std.specs.Prelude.{ℕ, ◌≤◌, ◌≡◌, refl, Float, Ok, Err}
use native.Mathlib.Omega.{arith}
use Rattle.floats.specs.Refusals.{Refusal}
use Rattle.floats.specs.Answers.{Check, Outcome, on_outcome}
use Rattle.terms.specs.declared.Settlement.{Settlement}
use Rattle.terms.specs.Times.{epoch_of}
use Rattle.terms.specs.Terms.{Leg}
use Rattle.terms.specs.Checks.{on_check}
use Rattle.terms.specs.Entries.{target_checks}
use Rattle.interestrate.specs.declared.RateDefinition.{RateDefinition}
use Rattle.interestrate.specs.Rates.{rate_of, rate_check, lowest_yield}
use Rattle.sought.specs.Objectives.{objective, first_lower, first_upper}
use Rattle.brackets.specs.declared.Root.{Root}
use Rattle.brackets.specs.Brackets.{Searched, no_root, evaluations_of}
use Rattle.brackets.specs.laws.Evaluations.{at_most_386}
use Rattle.bondanalytics.specs.Yields.{solve_yield, yield_from_price}
use Rattle.spreads.specs.Spreads.{quoted_checks, spread_from_price}
use Rattle.promises.specs.Evaluations.{EveryYield, EverySpread}
use Rattle.promises.proofs.laws.SpreadPromise.{spreads_at_most_386}

-- Where the input is refused there are none.
refused_none : (c : Check) (go : Searched Root) (r : Refusal) → c ≡ Err r → evaluations_of (on_check c (λ q. no_root q 0) go) ≡ 0
unfolding on_check
refused_none (Ok tt) go r e = absurd (let z : ◌≡◌ {A = ℕ} 0 1 = cc in omega arith)
refused_none (Err q) go r e = refl

checked : (c : Check) (go : Searched Root) → evaluations_of go ≤ 386 → evaluations_of (on_check c (λ q. no_root q 0) go) ≤ 386
unfolding on_check
checked (Ok tt) go h = h
checked (Err q) go h = omega arith

module _ (settlement : Settlement) (leg : Leg) (target : Float) where
  solved : (o : Outcome RateDefinition) → evaluations_of (on_outcome o (λ r. no_root r 0) λ rate. solve_yield (epoch_of settlement) leg rate target) ≤ 386
  unfolding on_outcome
  solved (Ok rate) = at_most_386 (objective (epoch_of settlement) leg rate target) first_lower first_upper (lowest_yield rate.compounding)
  solved (Err r) = omega arith

pub every-yield : EveryYield
unfolding yield_from_price
every-yield settlement leg compounding frequency target =
    record {
      at_most_386 = checked (target_checks settlement leg target (rate_check compounding frequency)) _ (solved settlement leg target (rate_of compounding frequency));
      none = λ r e. refused_none (target_checks settlement leg target (rate_check compounding frequency)) _ r e;
    }

pub every-spread : EverySpread
unfolding spread_from_price
every-spread asked calls room = record { at_most_386 = spreads_at_most_386 asked calls room; none = λ r e. refused_none (quoted_checks asked calls) _ r e }
