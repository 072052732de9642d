-- Definitions only. Price from yield and yield from price.
use Rattle.std.specs.Prelude.{ℕ, Float, Ok, Err}
use Rattle.floats.specs.Answers.{plus_zero, Outcome, on_outcome}
use Rattle.floats.specs.Reasons.{reason_number}
use Rattle.terms.specs.declared.Settlement.{Settlement}
use Rattle.terms.specs.declared.Epoch.{Epoch}
use Rattle.terms.specs.Terms.{Leg}
use Rattle.terms.specs.Times.{epoch_of}
use Rattle.terms.specs.Checks.{on_check}
use Rattle.terms.specs.Entries.{price_checks, target_checks, yield_checks}
use Rattle.interestrate.specs.declared.RateDefinition.{RateDefinition}
use Rattle.interestrate.specs.declared.YieldPrice.{YieldPrice}
use Rattle.brackets.specs.declared.Root.{Root}
use Rattle.interestrate.specs.Rates.{rate_of, rate_check, lowest_yield}
use Rattle.interestrate.specs.Prices.{flows, price_and_derivative}
use Rattle.brackets.specs.Brackets.{Searched, no_root, bracketed_root}
use Rattle.sought.specs.Objectives.{objective, first_lower, first_upper}

-- Price from yield: the price and its derivative.
unfoldable pub price_from_yield : Settlement → Leg → ℕ → ℕ → Float → Outcome YieldPrice
unfolding yield_checks rate_of flows
price_from_yield settlement leg compounding frequency y =
    on_check (price_checks settlement leg y (rate_check compounding frequency)) Err
    (on_outcome (rate_of compounding frequency) Err λ rate. price_and_derivative (epoch_of settlement) leg rate y)

-- solve_yield
abbrev pub solve_yield : Epoch → Leg → RateDefinition → Float → Searched Root
solve_yield settlement leg rate target =
    bracketed_root (objective settlement leg rate target) first_lower first_upper (lowest_yield rate.compounding)

-- Yield from price: the yield and the evaluations, 0 where the input is refused.
unfoldable pub yield_from_price : Settlement → Leg → ℕ → ℕ → Float → Searched Root
unfolding yield_checks rate_of bracketed_root objective
yield_from_price settlement leg compounding frequency target =
    on_check (target_checks settlement leg target (rate_check compounding frequency)) (λ r. no_root r 0)
    (on_outcome (rate_of compounding frequency) (λ r. no_root r 0) λ rate. solve_yield (epoch_of settlement) leg rate target)

-- ---- 01's number and values for each case

abbrev pub price_number : Outcome YieldPrice → ℕ
price_number (Ok p) = 0
price_number (Err r) = reason_number r.reason

abbrev pub price_place : Outcome YieldPrice → ℕ
price_place (Ok p) = 0
price_place (Err r) = r.place

abbrev pub price_of : Outcome YieldPrice → Float
price_of (Ok v) = v.price
price_of (Err r) = plus_zero

abbrev pub derivative_of : Outcome YieldPrice → Float
derivative_of (Ok v) = v.derivative
derivative_of (Err r) = plus_zero
