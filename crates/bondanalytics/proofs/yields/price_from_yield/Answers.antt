-- `yields::price_from_yield` meets its contract. Assumes nothing.
use Rattle.std.proofs.Common.{rules}
use Rattle.bondanalytics.proofs.Entering.{same_count, price-refused, price-unknown, price-given}
use Rattle.bondanalytics.proofs.yields.price_from_yield.Goals as goal

pub returns-in_err-price_checks : goal.returns-in_err-price_checks
returns-in_err-price_checks c =
    price-refused _ _ _ _ _ _ c.rate_of-found.ensures c.rate_check.ensures c.price_checks.ensures c.in_err-price_checks.was (search rules)

pub returns-in_err-rate : goal.returns-in_err-rate
returns-in_err-rate c =
    price-unknown _ _ _ _ _ _ c.rate_of-found.ensures c.rate_check.ensures c.price_checks.ensures c.in_ok-price_checks.was c.in_err-rate.was (search rules)

pub yield_price_and_derivative-requires : goal.yield_price_and_derivative-requires
yield_price_and_derivative-requires c =
    same_count _ _ _ _ _ _ c.rate_of-found.result c.rate_of-found.ensures c.rate_check.ensures c.price_checks.ensures c.in_ok-price_checks.was

pub returns : goal.returns
returns c =
    price-given _ _ _ _ _ _ c.rate_of-found.ensures c.rate_check.ensures c.price_checks.ensures c.epoch_of-epoch.ensures c.in_ok-price_checks.was c.in_ok-rate.was c.yield_price_and_derivative.ensures
