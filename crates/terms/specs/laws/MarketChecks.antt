-- The checks that the tree value and spread from price share, with a limit for the spread or the target, are passed exactly where
-- those of each group are. Assumes nothing.
use Rattle.std.specs.Prelude.{◌≡◌, List, [], ◌∷◌, ◌++◌, ◌≤◌, length, Float, Ok, Err}
use Rattle.std.proofs.Math.Path.{refl}
use Rattle.std.proofs.Common.{◌∙◌}
use Rattle.floats.specs.Refusals.{Refusal}
use Rattle.floats.specs.Answers.{Check}
use Rattle.terms.specs.Numbers.{float}
use Rattle.terms.specs.Terms.{CallSchedule, Market, with_spread, with_puts}
use Rattle.terms.specs.Checks.{first_of, call_count, call_days, pillar_days, units_range, within, amount_range, strike_range, sigma_order, any_paid}
use Rattle.terms.specs.Entries.{setting_checks, grid_counts, most_checks, grid_days, list_numbers, call_orders, grid_checks, model_counts, tree_fields, model_numbers, late_checks, market_checks, tree_checks}
use Rattle.terms.specs.laws.Sequence.{Passes, all, all_pass, groups_of_first, first_refusal, first_of_one, first_of-other}
use Rattle.terms.specs.laws.TermChecks.{pillars-counted}
use Rattle.terms.specs.laws.Groups.{CallsPassed, MarketPassed}
use Rattle.terms.specs.laws.PutChecks.{puts-passed, puts-counted, puts-most}
use Rattle.terms.specs.laws.GridChecks.{grid-passed}

module _ (m : Market) (calls : CallSchedule) where
  -- the groups before the spread, or the target in its place
  abbrev spread-before : List (List Check)
  spread-before =
      setting_checks m.controls m.settlement.code
      ∷ grid_counts m.bond.leg calls m.bond.puts
      ∷ model_counts m.model.sigma m.pillars
      ∷ most_checks m.bond.puts
      ∷ grid_days m.settlement.day m.bond.leg calls m.bond.puts
      ∷ (pillar_days m.pillars ∷ [])
      ∷ (units_range m.bond.units ∷ within (float 10) m.model.alpha ∷ [])
      ∷ []

  -- and after the strikes of calls and puts
  abbrev market-rest : List (List Check)
  market-rest =
      model_numbers m.model.sigma m.pillars
      ∷ call_orders calls m.bond.puts
      ∷ (sigma_order m.model.sigma ∷ any_paid m.settlement.day m.bond.leg ∷ [])
      ∷ late_checks m.settlement m.bond.leg m.pillars
      ∷ []

  -- and after the calls' strikes
  abbrev market-after : List (List Check)
  market-after = (strike_range m.bond.puts ∷ []) ∷ market-rest

  abbrev spread-after : List (List Check)
  spread-after = list_numbers m.bond.leg calls m.bond.puts ∷ market-rest

module _ (limit : Float) (m : Market) (calls : CallSchedule) where
  abbrev market-before : List Check
  market-before = all (spread-before m calls) ++ (within limit m.spread ∷ amount_range m.bond.leg ∷ [])

  market-split : market_checks limit m calls ≡ first_of (market-before ++ (strike_range calls ∷ all (market-after m calls)))
  unfolding market_checks
  market-split = refl

  -- Every group is passed.
  record MarketGroups : Type 0 where
    setting : Passes (setting_checks m.controls m.settlement.code)
    counts : Passes (grid_counts m.bond.leg calls m.bond.puts)
    model_counts_lem : Passes (model_counts m.model.sigma m.pillars)
    most : Passes (most_checks m.bond.puts)
    days : Passes (grid_days m.settlement.day m.bond.leg calls m.bond.puts)
    pillar_days_lem : pillar_days m.pillars ≡ Ok tt
    fields : Passes (tree_fields limit m.bond.units m.model.alpha m.spread)
    lists : Passes (list_numbers m.bond.leg calls m.bond.puts)
    model_numbers_lem : Passes (model_numbers m.model.sigma m.pillars)
    orders : Passes (call_orders calls m.bond.puts)
    later-orders : Passes (sigma_order m.model.sigma ∷ any_paid m.settlement.day m.bond.leg ∷ [])
    late : Passes (late_checks m.settlement m.bond.leg m.pillars)

  market_groups : market_checks limit m calls ≡ Ok tt → MarketGroups
  unfolding market_checks
  market_groups h =
      let g =
      groups_of_first
      (setting_checks m.controls m.settlement.code
      ∷ grid_counts m.bond.leg calls m.bond.puts
      ∷ model_counts m.model.sigma m.pillars
      ∷ most_checks m.bond.puts
      ∷ grid_days m.settlement.day m.bond.leg calls m.bond.puts
      ∷ (pillar_days m.pillars ∷ [])
      ∷ tree_fields limit m.bond.units m.model.alpha m.spread
      ∷ list_numbers m.bond.leg calls m.bond.puts
      ∷ market-rest m calls)
      h in
      record {
        setting = g.0;
        counts = g.1.0;
        model_counts_lem = g.1.1.0;
        most = g.1.1.1.0;
        days = g.1.1.1.1.0;
        pillar_days_lem = g.1.1.1.1.1.0.0;
        fields = g.1.1.1.1.1.1.0;
        lists = g.1.1.1.1.1.1.1.0;
        model_numbers_lem = g.1.1.1.1.1.1.1.1.0;
        orders = g.1.1.1.1.1.1.1.1.1.0;
        later-orders = g.1.1.1.1.1.1.1.1.1.1.0;
        late = g.1.1.1.1.1.1.1.1.1.1.1.0;
      }

  pub market-terms : market_checks limit m calls ≡ Ok tt → MarketPassed limit m
  market-terms h =
      let g = market_groups h in
      record {
        grid = record {
          steps = g.setting.0;
          leg = record {
            code = g.setting.1.0;
            settled = g.days.0;
            counted = g.counts.0;
            days = g.days.1.0;
            amounts = g.lists.0;
            paid = g.later-orders.1.0;
          };
          units = g.fields.0;
          puts = puts-passed m.bond.puts g.counts.1.1.0 g.most.0 g.days.1.1.1.0 g.lists.1.1.0 g.orders.1.0;
          apart = g.late.1.1.0;
        };
        sigma = record {
          counted = g.model_counts_lem.0;
          numbers = g.model_numbers_lem.0;
          ordered = g.later-orders.0;
        };
        pillars = record {
          counted = g.model_counts_lem.1.0;
          days = g.pillar_days_lem;
          factors = g.model_numbers_lem.1.0;
          ordered = g.late.0;
          apart = g.late.1.0;
          positive = g.late.1.1.1.0;
        };
        alpha = g.fields.1.0;
        spread = g.fields.1.1.0;
      }

  pub market-calls : market_checks limit m calls ≡ Ok tt → CallsPassed calls
  market-calls h =
      let g = market_groups h in
      record {
        counted = g.counts.1.0;
        days = g.days.1.1.0;
        strikes = g.lists.1.0;
        ordered = g.orders.0;
      }

  market-front : MarketPassed limit m → call_count calls ≡ Ok tt → call_days calls ≡ Ok tt → Passes market-before
  market-front t counted days =
      all_pass (spread-before m calls ++ ((within limit m.spread ∷ amount_range m.bond.leg ∷ []) ∷ [])) (
        (t.grid.steps, (t.grid.leg.code, tt)),
        (
          (t.grid.leg.counted, (counted, (puts-counted m.bond.puts t.grid.puts, tt))),
          (
            (t.sigma.counted, (t.pillars.counted, tt)),
            (
              (puts-most m.bond.puts t.grid.puts, tt),
              (
                (t.grid.leg.settled, (t.grid.leg.days, (days, (t.grid.puts.days, tt)))),
                (
                  (t.pillars.days, tt),
                  (
                    (t.grid.units, (t.alpha, tt)),
                    ((t.spread, (t.grid.leg.amounts, tt)), tt),
                  ),
                ),
              ),
            ),
          ),
        ),
      )

  pub market-passed : MarketPassed limit m → CallsPassed calls → market_checks limit m calls ≡ Ok tt
  market-passed t k =
      market-split
      ∙ first_of_one market-before (strike_range calls) (all (market-after m calls)) (market-front t k.counted k.days)
      (all_pass (market-after m calls) (
        (t.grid.puts.strikes, tt),
        (
          (t.sigma.numbers, (t.pillars.factors, tt)),
          (
            (k.ordered, (t.grid.puts.ordered, tt)),
            (
              (t.sigma.ordered, (t.grid.leg.paid, tt)),
              ((t.pillars.ordered, (t.pillars.apart, (t.grid.apart, (t.pillars.positive, tt)))), tt),
            ),
          ),
        ),
      ))
      ∙ k.strikes

  -- What stands before the strikes is passed, and a strike is refused: that is the answer.
  pub market-strike-refused : (r : Refusal) → MarketPassed limit m → call_count calls ≡ Ok tt → call_days calls ≡ Ok tt → strike_range calls ≡ Err r → market_checks limit m calls ≡ Err r
  market-strike-refused r t counted days e =
      market-split ∙ first_refusal market-before (strike_range calls) r (all (market-after m calls)) (market-front t counted days) e

  -- As many pillars as a table of their times has room for.
  pub market-few-pillars : market_checks limit m calls ≡ Ok tt → length m.pillars.days ≤ 256
  market-few-pillars h = (pillars-counted m.pillars (market-terms h).pillars.counted).few

  -- Where these checks are passed, so are those of the grid.
  pub market-grid : market_checks limit m calls ≡ Ok tt → grid_checks m.settlement m.bond calls m.controls ≡ Ok tt
  market-grid h = grid-passed m.settlement m.bond calls m.controls (market-terms h).grid (market-calls h)

-- The other checks don't read the call entries: two lists that both pass their own checks are answered alike.
pub market-alike : (limit : Float) (m : Market) (first second : CallSchedule) → CallsPassed first → CallsPassed second → market_checks limit m second ≡ market_checks limit m first
unfolding market_checks
market-alike limit m first second k l = cc

-- So of puts: two put lists that both pass.
pub market-puts-alike : (limit : Float) (m : Market) (calls first second : CallSchedule) → CallsPassed first → CallsPassed second → market_checks limit (with_puts m second) calls ≡ market_checks limit (with_puts m first) calls
unfolding market_checks
market-puts-alike limit m calls first second k l =
    let counted = puts-counted first k in
    let too = puts-counted second l in
    let most = puts-most first k in
    let few = puts-most second l in
    cc

-- Nor the spread: where they are passed, another spread is answered by its own check.
pub other-spread : (limit : Float) (m : Market) (calls : CallSchedule) (s : Float) → market_checks limit m calls ≡ Ok tt → tree_checks (with_spread m s) calls ≡ within (float 1) s
unfolding tree_checks
other-spread limit m calls s h = first_of-other (all (spread-before m calls)) (within limit m.spread) (within (float 1) s) (all (spread-after m calls)) h
