-- The grid's checks are passed exactly where those of each group are. Assumes nothing.
use Rattle.std.specs.Prelude.{◌≡◌, List, [], ◌∷◌, ◌++◌, Ok, Err}
use Rattle.std.proofs.Math.Path.{refl}
use Rattle.std.proofs.Common.{◌∙◌}
use Rattle.floats.specs.Refusals.{Refusal}
use Rattle.terms.specs.declared.Settlement.{Settlement}
use Rattle.floats.specs.Answers.{Check}
use Rattle.terms.specs.Terms.{CallSchedule, Bond, TimeGrid, bond_with_puts}
use Rattle.terms.specs.Checks.{first_of, call_count, call_days, units_range, amount_range, strike_range, any_paid, maturity_apart}
use Rattle.terms.specs.Entries.{setting_checks, grid_counts, most_checks, grid_days, list_numbers, call_orders, grid_checks}
use Rattle.terms.specs.laws.Sequence.{Passes, all, all_pass, groups_of_first, first_refusal, first_of_one}
use Rattle.terms.specs.laws.Groups.{CallsPassed, GridTermsPassed}
use Rattle.terms.specs.laws.PutChecks.{puts-passed, puts-counted, puts-most}

module _ (settlement : Settlement) (bond : Bond) (calls : CallSchedule) (controls : TimeGrid) where
  -- the groups before the strikes
  abbrev grid-before : List (List Check)
  grid-before =
      setting_checks controls settlement.code
      ∷ grid_counts bond.leg calls bond.puts
      ∷ most_checks bond.puts
      ∷ grid_days settlement.day bond.leg calls bond.puts
      ∷ (units_range bond.units ∷ amount_range bond.leg ∷ [])
      ∷ []

  -- and after them
  abbrev grid-after : List (List Check)
  grid-after = (strike_range bond.puts ∷ []) ∷ call_orders calls bond.puts ∷ (any_paid settlement.day bond.leg ∷ maturity_apart settlement bond.leg ∷ []) ∷ []

  grid-split : grid_checks settlement bond calls controls ≡ first_of (all grid-before ++ (strike_range calls ∷ all grid-after))
  unfolding grid_checks
  grid-split = refl

  -- Every group is passed.
  record GridGroups : Type 0 where
    setting : Passes (setting_checks controls settlement.code)
    counts : Passes (grid_counts bond.leg calls bond.puts)
    most : Passes (most_checks bond.puts)
    days : Passes (grid_days settlement.day bond.leg calls bond.puts)
    field : units_range bond.units ≡ Ok tt
    lists : Passes (list_numbers bond.leg calls bond.puts)
    orders : Passes (call_orders calls bond.puts)
    later-orders : Passes (any_paid settlement.day bond.leg ∷ maturity_apart settlement bond.leg ∷ [])

  grid_groups : grid_checks settlement bond calls controls ≡ Ok tt → GridGroups
  unfolding grid_checks
  grid_groups h =
      let g =
      groups_of_first
      (setting_checks controls settlement.code
      ∷ grid_counts bond.leg calls bond.puts
      ∷ most_checks bond.puts
      ∷ grid_days settlement.day bond.leg calls bond.puts
      ∷ (units_range bond.units ∷ [])
      ∷ list_numbers bond.leg calls bond.puts
      ∷ call_orders calls bond.puts
      ∷ (any_paid settlement.day bond.leg ∷ maturity_apart settlement bond.leg ∷ [])
      ∷ [])
      h in
      record {
        setting = g.0;
        counts = g.1.0;
        most = g.1.1.0;
        days = g.1.1.1.0;
        field = g.1.1.1.1.0.0;
        lists = g.1.1.1.1.1.0;
        orders = g.1.1.1.1.1.1.0;
        later-orders = g.1.1.1.1.1.1.1.0;
      }

  pub grid-terms : grid_checks settlement bond calls controls ≡ Ok tt → GridTermsPassed settlement bond controls
  grid-terms h =
      let g = grid_groups h in
      record {
        steps = g.setting.0;
        leg = record {
          code = g.setting.1.0;
          settled = g.days.0;
          counted = g.counts.0;
          days = g.days.1.0;
          amounts = g.lists.0;
          paid = g.later-orders.0;
        };
        units = g.field;
        puts = puts-passed bond.puts g.counts.1.1.0 g.most.0 g.days.1.1.1.0 g.lists.1.1.0 g.orders.1.0;
        apart = g.later-orders.1.0;
      }

  pub grid-calls : grid_checks settlement bond calls controls ≡ Ok tt → CallsPassed calls
  grid-calls h =
      let g = grid_groups h in
      record {
        counted = g.counts.1.0;
        days = g.days.1.1.0;
        strikes = g.lists.1.0;
        ordered = g.orders.0;
      }

  grid-front : GridTermsPassed settlement bond controls → call_count calls ≡ Ok tt → call_days calls ≡ Ok tt → Passes (all grid-before)
  grid-front terms counted days =
      all_pass grid-before (
        (terms.steps, (terms.leg.code, tt)),
        (
          (terms.leg.counted, (counted, (puts-counted bond.puts terms.puts, tt))),
          (
            (puts-most bond.puts terms.puts, tt),
            (
              (terms.leg.settled, (terms.leg.days, (days, (terms.puts.days, tt)))),
              ((terms.units, (terms.leg.amounts, tt)), tt),
            ),
          ),
        ),
      )

  pub grid-passed : GridTermsPassed settlement bond controls → CallsPassed calls → grid_checks settlement bond calls controls ≡ Ok tt
  grid-passed terms k =
      grid-split
      ∙ first_of_one (all grid-before) (strike_range calls) (all grid-after) (grid-front terms k.counted k.days) (all_pass grid-after ((terms.puts.strikes, tt), ((k.ordered, (terms.puts.ordered, tt)), ((terms.leg.paid, (terms.apart, tt)), tt))))
      ∙ k.strikes

  -- What stands before the strikes is passed, and a strike is refused: that is the answer.
  pub grid-strike-refused : (r : Refusal) → GridTermsPassed settlement bond controls → call_count calls ≡ Ok tt → call_days calls ≡ Ok tt → strike_range calls ≡ Err r → grid_checks settlement bond calls controls ≡ Err r
  grid-strike-refused r terms counted days e =
      grid-split ∙ first_refusal (all grid-before) (strike_range calls) r (all grid-after) (grid-front terms counted days) e

-- The other checks don't read the put entries: two put lists that both pass their own are answered alike.
pub grid-puts-alike : (settlement : Settlement) (bond : Bond) (calls : CallSchedule) (controls : TimeGrid) (first second : CallSchedule) → CallsPassed first → CallsPassed second → grid_checks settlement (bond_with_puts bond second) calls controls ≡ grid_checks settlement (bond_with_puts bond first) calls controls
unfolding grid_checks
grid-puts-alike settlement bond calls controls first second k l =
    let counted = puts-counted first k in
    let too = puts-counted second l in
    let most = puts-most first k in
    let few = puts-most second l in
    cc
