-- Definitions only. Repaid principal is gone: redemptions on or before settlement count nowhere.
use Rattle.std.specs.Prelude.{ℕ, ◌≡◌, Bool, cond, ◌&&◌, List, [], ◌∷◌, eqb, leb, Ok}
use Rattle.terms.specs.declared.Settlement.{Settlement}
use Rattle.terms.specs.Terms.{CallSchedule, Bond, TimeGrid}
use Rattle.terms.specs.Entries.{grid_checks}
use Rattle.bondevents.specs.Grid.{event_grid}

-- A redemption on or before settlement. A coupon is no principal.
abbrev pub repaid : ℕ → ℕ → ℕ → Bool
repaid settlement day kind = eqb kind 1 && leb day settlement

-- Of one of the parallel lists, what belongs to a cashflow that isn't repaid.
unfoldable pub unrepaid : {A : Type 0} → ℕ → List ℕ → List ℕ → List A → List A
unrepaid settlement (day ∷ days) (kind ∷ kinds) (x ∷ xs) =
    cond (repaid settlement day kind) (unrepaid settlement days kinds xs) (x ∷ unrepaid settlement days kinds xs)
unrepaid settlement (day ∷ days) (kind ∷ kinds) [] = []
unrepaid settlement (day ∷ days) [] xs = []
unrepaid settlement [] kinds xs = []

-- The bond without its repaid redemptions: the same units and puts, and all other cashflows in their order.
abbrev pub without_repaid : ℕ → Bond → Bond
without_repaid settlement bond =
    record {
      leg = record {
        days = unrepaid settlement bond.leg.days bond.leg.kinds bond.leg.days;
        kinds = unrepaid settlement bond.leg.days bond.leg.kinds bond.leg.kinds;
        amounts = unrepaid settlement bond.leg.days bond.leg.kinds bond.leg.amounts;
      };
      units = bond.units;
      puts = bond.puts;
    }

-- Of terms that pass the checks, maturity, steps, cashflows, call prices and refusal are those of the bond without its repaid redemptions.
abbrev pub RepaidNowhere : Type 0
RepaidNowhere =
    (settlement : Settlement) (bond : Bond) (calls : CallSchedule) (controls : TimeGrid)
    → grid_checks settlement bond calls controls ≡ Ok tt
    → event_grid settlement bond calls controls ≡ event_grid settlement (without_repaid settlement.day bond) calls controls
