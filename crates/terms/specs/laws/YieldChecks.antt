-- The checks of the yield entries are passed exactly where those of each group are. Assumes nothing.
use Rattle.std.specs.Prelude.{◌≡◌, List, [], ◌∷◌, Float, Ok}
use Rattle.terms.specs.declared.Settlement.{Settlement}
use Rattle.floats.specs.Answers.{Check}
use Rattle.terms.specs.Terms.{Leg}
use Rattle.terms.specs.Checks.{within, any_paid}
use Rattle.terms.specs.Entries.{yield_counts, yield_days, yield_numbers, yield_checks}
use Rattle.terms.specs.laws.Sequence.{groups_of_first, first_of_groups}
use Rattle.terms.specs.laws.Groups.{LegPassed}

module _ (limit : Float) (settlement : Settlement) (leg : Leg) (x : Float) (rate : Check) where
  abbrev yield_groups : List (List Check)
  yield_groups =
      yield_counts settlement.code leg
      ∷ yield_days settlement.day leg
      ∷ yield_numbers limit x leg
      ∷ (any_paid settlement.day leg ∷ [])
      ∷ (rate ∷ [])
      ∷ []

  pub yield-terms : yield_checks limit settlement leg x rate ≡ Ok tt → LegPassed settlement leg × (within limit x ≡ Ok tt) × (rate ≡ Ok tt)
  unfolding yield_checks
  yield-terms h =
      let g = groups_of_first yield_groups h in
      let counts = g.0 in
      let days = g.1.0 in
      let numbers = g.1.1.0 in
      let paid = g.1.1.1.0 in
      let last = g.1.1.1.1.0 in (
        record { code = counts.0; settled = days.0; counted = counts.1.0; days = days.1.0; amounts = numbers.1.0; paid = paid.0 },
        numbers.0,
        last.0,
      )

  pub yield-passed : LegPassed settlement leg → within limit x ≡ Ok tt → rate ≡ Ok tt → yield_checks limit settlement leg x rate ≡ Ok tt
  unfolding yield_checks
  yield-passed l e f =
      first_of_groups yield_groups (
        (l.code, (l.counted, tt)),
        (
          (l.settled, (l.days, tt)),
          (
            (e, (l.amounts, tt)),
            (
              (l.paid, tt),
              ((f, tt), tt),
            ),
          ),
        ),
      )
