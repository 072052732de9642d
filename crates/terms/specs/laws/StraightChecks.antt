-- The straight value's checks are passed exactly where those of each group are. Assumes nothing.
use Rattle.std.specs.Prelude.{◌≡◌, List, [], ◌∷◌, Float, Ok}
use Rattle.terms.specs.declared.Settlement.{Settlement}
use Rattle.floats.specs.Answers.{Check}
use Rattle.terms.specs.Numbers.{float}
use Rattle.terms.specs.Terms.{Leg, Pillars}
use Rattle.terms.specs.Checks.{within, any_paid, positive_factors}
use Rattle.terms.specs.Entries.{curve_orders, straight_counts, straight_days, straight_numbers, straight_checks}
use Rattle.terms.specs.laws.Sequence.{groups_of_first, first_of_groups}
use Rattle.terms.specs.laws.Groups.{LegPassed, PillarsPassed}

module _ (settlement : Settlement) (leg : Leg) (spread : Float) (pillars : Pillars) where
  abbrev straight_groups : List (List Check)
  straight_groups =
      straight_counts settlement.code leg pillars
      ∷ straight_days settlement.day leg pillars
      ∷ straight_numbers spread leg pillars
      ∷ (any_paid settlement.day leg ∷ [])
      ∷ curve_orders settlement leg pillars
      ∷ (positive_factors pillars ∷ [])
      ∷ []

  pub straight-terms : straight_checks settlement leg spread pillars ≡ Ok tt → LegPassed settlement leg × PillarsPassed settlement leg pillars × (within (float 1) spread ≡ Ok tt)
  unfolding straight_checks
  straight-terms h =
      let g = groups_of_first straight_groups h in
      let counts = g.0 in
      let days = g.1.0 in
      let numbers = g.1.1.0 in
      let paid = g.1.1.1.0 in
      let curve = g.1.1.1.1.0 in
      let late = g.1.1.1.1.1.0 in (
        record { code = counts.0; settled = days.0; counted = counts.1.0; days = days.1.0; amounts = numbers.1.0; paid = paid.0 },
        record {
          counted = counts.1.1.0;
          days = days.1.1.0;
          factors = numbers.1.1.0;
          ordered = curve.0;
          apart = curve.1.0;
          positive = late.0;
        },
        numbers.0,
      )

  pub straight-passed : LegPassed settlement leg → PillarsPassed settlement leg pillars → within (float 1) spread ≡ Ok tt → straight_checks settlement leg spread pillars ≡ Ok tt
  unfolding straight_checks
  straight-passed l q e =
      first_of_groups straight_groups (
        (l.code, (l.counted, (q.counted, tt))),
        (
          (l.settled, (l.days, (q.days, tt))),
          (
            (e, (l.amounts, (q.factors, tt))),
            (
              (l.paid, tt),
              (
                (q.ordered, (q.apart, tt)),
                ((q.positive, tt), tt),
              ),
            ),
          ),
        ),
      )
