-- What is sought, by the case of what is priced, is a root of that case's objective. Assumes nothing.
use Rattle.std.specs.Prelude.{◌≡◌, refl, Float}
use Rattle.terms.specs.declared.Epoch.{Epoch}
use Rattle.terms.specs.declared.market.Leg.{Leg}
use Rattle.terms.specs.Market.{leg_of}
use Rattle.interestrate.specs.declared.RateDefinition.{RateDefinition}
use Rattle.rollback.specs.declared.walking.Lattice.{Lattice}
use Rattle.rollback.specs.declared.walking.Events.{Events}
use Rattle.sought.specs.declared.Priced.TheVariants.{Cashflows, Tree}
use Rattle.sought.specs.Objectives.{objective}
use Rattle.sought.specs.laws.Sought.{spread_at, sought_at}
use Rattle.brackets.specs.Brackets.{bracketed_root}

-- The yield that is sought is a root of the definition's objective.
pub sought-yield : (settlement : Epoch) (leg : Leg) (rate : RateDefinition) (target lower upper lowest : Float)
    → bracketed_root (sought_at (Cashflows settlement leg rate) target) lower upper lowest
    ≡ bracketed_root (objective settlement (leg_of leg) rate target) lower upper lowest
unfolding sought_at
sought-yield settlement leg rate target lower upper lowest = refl

-- The spread that is sought is a root of the tree's.
pub sought_spread_lem : (lattice : Lattice) (events : Events) (target lower upper lowest : Float)
    → bracketed_root (sought_at (Tree lattice events) target) lower upper lowest
    ≡ bracketed_root (spread_at lattice events target) lower upper lowest
unfolding sought_at
sought_spread_lem lattice events target lower upper lowest = refl
