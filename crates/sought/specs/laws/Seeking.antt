-- Laws of what is sought, by the case of what is priced. Assumes nothing.
use Rattle.std.specs.Prelude.{◌≡◌, length, ℕ, Float}
use Rattle.std.proofs.Math.Path.{sym}
use Rattle.std.proofs.Common.{ap, ◌∙◌}
use Rattle.floats.specs.Answers.{Answer}
use Rattle.terms.specs.declared.Epoch.{Epoch}
use Rattle.terms.specs.declared.market.Leg.{Leg}
use Rattle.terms.specs.Market.{leg_of}
use Rattle.interestrate.specs.declared.RateDefinition.{RateDefinition}
use Rattle.rollback.specs.declared.walking.Lattice.{Lattice}
use Rattle.rollback.specs.declared.walking.Events.{Events}
use Rattle.rollback.specs.Walking.{Walkable}
use Rattle.sought.specs.declared.Priced.{Priced}
use Rattle.sought.specs.declared.Priced.TheVariants.{Cashflows, Tree}
use Rattle.sought.specs.Objectives.{objective}
use Rattle.sought.specs.laws.Sought.{spread_at, sought_at, Ready}

module _ (p : Priced) where
  -- ---- cashflows at a yield
  module _ {settlement : Epoch} {leg : Leg} {rate : RateDefinition} (e : p ≡ Cashflows settlement leg rate) where
    pub at_yield-sought : (target x : Float) {r : Answer} → r ≡ objective settlement (leg_of leg) rate target x → r ≡ sought_at p target x
    unfolding sought_at
    at_yield-sought target x h = h ∙ sym (ap (λ (z : Priced). sought_at z target x) e)

    pub yield-ready : (first second : ℕ) → length leg.amounts.now ≡ length leg.days.now → Ready p first second
    unfolding Ready
    yield-ready first second h = rw e h

    pub ready-yield : (first second : ℕ) → Ready p first second → length leg.amounts.now ≡ length leg.days.now
    unfolding Ready
    ready-yield first second h = rw e at h

  -- ---- a tree at a spread
  module _ {lattice : Lattice} {events : Events} (e : p ≡ Tree lattice events) where
    pub at_spread-sought : (target x : Float) {r : Answer} → r ≡ spread_at lattice events target x → r ≡ sought_at p target x
    unfolding sought_at
    at_spread-sought target x h = h ∙ sym (ap (λ (z : Priced). sought_at z target x) e)

    pub spread-ready : (first second : ℕ) → Walkable lattice events first second → Ready p first second
    unfolding Ready
    spread-ready first second h = rw e h

    pub ready-spread : (first second : ℕ) → Ready p first second → Walkable lattice events first second
    unfolding Ready
    ready-spread first second h = rw e at h
