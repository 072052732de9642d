-- `walk::roll` meets its contract. The invariant: what is left from node i on, over the row as it is, is the whole, and where the flag says so the factors of the part are at hand. Assumes nothing.
use Prim.Native.Nat.{ℕ, ◌*◌, ◌≤◌}
use mathlib.Core.Path.{◌≡◌}
use mathlib.Core.Bool.{Bool}
use mathlib.Core.List.{List}
use lib.ListN.{length, drop}
use lib.IntN.{ℤ}
use lib.Ieee.{Float}
use Rattle.floats.specs.Answers.{Outcome}
use Rattle.bondevents.specs.declared.CallStep.{CallStep}
use Rattle.lattice.specs.declared.reach.Reach.{Reach}
use Rattle.backwardinduction.specs.declared.walk.Rates.{Rates}
use Rattle.lattice.specs.laws.Stored.{middles_in}
use Rattle.lattice.specs.laws.Positions.{start_of, Roomy}
use Rattle.backwardinduction.specs.laws.WalkSteps.{rolled_at}
use Rattle.backwardinduction.specs.laws.Discounts.{Ahead}
use Rattle.backwardinduction.proofs.walk.roll.Given as goal

module _ (nodes : List ℤ) (probabilities next row₀ : List Float) (flat : Bool) (rates : Rates) (call : CallStep) (cashflow : Float) (place : ℕ) where
  abbrev whole : Outcome (List Float)
  whole = rolled_at rates call cashflow place flat next (start_of nodes) 0 nodes probabilities row₀

  abbrev from : Reach → ℕ → List Float → Outcome (List Float)
  from r i row = rolled_at rates call cashflow place flat next r i (drop (i * 2) nodes) (drop (i * 3) probabilities) row

  pub record At (row : List Float) (r : Reach) (es : List Float) (known : Bool) (i : ℕ) : Type 0 where
    pub within : i ≤ length row₀
    pub same : length row ≡ length row₀
    pub room : Roomy flat (length next) r (middles_in (drop (i * 2) nodes))
    pub left : from r i row ≡ whole
    pub part : length es ≡ 64
    pub ahead : Ahead known rates nodes (length row₀) i i es

abbrev pub invariant-loop-i : goal.invariant-loop-i
invariant-loop-i l = At l.nodes l.probabilities l.next l.initial.row l.reads.flat l.reads.rates l.reads.call l.reads.cashflow l.reads.place l.row l.r l.es l.known l.i
