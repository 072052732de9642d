-- `fit::onward` meets its contract. The invariant: what is left from node i on, over the row as it is, is the whole, and the exps of the part that i stands in are kept. Assumes nothing.
use Prim.Native.Nat.{ℕ, ◌*◌, ◌≤◌}
use mathlib.Core.Path.{◌≡◌}
use mathlib.Core.Bool.{Bool}
use mathlib.Core.List.{List}
use lib.ListN.{length, drop}
use lib.IntN.{ℤ}
use lib.Ieee.{Float}
use Rattle.floats.specs.Answers.{Outcome}
use Rattle.lattice.specs.declared.reach.Reach.{Reach}
use Rattle.lattice.specs.laws.Stored.{middles_in}
use Rattle.lattice.specs.laws.Positions.{start_of, Roomy}
use Rattle.forwardinduction.specs.laws.FitSteps.{onward_at}
use Rattle.forwardinduction.specs.laws.Exps.{rate_argument, Kept}
use Rattle.forwardinduction.proofs.fit.onward.Given as goal

module _ (nodes : List ℤ) (probabilities row next₀ : List Float) (flat : Bool) (spacing dt shift : Float) (place : ℕ) where
  abbrev whole : Outcome (List Float)
  whole = onward_at spacing dt shift place flat (start_of nodes) nodes probabilities row next₀

  abbrev from : Reach → ℕ → List Float → Outcome (List Float)
  from r i next = onward_at spacing dt shift place flat r (drop (i * 2) nodes) (drop (i * 3) probabilities) (drop i row) next

  pub record At (next es : List Float) (good : Bool) (r : Reach) (i : ℕ) : Type 0 where
    pub within : i ≤ length row
    pub same : length next ≡ length next₀
    pub room : Roomy flat (length next₀) r (middles_in (drop (i * 2) nodes))
    pub kept : Kept (rate_argument spacing dt shift) nodes (length row) good i es
    pub left : from r i next ≡ whole

abbrev pub invariant-loop-i : goal.invariant-loop-i
invariant-loop-i l =
    At l.nodes l.probabilities l.row l.initial.next l.flat l.spacing l.dt l.shift l.place l.next l.es l.good l.r l.i
