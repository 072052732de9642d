-- `fit::weighted_sum` meets its contract. The invariant: what is left of the sum from node i on, at the total, is the whole sum. Assumes nothing.
use Prim.Native.Nat.{ℕ, ◌≤◌}
use mathlib.Core.Path.{◌≡◌}
use mathlib.Core.Bool.{Bool}
use mathlib.Core.List.{List}
use lib.ListN.{length}
use lib.IntN.{ℤ}
use lib.Ieee.{Float}
use Rattle.floats.specs.Answers.{Answer, plus_zero}
use Rattle.forwardinduction.specs.Fit.{weighted}
use Rattle.lattice.specs.laws.Stored.{numbers_in, row_of}
use Rattle.lattice.specs.laws.StoredAt.{row_from}
use Rattle.forwardinduction.specs.laws.Exps.{weight_argument, Kept}
use Rattle.forwardinduction.proofs.fit.weighted_sum.Given as goal

module _ (nodes : List ℤ) (row : List Float) (spacing dt : Float) (place : ℕ) where
  abbrev whole : Answer
  whole = weighted spacing dt place (row_of (numbers_in nodes) row) plus_zero

  abbrev argument : Float → Float
  argument = weight_argument spacing dt

  pub record At (es : List Float) (good : Bool) (total : Float) (i : ℕ) : Type 0 where
    pub within : i ≤ length row
    pub kept : Kept argument nodes (length row) good i es
    pub left : weighted spacing dt place (row_from nodes row i) total ≡ whole

abbrev pub invariant-loop-i : goal.invariant-loop-i
invariant-loop-i l = At l.nodes l.row l.spacing l.dt l.place l.es l.good l.total l.i
