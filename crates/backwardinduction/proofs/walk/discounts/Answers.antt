-- `walk::discounts` meets its contract: exp of each exponent. Assumes nothing.
use Prim.Native.Nat.{ℕ, ◌≤◌}
use mathlib.Core.Path.{◌≡◌, ◌∙◌}
use mathlib.Core.List.{List, ◌++◌}
use native.Mathlib.Omega.{arith}
use lib.ListN.{length, take, drop, replicate, length-append}
use lib.Seq.{length-take-le}
use lib.Ieee.{Float}
use Rattle.floats.specs.Answers.{plus_zero}
use Rattle.backwardinduction.specs.laws.Discounts.{discounts_are}
use Rattle.backwardinduction.proofs.walk.discounts.Goals as goal

abbrev zeros : List Float
zeros = replicate 64 plus_zero

-- n places of the 64, and ys written there
module _ (n : ℕ) (h : n ≤ 64) where
  room : length (take n zeros) ≡ n
  room = length-take-le n zeros h

  module _ (ys : List Float) (e : length ys ≡ length (take n zeros)) where
    inside : n ≤ length (ys ++ drop n zeros)
    inside = omega (arith, e ∙ room, length-append ys (drop n zeros))

    written : length (take n (ys ++ drop n zeros)) ≡ n
    written = length-take-le n (ys ++ drop n zeros) inside

pub returns : goal.returns
returns c =
    let xs = c.exponents in
    discounts_are (drop (length c.args.es.now) zeros) xs.ensures (room _ c.requires.0) c.exp_row.auto.ys c.exp_row.ensures
