-- `ln::series` meets its contract. The invariant: what is left of the series from j on, at q, is the whole series. Assumes nothing.
use Prim.Native.Nat.{ℕ}
use mathlib.Core.Path.{◌≡◌}
use lib.Ieee.{Float}
use Rattle.elementary.specs.laws.Logarithm.{plain_log_series, log_start}
use Rattle.elementary.proofs.ln.series.Given as goal

pub record At (z q : Float) (j : ℕ) : Type 0 where
  pub left : plain_log_series j z q ≡ plain_log_series 10 z log_start

abbrev pub invariant-loop-j : goal.invariant-loop-j
invariant-loop-j l = At l.z l.q l.j
