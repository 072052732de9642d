-- `exp::terms` meets its contract. The invariant: what is left of the series from n on, at p, is the whole series. Assumes nothing.
use Prim.Native.Nat.{ℕ, ◌-◌}
use mathlib.Core.Path.{◌≡◌}
use lib.Ieee.{Float}
use Rattle.elementary.specs.laws.Exponential.{plain_series}
use Rattle.elementary.proofs.exp.terms.Given as goal

pub record At (r start : Float) (high low : ℕ) (p : Float) (n : ℕ) : Type 0 where
  pub left : plain_series low (n - low) r p ≡ plain_series low (high - low) r start

abbrev pub invariant-loop-n : goal.invariant-loop-n
invariant-loop-n l = At l.r l.start l.high l.low l.p l.n
