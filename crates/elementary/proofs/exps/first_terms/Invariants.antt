-- `exps::first_terms` meets its contract. The invariant: the entries passed hold their terms, the others are as they were. Assumes nothing.
use Prim.Native.Nat.{◌≤◌}
use lib.ListN.{length}
use Rattle.elementary.specs.laws.Rows.{Filled, first_terms}
use Rattle.elementary.proofs.exps.first_terms.Given as goal

abbrev pub invariant-loop-i : goal.invariant-loop-i
invariant-loop-i l = (l.i ≤ length l.rs) × Filled (first_terms l.rs) l.initial.ys l.ys l.i
