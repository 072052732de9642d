-- `exps::reduce_row` meets its contract. The invariant: of the entries passed, k and r are there, and each is reducible. Assumes nothing.
use Rattle.elementary.specs.laws.Rows.{Parting}
use Rattle.elementary.proofs.exps.reduce_row.Given as goal

abbrev pub invariant-loop-i : goal.invariant-loop-i
invariant-loop-i l = Parting l.xs l.initial.ks l.initial.rs l.ks l.rs l.i
