-- `exps::small_row` meets its contract. The invariant: while the flag holds, the entries passed are small. Assumes nothing.
use Rattle.elementary.specs.laws.Rows.{Seeing}
use Rattle.elementary.proofs.exps.small_row.Given as goal

abbrev pub invariant-loop-x : goal.invariant-loop-x
invariant-loop-x l = Seeing l.good l.xs l.x-index
