-- `exps::raise_row` meets its contract. The invariant: the entries passed are raised and, while the flag holds, finite; the others are as they were. Assumes nothing.
use Rattle.elementary.specs.laws.Rows.{Raising}
use Rattle.elementary.proofs.exps.raise_row.Given as goal

abbrev pub invariant-loop-i : goal.invariant-loop-i
invariant-loop-i l = Raising l.good l.ks l.initial.ys l.ys l.i
