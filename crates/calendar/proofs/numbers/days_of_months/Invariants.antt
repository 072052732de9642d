-- `numbers::days_of_months` meets its contract. Assumes nothing.
use Rattle.std.specs.Prelude.{◌≡◌}
use Rattle.calendar.specs.Calendar.{days_of_months}
use Rattle.calendar.proofs.numbers.days_of_months.Given as goal

abbrev pub invariant-loop-i : goal.invariant-loop-i
invariant-loop-i l = l.days ≡ days_of_months l.year l.i
