-- `reading::read_from` meets its contract. Assumes nothing.
use Rattle.decimal.specs.laws.Reading.{ReadTo}
use Rattle.decimal.proofs.reading.read_from.Given as goal

abbrev pub invariant-loop-i : goal.invariant-loop-i
invariant-loop-i l = ReadTo l.text l.negative l.start l.s l.i
