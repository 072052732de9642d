-- `numbers::width` meets its contract. Assumes nothing.
use Rattle.bondreport.proofs.Digits.{Counting}
use Rattle.bondreport.proofs.numbers.width.Given as goal

abbrev pub invariant-loop-count : goal.invariant-loop-count
invariant-loop-count l = Counting l.n l.rest l.count
