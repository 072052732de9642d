-- `Leftward::digits` meets its contract. Assumes nothing.
use Rattle.bondreport.proofs.Digits.{Digits}
use Rattle.bondreport.proofs.Leftward.digits.Given as goal

abbrev pub invariant-loop : goal.invariant-loop
invariant-loop l = Digits l.count l.initial.done l.n l.done l.rest l.counter
