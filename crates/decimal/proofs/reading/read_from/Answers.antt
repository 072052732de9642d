-- `reading::read_from` meets its contract. Assumes nothing.
use Rattle.std.proofs.Common.{rules}
use Rattle.decimal.specs.laws.Reading.{turn, refused, done}
use Rattle.decimal.proofs.reading.read_from.Goals as goal

pub loop-i-preserved : goal.loop-i-preserved
loop-i-preserved c = turn _ _ _ _ _ c.loop-i.invariant c.loop-i-test.true c.stepped.ensures c.in_ok-s.was

pub returns-in_err-s : goal.returns-in_err-s
returns-in_err-s c = search (refused, rules)

pub returns : goal.returns
returns c = search (done, rules)
