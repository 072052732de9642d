-- `call_list` meets its contract: passed checks give what `listed` requires; a refusal stands beside a list that is all zero. Assumes nothing.
use borrow.Author.Rules.{rules}
use Rattle.callnotices.specs.laws.Answers.{accepted, refused, passed_counted}
use Rattle.callnotices.proofs.entry.call_list.Goals as goal

pub listed-requires : goal.listed-requires
listed-requires c = (passed_counted _ c.notice_checks.ensures c.in-Ok.is).parallel

pub returns-in-Ok : goal.returns-in-Ok
returns-in-Ok c = accepted _ c.notice_checks.ensures c.in-Ok.is c.listed.ensures

pub returns-in-Err : goal.returns-in-Err
returns-in-Err c = search (refused, rules)
