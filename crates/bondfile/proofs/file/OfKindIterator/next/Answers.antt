-- `OfKind::next` hands on what its lines give: none of them is refused. Assumes nothing.
use Rattle.bondfile.specs.Walks.{said_left, found_left}
use Rattle.bondfile.proofs.Finding.{still_known, found_known}
use Rattle.bondfile.proofs.file.OfKindIterator.next.Goals as goal

pub invariant_of-self : goal.invariant_of-self
invariant_of-self c = record { entries = still_known c.next.result (found_left c.args.self.now) (said_left c.next.new.self) c.next.ensures.steps c.args.self.now.entries }

pub returns-in-Err-clause-steps : goal.returns-in-Err-clause-steps
returns-in-Err-clause-steps c = absurd (found_known c.in_ok-said.said (found_left c.args.self.now) (said_left c.next.new.self) c.in_ok-said.ensures.steps c.args.self.now.entries c.in-Err.is)
