-- `lists::Lists::read_calls` meets its contract. Assumes nothing.
use Rattle.std.proofs.Common.{rules}
use Rattle.filebond.proofs.Stored.{calls-held}
use Rattle.filebond.proofs.lists.Lists.read_calls.Goals as goal

pub returns-clause-calls : goal.returns-clause-calls
returns-clause-calls c = calls-held (search rules) (search rules) (search rules) c.calls_of-self.ensures
