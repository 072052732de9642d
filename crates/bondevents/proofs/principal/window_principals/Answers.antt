-- `bondevents::principal::window_principals` meets its contract: the loop's invariant is `Filling`. Assumes nothing.
use borrow.Author.Rules.{rules}
use Rattle.bondevents.proofs.Counting.{all_steps}
use Rattle.bondevents.proofs.principal.window_principals.Goals as goal

pub returns : goal.returns
returns c = search (all_steps, rules)
