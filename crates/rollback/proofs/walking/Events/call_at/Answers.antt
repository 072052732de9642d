-- `walking::Events::call_at` meets its contract. Assumes nothing.
use mathlib.Core.Path.{sym}
use Rattle.backwardinduction.specs.laws.WalkMore.{calls_at}
use Rattle.rollback.proofs.walking.Events.call_at.Goals as goal

pub returns : goal.returns
returns c = sym (calls_at _ _ _ c.requires.0 c.requires.1)
