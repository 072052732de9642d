-- `eventgrid::joining::joined_steps` meets its contract: the loop's invariant is `Joining`. Assumes nothing.
use mathlib.Core.Path.{◌≡◌}
use lib.ListN.{length}
use Rattle.bondevents.proofs.BothLists.{Joining}
use Rattle.eventgrid.proofs.joining.joined_steps.Given as goal

abbrev pub invariant-loop-i : goal.invariant-loop-i
invariant-loop-i l = (length l.calls ≡ 513) × (length l.puts ≡ 513) × Joining l.calls l.puts l.i l.steps
