-- `eventgrid::joining::puts_below` meets its contract: in the loop, no put before the index is above its call. Assumes nothing.
use mathlib.Core.Path.{◌≡◌}
use lib.ListN.{length, get_or}
use Rattle.bondevents.specs.Calls.{new_step, put_above}
use Rattle.terms.proofs.Seeking.{Seeking}
use Rattle.eventgrid.proofs.joining.puts_below.Given as goal
use Rattle.floats.specs.declared.Reason.TheVariants as reason

abbrev pub invariant-loop-i : goal.invariant-loop-i
invariant-loop-i l = (length l.steps ≡ 513) × Seeking reason.PutAbove (λ k. put_above (get_or l.steps k new_step)) 513 l.i
