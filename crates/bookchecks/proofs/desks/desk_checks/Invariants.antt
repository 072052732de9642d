-- `desk_checks` meets its contract: in the loop, no desk before i is refused. Assumes nothing.
use Rattle.std.specs.Prelude.{ltb, get_or}
use Rattle.terms.specs.Checks.{single}
use Rattle.bookchecks.specs.laws.Holdings.{past_end}
use Rattle.bookchecks.proofs.laws.Naming.{Naming}
use Rattle.bookchecks.proofs.desks.desk_checks.Given as goal
use Rattle.floats.specs.declared.Reason.TheVariants as reason

abbrev pub invariant-loop-i : goal.invariant-loop-i
invariant-loop-i l = Naming (λ k. single reason.Desk 0 (ltb 7 (get_or l.held k past_end).desk)) l.size l.i
