-- `all_checks` meets its contract: in the loop, no bond before i is refused. Assumes nothing.
use Rattle.std.specs.Prelude.{get_or}
use Rattle.bookchecks.specs.Checks.{bond_check}
use Rattle.bookchecks.specs.Lent.{shared_of, lists_of}
use Rattle.bookchecks.specs.laws.Holdings.{past_end}
use Rattle.bookchecks.proofs.laws.Naming.{Naming}
use Rattle.bookchecks.proofs.checks.all_checks.Given as goal

abbrev pub invariant-loop-i : goal.invariant-loop-i
invariant-loop-i l = Naming (λ k. bond_check (shared_of l.shared) (lists_of l.lists) (get_or l.held k past_end)) l.size l.i
