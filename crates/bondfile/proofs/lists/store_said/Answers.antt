-- `store_said` meets its contract. Assumes nothing.
use Rattle.std.proofs.Common.{length, arith, rules}
use Rattle.std.proofs.lemmas.List.{length_push}
use Rattle.bondfile.specs.File.{entries_of, of_kind}
use Rattle.bondfile.specs.Walks.{numbered_said, said_left}
use Rattle.bondfile.proofs.Filling.{comes, next_fits, next_stored, came_all}
use Rattle.bondfile.proofs.lists.store_said.Goals as goal

pub offset_bounds-out-stored : goal.offset_bounds-out-stored
offset_bounds-out-stored g c = next_fits _ c.args.out.now (comes numbered_said said_left (of_kind c.args.kind (entries_of c.args.text.now)) _ (cc) (cc)) c.loop-found.yielded c.loop-found.found-iterator c.loop-found.yielded_by c.loop-found.stored c.loop-found.invariant.2 c.next.new.self c.next.ensures.steps c.in-Some.found c.in-Some.is _ c.well_formed.1.1.0.1

pub loop-found-preserved : goal.loop-found-preserved
loop-found-preserved g c =
    (search rules, search rules, omega (arith, length_push c.loop-found.yielded c.in-Some.found), search rules, λ p h. next_stored _ c.args.out.now (comes numbered_said said_left (of_kind c.args.kind (entries_of c.args.text.now)) _ (cc) (cc)) c.loop-found.yielded c.loop-found.found-iterator c.loop-found.yielded_by c.loop-found.stored c.loop-found.invariant.2 c.next.new.self c.next.ensures.steps c.in-Some.found c.in-Some.is p c.loop-found.out c.part.result (search (h, c.part.ensures)) (c.loop-found.invariant.4 p h))

pub returns : goal.returns
returns g c = λ p h. came_all _ c.args.out.now (comes numbered_said said_left (of_kind c.args.kind (entries_of c.args.text.now)) _ (cc) (cc)) c.loop-found.yielded c.loop-found.found-iterator c.loop-found.yielded_by c.loop-found.stored c.loop-found.invariant.2 c.next.new.self c.next.ensures.steps p c.loop-found.out c.in-None.is (c.loop-found.invariant.4 p h)
