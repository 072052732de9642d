-- `store` meets its contract. Assumes nothing.
use Rattle.std.proofs.Common.{length, arith, rules}
use Rattle.std.proofs.lemmas.List.{length_push}
use Rattle.bondfile.specs.Entries.{number_of}
use Rattle.bondfile.specs.File.{entries_of, of_kind}
use Rattle.bondfile.specs.Walks.{numbered_found, found_left}
use Rattle.bondfile.proofs.Filling.{comes, next_fits, next_stored, came_all}
use Rattle.bondfile.proofs.lists.store.Goals as goal

pub offset_bounds-out-stored : goal.offset_bounds-out-stored
offset_bounds-out-stored g c = next_fits _ c.args.out.now (comes numbered_found found_left (of_kind (number_of c.args.kind) (entries_of c.args.text.now)) _ (cc) (cc)) c.loop-entry.yielded c.loop-entry.entry-iterator c.loop-entry.yielded_by c.loop-entry.stored c.loop-entry.invariant.2 c.next.new.self c.next.ensures.steps c.in-Some.entry c.in-Some.is _ c.well_formed.1.1.0.1

pub loop-entry-preserved : goal.loop-entry-preserved
loop-entry-preserved g c =
    (search rules, search rules, omega (arith, length_push c.loop-entry.yielded c.in-Some.entry), search rules, λ p h. next_stored _ c.args.out.now (comes numbered_found found_left (of_kind (number_of c.args.kind) (entries_of c.args.text.now)) _ (cc) (cc)) c.loop-entry.yielded c.loop-entry.entry-iterator c.loop-entry.yielded_by c.loop-entry.stored c.loop-entry.invariant.2 c.next.new.self c.next.ensures.steps c.in-Some.entry c.in-Some.is p c.loop-entry.out c.part.result (search (h, c.part.ensures)) (c.loop-entry.invariant.4 p h))

pub returns : goal.returns
returns g c = λ p h. came_all _ c.args.out.now (comes numbered_found found_left (of_kind (number_of c.args.kind) (entries_of c.args.text.now)) _ (cc) (cc)) c.loop-entry.yielded c.loop-entry.entry-iterator c.loop-entry.yielded_by c.loop-entry.stored c.loop-entry.invariant.2 c.next.new.self c.next.ensures.steps p c.loop-entry.out c.in-None.is (c.loop-entry.invariant.4 p h)
