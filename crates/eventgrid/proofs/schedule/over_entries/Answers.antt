-- `eventgrid::schedule::over_entries` meets its contract: the loop's invariant is `Entering`. Assumes nothing.
use borrow.Author.Rules.{rules}
use native.Mathlib.Omega.{arith}
use mathlib.Core.Path.{refl}
use Rattle.floats.specs.Answers.{outcome_of}
use Rattle.floats.proofs.Lent.{refuses-call, passes-call}
use Rattle.bondevents.proofs.Entering.{begin, next, stop, entering}
use Rattle.eventgrid.proofs.schedule.over_entries.Goals as goal

pub loop-at-init : goal.loop-at-init
loop-at-init c = begin _ _ _ _ _ _ _ refl c.requires.ends_len.0 c.requires.ends_len.1

pub with_entry-requires : goal.with_entry-requires
with_entry-requires c =
    let start = c in
    record {
      kinds_len = start.requires.kinds_len;
      principals = λ window. start.requires.by_index c.loop-at.at (omega arith) window;
    }

pub returns-in_err-with_entry : goal.returns-in_err-with_entry
returns-in_err-with_entry c =
    stop _ _ _ _ _ _ _ _ _ c.loop-at.invariant (omega arith) c.with_entry.ensures.written (refuses-call _ c.in_err-with_entry.was) (refuses-call _ (search rules))

pub loop-at-preserved : goal.loop-at-preserved
loop-at-preserved c = next _ _ _ _ _ _ _ _ _ c.loop-at.invariant (omega arith) c.with_entry.ensures.written (passes-call _ c.in_ok-with_entry.was)

pub returns : goal.returns
unfolding outcome_of
returns c = search entering
