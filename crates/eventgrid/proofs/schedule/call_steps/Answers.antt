-- `eventgrid::schedule::call_steps` meets its contract: the calls, then the puts, then 38 (`BothLists`). Assumes nothing.
use borrow.Author.Rules.{rules}
use mathlib.Core.Path.{◌∙◌}
use Rattle.floats.proofs.Lent.{passes, passes-call, refuses-call}
use Rattle.bondevents.proofs.BothLists.{from_none, calls-stop, puts-stop, above-stop, all_filled}
use Rattle.eventgrid.proofs.schedule.call_steps.Goals as goal

pub returns-in_err-side_steps : goal.returns-in_err-side_steps
returns-in_err-side_steps c =
    record {
      written = calls-stop _ _ _ (from_none _ _ _ _ _ _ c.none-none.ensures c.side_steps.ensures) (refuses-call _ c.in_err-side_steps.was) (refuses-call _ (search rules));
      untouched = search rules;
    }

pub returns-in_err-side_steps-2 : goal.returns-in_err-side_steps-2
returns-in_err-side_steps-2 c =
    record {
      written =
          puts-stop _ _ _ (from_none _ _ _ _ _ _ c.none-none.ensures c.side_steps.ensures) (passes-call _ c.in_ok-side_steps.was)
          (from_none _ _ _ _ _ _ c.none-none.ensures c.side_steps-2.ensures) (refuses-call _ c.in_err-side_steps-2.was) (refuses-call _ (search rules));
      untouched = search rules;
    }

pub returns-in_err-puts_below : goal.returns-in_err-puts_below
returns-in_err-puts_below c =
    record {
      written =
          above-stop _ _ _ (from_none _ _ _ _ _ _ c.none-none.ensures c.side_steps.ensures) (passes-call _ c.in_ok-side_steps.was)
          (from_none _ _ _ _ _ _ c.none-none.ensures c.side_steps-2.ensures) (passes-call _ c.in_ok-side_steps-2.was)
          c.joined_steps-joined.ensures c.puts_below.ensures c.in_err-puts_below.was (refuses-call _ (search rules));
      untouched = search rules;
    }

pub returns : goal.returns
returns c =
    record {
      written =
          passes _
          ∙ all_filled _ _ _ (from_none _ _ _ _ _ _ c.none-none.ensures c.side_steps.ensures) (passes-call _ c.in_ok-side_steps.was)
          (from_none _ _ _ _ _ _ c.none-none.ensures c.side_steps-2.ensures) (passes-call _ c.in_ok-side_steps-2.was)
          c.joined_steps-joined.ensures c.puts_below.ensures c.in_ok-puts_below.was;
      untouched = search rules;
    }
