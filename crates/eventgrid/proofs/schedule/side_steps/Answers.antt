-- `eventgrid::schedule::side_steps` meets its contract: no entry looks into the table where none is a window, and it is right otherwise. Assumes nothing.
use mathlib.Core.Path.{sym, ap, ◌∙◌}
use mathlib.Core.List.{List}
use Prim.Native.Nat.{ℕ}
use lib.ListN.{get_or}
use lib.Pointwise.{bytes_decides}
use Rattle.eventgrid.proofs.schedule.side_steps.Goals as goal

pub over_entries-requires : goal.over_entries-requires
over_entries-requires c =
    let start = c in
    record {
      kinds_len = (start.requires.days_len_bound.1, start.requires.days_len_bound.2);
      ends_len = start.requires.ends_len;
      by_index = λ i h window. absurd (window (ap (λ (days : List ℕ). get_or days i 0) ((bytes_decides _ _).0 (sym c.eq.ensures ∙ c.if-eq.true))));
    }

pub over_entries-requires-2 : goal.over_entries-requires-2
over_entries-requires-2 c =
    let start = c in
    record {
      kinds_len = (start.requires.days_len_bound.1, start.requires.days_len_bound.2);
      ends_len = start.requires.ends_len;
      by_index = λ i h window. c.window_principals-principals.ensures;
    }
