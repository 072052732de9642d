-- `checked_row` meets its contract. Assumes nothing.
use Rattle.floats.proofs.Lent.{passes-call, refuses-call}
use Rattle.treebasedbondpricer.specs.laws.Entered.{steps_of-grid}
use Rattle.spreadtable.proofs.laws.FittedOnce.{grid-stopped, grid-walked}
use Rattle.spreadtable.proofs.fits.checked_row.Goals as goal

pub event_grid-answer-requires : goal.event_grid-answer-requires
event_grid-answer-requires c = let p = c.requires in record { le_maximum = p.le_maximum; days_len_bound = p.days_len_bound; ends_len = p.ends_len; put_ends_len = p.put_ends_len }

pub returns-in-Err : goal.returns-in-Err
returns-in-Err c = grid-stopped _ _ _ c.args.w c.args.spreads.now c.event_grid-answer.ensures.written (refuses-call _ c.in-Err.is) c.stopped_row.ensures

pub row_on-requires : goal.row_on-requires
row_on-requires c =
    let p = c.requires in
    record { spreads_bound = p.spreads_bound; steps_nonzero = steps_of-grid _ _ _ _ c.event_grid-answer.ensures.written (passes-call _ c.in-Ok.is) p.le_maximum.0 p.le_maximum.1 }

pub returns-in-Ok : goal.returns-in-Ok
returns-in-Ok c =
    let start = c in
    grid-walked _ _ _ start.args.w start.args.spreads.now c.event_grid-answer.ensures.written start.requires.curve_times_value (passes-call _ c.in-Ok.is) c.row_on.ensures
