-- `solve_grid` meets its contract: the grid's calls as marks and prices, then the root (`SpreadSolved`). Assumes nothing.
use mathlib.Core.Path.{sym}
use native.Mathlib.Omega.{arith}
use lib.Seq.{length-take-le}
use Rattle.spreads.specs.laws.SpreadSolved.{root-with_calls}
use Rattle.spreads.proofs.spreads.solve_grid.Goals as goal

pub overflow_cast-n : goal.overflow_cast-n
overflow_cast-n c = record { fits = omega (arith, c.requires) }

pub slice_bounds-solve_over-end-4 : goal.slice_bounds-solve_over-end-4
slice_bounds-solve_over-end-4 c = let p = c.requires in sym (length-take-le _ _ (omega arith))

pub slice_bounds-solve_over-end-5 : goal.slice_bounds-solve_over-end-5
slice_bounds-solve_over-end-5 c = let p = c.requires in sym (length-take-le _ _ (omega arith))

pub slice_bounds-solve_over-end-6 : goal.slice_bounds-solve_over-end-6
slice_bounds-solve_over-end-6 c = let p = c.requires in sym (length-take-le _ _ (omega arith))

pub solve_over-requires : goal.solve_over-requires
solve_over-requires c = let p = c.requires in record { steps_nonzero = (p.0, p.1, c.well_formed.0.1.1.1.1.0.1.0.1, omega arith, omega arith); counts_len = (length-take-le _ _ (omega arith), length-take-le _ _ (omega arith), length-take-le _ _ (omega arith)) }

pub returns : goal.returns
returns c = root-with_calls _ _ _ _ c.solve_over.ensures c.step_marks-marks.ensures c.step_prices-prices.ensures
