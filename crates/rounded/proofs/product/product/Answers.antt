-- `product::product` gives the exact product. Assumes nothing.
use Rattle.rounded.proofs.product.Columns.{words, columns, upper-not_below, high_fits, of_factors_lem, moved_up}
use Rattle.rounded.proofs.product.product.Goals as goal

pub overflow_sub-upper : goal.overflow_sub-upper
overflow_sub-upper c = upper-not_below (columns (words c.args.a c.args.b c.ranges.a.fits c.ranges.b.fits) c.carried.ensures c.carried-2.ensures)

pub overflow_add-above : goal.overflow_add-above
overflow_add-above c = record { fits = high_fits (columns (words c.args.a c.args.b c.ranges.a.fits c.ranges.b.fits) c.carried.ensures c.carried-2.ensures) }

pub returns : goal.returns
returns c =
    let k = columns (words c.args.a c.args.b c.ranges.a.fits c.ranges.b.fits) c.carried.ensures c.carried-2.ensures
    in moved_up _ _ _ (high_fits k) (of_factors_lem c.args.a c.args.b _ k)
