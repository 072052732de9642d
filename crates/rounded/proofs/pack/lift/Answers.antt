-- `lift` meets its contract: the count of leading zeros brings the highest digit to the top.
use lib.Count.{count_leading_zeros, leading_top}
use Rattle.rounded.proofs.pack.Numbers.{lifted}
use Rattle.rounded.proofs.pack.lift.Goals as goal

pub returns : goal.returns
returns c =
    let w = c.args.w in
    let top = leading_top 64 w c.requires c.ranges.w.fits in
    lifted w top.0 (count_leading_zeros 64 w) top.2 top.3 top.1
