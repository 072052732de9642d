-- `rates::lowest_yield` meets its contract: −10 as the code writes it. Assumes nothing.
use lib.Ieee.{of_int, of_bits, neg}
use Rattle.std.proofs.Common.{rules}
use Rattle.interestrate.proofs.rates.lowest_yield.Goals as goal

pub returns-in-Simple : goal.returns-in-Simple
unfolding of_int of_bits neg
returns-in-Simple c = search rules
