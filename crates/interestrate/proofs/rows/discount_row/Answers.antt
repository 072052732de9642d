-- `rows::discount_row` meets its contract. Assumes nothing.
use Rattle.interestrate.specs.laws.Rows.{no_row}
use Rattle.interestrate.specs.Prices.{discount_and_derivative}
use Rattle.interestrate.proofs.rows.discount_row.Goals as goal

pub returns-in_default : goal.returns-in_default
returns-in_default c = no_row

pub returns : goal.returns
unfolding discount_and_derivative
returns c =
    record { each = λ i h g. rw (c.in-Compounded.is, ← c.frequency_value.ensures) (c.compounded_row.ensures.each i h g) }
