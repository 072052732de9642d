-- `thirties::thirties` meets its contract. Assumes nothing.
use Rattle.calendar.specs.laws.Thirties.{date-few}
use Rattle.calendar.proofs.thirties.thirties.Goals as goal

pub thirty_days-requires : goal.thirty_days-requires
thirty_days-requires c = date-few _ c.min.ensures c.date_within.ensures
