-- The lemmas that the functions' proofs use. Assumes nothing.
use Rattle.calendar.specs.laws.Days.{held, beyond, year_bounds, month_bounds, more_months, years_most, months_most, number-sum}
use Rattle.calendar.specs.laws.Leaps.{near-passed, near-year}
use Rattle.calendar.specs.laws.Search.{start_month, next_year, next_month}
use Rattle.calendar.specs.laws.Thirties.{date-few, as_thirties}

-- The lengths that are taken off a day.
pub ruleset passing = (near-passed, near-year, start_month, next_year, next_month, year_bounds, month_bounds)

-- The days that are added up to its number.
pub ruleset counting = (more_months, years_most, months_most, month_bounds, number-sum)

pub ruleset dating_back = (held, beyond)

pub ruleset thirty = (date-few, as_thirties)
