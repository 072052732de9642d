-- Every refusal of an input check has a number above 0, so 0 stands for no refusal. Assumes nothing.
use Rattle.std.specs.Prelude.{◌<◌, ◌≡◌, Err}
use Rattle.floats.specs.Refusals.{Refusal}
use Rattle.floats.specs.Reasons.{reason_number}
use Rattle.floats.specs.Answers.{Check}
use Rattle.floats.specs.laws.Reasons.{reason-above_zero}
use Rattle.terms.specs.declared.Settlement.{Settlement}
use Rattle.terms.specs.Terms.{CallSchedule, Bond, TimeGrid}
use Rattle.terms.specs.Entries.{grid_checks}

-- A check whose refusals have a number above 0.
pub record Numbered (c : Check) : Type 0 where
  pub above_zero : (r : Refusal) → c ≡ Err r → 0 < reason_number r.reason

-- A reason has no other number.
pub every-numbered : (c : Check) → Numbered c
every-numbered c = record { above_zero = λ r e. reason-above_zero r.reason }

pub grid-numbered : (settlement : Settlement) (bond : Bond) (calls : CallSchedule) (controls : TimeGrid) → Numbered (grid_checks settlement bond calls controls)
grid-numbered settlement bond calls controls = every-numbered (grid_checks settlement bond calls controls)
