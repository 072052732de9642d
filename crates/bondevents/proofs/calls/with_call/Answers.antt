-- `bondevents::calls::with_call` meets its contract: one step alone is eligible (`Discrete`). Assumes nothing.
use Rattle.floats.specs.Answers.{outcome_of}
use Rattle.bondevents.proofs.Discrete.{entries}
use Rattle.bondevents.proofs.calls.with_call.Goals as goal

pub returns-then-date-axis : goal.returns-then-date-axis
returns-then-date-axis c = search entries

pub returns-then-step-axis : goal.returns-then-step-axis
returns-then-step-axis c = search entries

pub returns : goal.returns
unfolding outcome_of
returns c = search entries
