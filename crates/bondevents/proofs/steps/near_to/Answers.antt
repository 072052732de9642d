-- `bondevents::steps::near_to` meets its contract: what is compared with 1 and with the highest is what the definition clamps (`Clamps`). Assumes nothing.
use Rattle.floats.proofs.Laws.{answers}
use Rattle.floats.specs.Whole.{rounded, round_at}
use Rattle.bondevents.proofs.Clamps.{nearest, clamped_high, clamped_low, mid-taken, mid-clamped, mid-refused}
use Rattle.bondevents.proofs.steps.near_to.Goals as goal

pub returns-then-target-high : goal.returns-then-target-high
returns-then-target-high c = search (answers, clamped_high rounded round_at nearest)

pub returns-in_default : goal.returns-in_default
returns-in_default c = search (answers, mid-refused rounded round_at nearest)

pub float_to_int-result : goal.float_to_int-result
float_to_int-result c = search (answers, mid-taken rounded round_at nearest)

pub returns-then-target : goal.returns-then-target
returns-then-target c = search (answers, mid-clamped rounded round_at nearest)

pub returns : goal.returns
returns c = search (answers, clamped_low rounded round_at nearest)
