-- `bondevents::steps::up_to` meets its contract: what is compared with 1 and with the highest is what the definition clamps (`Clamps`). Assumes nothing.
use Rattle.floats.proofs.Laws.{answers}
use Rattle.floats.specs.Whole.{ceiled, ceil_at}
use Rattle.bondevents.proofs.Clamps.{upwards, clamped_high, clamped_low, mid-taken, mid-clamped, mid-refused}
use Rattle.bondevents.proofs.steps.up_to.Goals as goal

pub returns-then-target-high : goal.returns-then-target-high
returns-then-target-high c = search (answers, clamped_high ceiled ceil_at upwards)

pub returns-in_default : goal.returns-in_default
returns-in_default c = search (answers, mid-refused ceiled ceil_at upwards)

pub float_to_int-result : goal.float_to_int-result
float_to_int-result c = search (answers, mid-taken ceiled ceil_at upwards)

pub returns-then-target : goal.returns-then-target
returns-then-target c = search (answers, mid-clamped ceiled ceil_at upwards)

pub returns : goal.returns
returns c = search (answers, clamped_low ceiled ceil_at upwards)
