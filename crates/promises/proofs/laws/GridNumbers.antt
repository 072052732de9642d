-- Which numbers the input checks of the tree entries and the event grid refuse with. Assumes nothing.
use Rattle.std.specs.Prelude.{ℕ, zero, suc, List, [], ◌∷◌, Float}
use Rattle.terms.specs.declared.Settlement.{Settlement}
use Rattle.terms.specs.Terms.{CallSchedule, Bond, TimeGrid, Market}
use Rattle.terms.specs.Entries.{market_checks}
use Rattle.bondevents.specs.declared.Side.{Side}
use Rattle.bondevents.specs.declared.Exercise.{Exercise}
use Rattle.bondevents.specs.Steps.{Axis}
use Rattle.bondevents.specs.Calls.{Entry, call_price, over_steps, with_entry, over_entries, call_steps}
use Rattle.bondevents.specs.Grid.{event_grid}
use Rattle.floats.specs.laws.Cases.{Holds}
use Rattle.promises.proofs.laws.Numbers.{check_refusals, grid_refusals, AnswerAmong, OutcomeAmong, CheckAmong, numbers}

-- The limit is the spread's, or that of the target in its place.
pub checks-number : (limit : Float) (m : Market) (calls : CallSchedule) → Holds (CheckAmong check_refusals) (market_checks limit m calls)
unfolding market_checks
checks-number limit m calls = search numbers depth 40 fits 8000

price_number_lem : (a : Axis) (bond : Bond) (e : Entry) (step : ℕ) → Holds (AnswerAmong grid_refusals) (call_price a bond e step)
unfolding call_price
price_number_lem a bond e step = search numbers

steps-number : (side : Side) (count : ℕ) (cs : List Exercise) (a : Axis) (bond : Bond) (e : Entry) (step : ℕ) → Holds (OutcomeAmong grid_refusals) (over_steps side a bond e count step cs)
unfolding over_steps
steps-number side zero cs a bond e step = search numbers
steps-number side (suc count) [] a bond e step = search numbers
steps-number side (suc count) (c ∷ cs) a bond e step =
    let later = steps-number side count cs in
    search (price_number_lem, numbers)

entry-number : (side : Side) (a : Axis) (bond : Bond) (e : Entry) (cs : List Exercise) → Holds (OutcomeAmong grid_refusals) (with_entry side a bond e cs)
unfolding with_entry
entry-number side a bond e cs = search (steps-number, numbers)

entries-number : (side : Side) (starts ends : List ℕ) (strikes : List Float) (a : Axis) (bond : Bond) (cs : List Exercise) → Holds (OutcomeAmong grid_refusals) (over_entries side a bond starts ends strikes cs)
unfolding over_entries
entries-number side (s ∷ starts) (e ∷ ends) (k ∷ strikes) a bond cs =
    let later = entries-number side starts ends strikes in
    search (entry-number, numbers)
entries-number side (s ∷ starts) (e ∷ ends) [] a bond cs = search numbers
entries-number side (s ∷ starts) [] strikes a bond cs = search numbers
entries-number side [] ends strikes a bond cs = search numbers

steps-refused : (a : Axis) (bond : Bond) (calls : CallSchedule) → Holds (OutcomeAmong grid_refusals) (call_steps a bond calls)
unfolding call_steps
steps-refused a bond calls = search (entries-number, numbers)

pub grid_number_lem : (settlement : Settlement) (bond : Bond) (calls : CallSchedule) (controls : TimeGrid) → Holds (OutcomeAmong grid_refusals) (event_grid settlement bond calls controls)
unfolding event_grid
grid_number_lem settlement bond calls controls = search (steps-refused, numbers)
