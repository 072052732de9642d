-- What the curve, the fit and the walk refuse with is 25, 26 or 27. Assumes nothing.
use Rattle.std.specs.Prelude.{ℕ, refl, List, [], ◌∷◌, ℤ, Float}
use Rattle.elementary.specs.Exponential.{exp_at}
use Rattle.elementary.specs.Logarithm.{ln_at}
use Rattle.terms.specs.Curve.{between, curve_over}
use Rattle.bondevents.specs.declared.CallStep.{CallStep}
use Rattle.lattice.specs.declared.Transition.{Transition}
use Rattle.lattice.specs.Layers.{At}
use Rattle.lattice.specs.Lattice.{Layer}
use Rattle.forwardinduction.specs.Fit.{weighted, shift_of, contribute, contribute_three, onward, shifts_from}
use Rattle.backwardinduction.specs.Walk.{Reads, expected, discount_of, node_value, rolled, walk_from}
use Rattle.floats.specs.laws.Cases.{Holds}
use Rattle.promises.proofs.laws.Numbers.{arithmetic_refusals, walk_refusals, AnswerAmong, OutcomeAmong, wider-answer, numbers}
use Rattle.promises.proofs.laws.ElementaryNumbers as elementary

pub exp-number : (x : Float) (place : ℕ) → Holds (AnswerAmong walk_refusals) (exp_at x place)
exp-number x place = wider-answer arithmetic_refusals walk_refusals refl (exp_at x place) (elementary.exp-number x place)

ln-number : (x : Float) (place : ℕ) → Holds (AnswerAmong walk_refusals) (ln_at x place)
ln-number x place = wider-answer arithmetic_refusals walk_refusals refl (ln_at x place) (elementary.ln-number x place)

-- ---- curve

between-number : (t t0 d0 t1 d1 : Float) (place : ℕ) → Holds (AnswerAmong walk_refusals) (between t t0 d0 t1 d1 place)
unfolding between
between-number t t0 d0 t1 d1 place = search (exp-number, ln-number, numbers) depth 24

pub curve-number : (times factors : List Float) (t : Float) (place : ℕ) → Holds (AnswerAmong walk_refusals) (curve_over times factors t place)
unfolding curve_over
curve-number (t0 ∷ t1 ∷ times) (d0 ∷ d1 ∷ factors) t place =
    let later = curve-number (t1 ∷ times) (d1 ∷ factors) t place in
    search (between-number, numbers)
curve-number (t0 ∷ []) (d0 ∷ factors) t place = search numbers
curve-number (t0 ∷ t1 ∷ times) (d0 ∷ []) t place = search numbers
curve-number (t0 ∷ []) [] t place = search numbers
curve-number (t0 ∷ t1 ∷ times) [] t place = search numbers
curve-number [] factors t place = search numbers

-- ---- fit

weighted-number : (row : List At) (spacing dt : Float) (place : ℕ) (total : Float) → Holds (AnswerAmong walk_refusals) (weighted spacing dt place row total)
unfolding weighted
weighted-number [] spacing dt place total = search numbers
weighted-number (a ∷ row) spacing dt place total =
    let later = weighted-number row in
    search (exp-number, numbers) depth 24

shift-number : (times factors : List Float) (dt : Float) (place : ℕ) (sum : Float) → Holds (AnswerAmong walk_refusals) (shift_of (curve_over times factors) dt place sum)
unfolding shift_of
shift-number times factors dt place sum = search (curve-number, ln-number, numbers) depth 24

contribute-number : (row : List At) (place : ℕ) (n : ℤ) (x : Float) → Holds (OutcomeAmong walk_refusals) (contribute place n x row)
unfolding contribute
contribute-number [] place n x = search numbers
contribute-number (a ∷ row) place n x =
    let later = contribute-number row in
    search numbers

three_number : (place : ℕ) (t : Transition) (price : Float) (row : List At) → Holds (OutcomeAmong walk_refusals) (contribute_three place t price row)
three_number place t price row = search (contribute-number, numbers) depth 24

onward-number : (ts : List Transition) (row : List At) (spacing dt shift : Float) (place : ℕ) (next : List At) → Holds (OutcomeAmong walk_refusals) (onward spacing dt shift place ts row next)
unfolding onward
onward-number (t ∷ ts) (a ∷ row) spacing dt shift place next =
    let later = onward-number ts row in
    search (exp-number, three_number, numbers) depth 24
onward-number (t ∷ ts) [] spacing dt shift place next = search numbers
onward-number [] row spacing dt shift place next = search numbers

pub shifts-number : (layers : List Layer) (times factors : List Float) (dt : Float) (k : ℕ) (row : List At) → Holds (OutcomeAmong walk_refusals) (shifts_from (curve_over times factors) dt k layers row)
unfolding shifts_from
shifts-number [] times factors dt k row = search numbers
shifts-number (l ∷ layers) times factors dt k row =
    let later = shifts-number layers in
    search (weighted-number, shift-number, onward-number, numbers)

-- ---- walk

expected-number : (t : Transition) (next : List At) (place : ℕ) → Holds (AnswerAmong walk_refusals) (expected t next place)
expected-number t next place = search numbers depth 24

discount-number : (r : Reads) (node : ℤ) (place : ℕ) → Holds (AnswerAmong walk_refusals) (discount_of r node place)
discount-number r node place = search (exp-number, numbers) depth 24

node-number : (r : Reads) (node : ℤ) (t : Transition) (next : List At) (place : ℕ) → Holds (AnswerAmong walk_refusals) (node_value r node t next place)
unfolding node_value
node-number r node t next place = search (expected-number, discount-number, numbers) depth 24

rolled-number : (nodes : List ℤ) (ts : List Transition) (r : Reads) (next : List At) (place : ℕ) → Holds (OutcomeAmong walk_refusals) (rolled r nodes ts next place)
unfolding rolled
rolled-number (n ∷ ns) (t ∷ ts) r next place =
    let later = rolled-number ns ts in
    search (node-number, numbers)
rolled-number (n ∷ ns) [] r next place = search numbers
rolled-number [] ts r next place = search numbers

pub walk-number : (layers : List Layer) (shifts : List Float) (dt spread : Float) (cashflows : List Float) (calls : List CallStep) (k : ℕ) (final : List ℤ) → Holds (OutcomeAmong walk_refusals) (walk_from dt spread cashflows calls k layers shifts final)
unfolding walk_from
walk-number (l ∷ layers) (shift ∷ shifts) dt spread cashflows calls k final =
    let later = walk-number layers shifts in
    search (rolled-number, numbers)
walk-number (l ∷ layers) [] dt spread cashflows calls k final = search numbers
walk-number [] shifts dt spread cashflows calls k final = search numbers
