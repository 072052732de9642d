-- Definitions only. Which steps a call or put entry reaches, the principal and the price there, and the price kept: of calls the lowest, of puts the highest.
use Rattle.std.specs.Prelude.{ℕ, zero, suc, Bool, true, false, cond, ◌&&◌, List, [], ◌∷◌, get_or, replicate, eqb, ltb, Float, Ok, Err}
use Rattle.std.specs.Float.{binary64}
use Rattle.std.specs.Float.Ieee.{add, mul, div, le, lt}
use Rattle.floats.specs.Answers.{Answer, plus_zero, refusal, tested, when_finite, Check, Outcome, follow}
use Rattle.floats.specs.Extremes.{min_of, max_of}
use Rattle.terms.specs.Numbers.{float, tolerance}
use Rattle.terms.specs.Terms.{Leg, CallSchedule, Bond}
use Rattle.terms.specs.Checks.{on_check, indexed, lowest}
use Rattle.bondevents.specs.declared.Side.{Side}
use Rattle.bondevents.specs.declared.Side.TheVariants.{Call, Put}
use Rattle.bondevents.specs.declared.Exercise.{Exercise}
use Rattle.bondevents.specs.declared.CallStep.{CallStep}
use Rattle.bondevents.specs.Steps.{Axis, time_of, step_of, call_step_of}
use Rattle.floats.specs.declared.Reason.TheVariants as reason

-- One call or put entry.
pub record Entry : Type 0 where
  pub start : ℕ
  pub end : ℕ
  pub strike : Float

-- Equal days make it discrete, otherwise a window.
abbrev pub discrete : Entry → Bool
discrete e = eqb e.start e.end

-- The time of a step: T × step/steps.
abbrev pub grid_time : Axis → ℕ → Float
grid_time a step = div binary64 (mul binary64 a.maturity (float step)) (float a.steps)

-- Discrete on settlement: step 0 only; otherwise the day's step. Window: the step's time within start − 1e-12 and end + 1e-12, written as the source has it.
unfoldable pub eligible : Axis → Entry → ℕ → Bool
unfolding add mul div le
eligible a e step =
    cond
    (discrete e)
    (cond (eqb e.start a.settlement) (eqb step 0) (eqb step (call_step_of a e.start)))
    (le (time_of a e.start) (add binary64 (grid_time a step) tolerance)
    && le (grid_time a step) (add binary64 (time_of a e.end) tolerance))

-- The redemptions that are counted, added in list order from 0.
unfoldable pub redemptions : (ℕ → Bool) → List ℕ → List ℕ → List Float → Float → Float
unfolding add
redemptions counted (day ∷ days) (kind ∷ kinds) (amount ∷ amounts) total =
    redemptions counted days kinds amounts (cond (eqb kind 1 && counted day) (add binary64 total amount) total)
redemptions counted (day ∷ days) (kind ∷ kinds) [] total = total
redemptions counted (day ∷ days) [] amounts total = total
redemptions counted [] kinds amounts total = total

abbrev pub counted : Leg → (ℕ → Bool) → Float
counted leg after = redemptions after leg.days leg.kinds leg.amounts plus_zero

-- A redemption's step is its day's. One on or before settlement is repaid and counts nowhere: its step is 0, which exceeds none.
abbrev pub redemption_step_of : Axis → ℕ → ℕ
redemption_step_of a day = cond (ltb a.settlement day) (step_of a day) 0

-- Principal: discrete, redemptions after the call day; window, redemptions whose step exceeds this step.
unfoldable pub principal : Axis → Leg → Entry → ℕ → Float
unfolding redemptions
principal a leg e step = cond (discrete e) (counted leg λ day. ltb e.start day) (counted leg λ day. ltb step (redemption_step_of a day))

-- 20: no principal at an eligible step. Price: strike × principal/units.
unfoldable pub call_price : Axis → Bond → Entry → ℕ → Answer
unfolding principal mul div le
call_price a bond e step =
    cond
    (le (principal a bond.leg e step) plus_zero)
    (refusal reason.NoPrincipal 0)
    (when_finite (mul binary64 e.strike (principal a bond.leg e step)) 0 λ paid. tested (div binary64 paid bond.units) 0)

-- No exercise: unmarked, and the price is 0 then.
abbrev pub none : Exercise
none = record { marked = false; price = plus_zero }

-- CallStep::new makes a step without a call price, and without a put price.
abbrev pub new_step : CallStep
new_step = record { call = none; put = none }

-- Of calls the lowest per step is kept, of puts the highest.
unfoldable pub kept : Side → Float → Float → Float
unfolding min_of max_of
kept Call x y = min_of x y
kept Put x y = max_of x y

unfoldable pub keep : Side → Exercise → Float → Exercise
unfolding kept
keep side c price = record { marked = true; price = cond c.marked (kept side c.price price) price }

-- One entry over the count steps from step on; a step that isn't eligible computes nothing.
unfoldable pub over_steps : Side → Axis → Bond → Entry → ℕ → ℕ → List Exercise → Outcome (List Exercise)
unfolding eligible call_price keep
over_steps side a bond e (suc count) step (c ∷ cs) =
    follow
    (cond (eligible a e step) (follow (call_price a bond e step) λ price. Ok (keep side c price)) (Ok c))
    λ c. follow (over_steps side a bond e count (suc step) cs) λ cs. Ok (c ∷ cs)
over_steps side a bond e (suc count) step [] = Ok []
over_steps side a bond e zero step cs = Ok cs

-- Entries ending before settlement are skipped; steps 0 to steps−1 are tried.
unfoldable pub with_entry : Side → Axis → Bond → Entry → List Exercise → Outcome (List Exercise)
unfolding over_steps
with_entry side a bond e cs = cond (ltb e.end a.settlement) (Ok cs) (over_steps side a bond e a.steps 0 cs)

-- Entry 0 over all its steps, then entry 1.
unfoldable pub over_entries : Side → Axis → Bond → List ℕ → List ℕ → List Float → List Exercise → Outcome (List Exercise)
unfolding with_entry
over_entries side a bond (s ∷ starts) (e ∷ ends) (k ∷ strikes) cs =
    follow (with_entry side a bond (record { start = s; end = e; strike = k }) cs) λ cs. over_entries side a bond starts ends strikes cs
over_entries side a bond (s ∷ starts) (e ∷ ends) [] cs = Ok cs
over_entries side a bond (s ∷ starts) [] strikes cs = Ok cs
over_entries side a bond [] ends strikes cs = Ok cs

-- One list over all its entries.
abbrev pub exercises : Side → Axis → Bond → CallSchedule → Outcome (List Exercise)
exercises side a bond entries = over_entries side a bond entries.starts entries.ends entries.strikes (replicate 513 none)

-- Calls and puts of each step.
unfoldable pub joined : List Exercise → List Exercise → List CallStep
joined (c ∷ cs) (p ∷ ps) = record { call = c; put = p } ∷ joined cs ps
joined (c ∷ cs) [] = []
joined [] ps = []

-- A put above the call.
abbrev pub put_above : CallStep → Bool
put_above c = (c.call.marked && c.put.marked) && lt c.call.price c.put.price

-- 38: a put above the call at a step, lowest step as its place.
abbrev pub puts_below : List CallStep → Check
puts_below steps = indexed reason.PutAbove (λ k. put_above (get_or steps k new_step)) steps

-- The steps of a grid: all calls are filled in, then all puts, and 38 is tried once the whole is filled.
unfoldable pub call_steps : Axis → Bond → CallSchedule → Outcome (List CallStep)
unfolding over_entries joined lowest on_check
call_steps a bond calls =
    follow (exercises Call a bond calls) λ cs.
    follow (exercises Put a bond bond.puts) λ ps. on_check (puts_below (joined cs ps)) Err (Ok (joined cs ps))
