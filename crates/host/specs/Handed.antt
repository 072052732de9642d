-- Definitions only. What a C caller is handed of an answer: the refusal number as the result, 0 where accepted, the place, and the outputs, 0 on a refusal.
use Rattle.std.specs.Prelude.{ℕ, ◌≡◌, List, map, length, ℤ, Float}
use Rattle.floats.specs.Reasons.{refusal_number, refusal_place}
use Rattle.floats.specs.Answers.{Answer, number_of, place_of, value_of, Outcome}
use Rattle.callnotices.specs.declared.CallList.{CallList}
use Rattle.bondevents.specs.declared.GridAnswer.{GridAnswer}
use Rattle.bondevents.specs.declared.Side.TheVariants.{Call, Put}
use Rattle.bondevents.specs.Parts.{side_mark, side_price}
use Rattle.treebasedbondpricer.specs.declared.TreeValue.{TreeValue}
use Rattle.terms.specs.Terms.{CallSchedule, Market}
use Rattle.treebasedbondpricer.specs.Tree.{tree_value, Lent, room_of, lent_after}
use Rattle.treebasedbondpricer.specs.Tree as tree
use Rattle.sizing.specs.declared.Lengths.{Lengths}
use Rattle.sizing.specs.Sizing.{sizes_of, nodes_after, sizes_number, sizes_place, needed}
use Rattle.interestrate.specs.declared.YieldPrice.{YieldPrice}
use Rattle.brackets.specs.declared.Root.{Root}
use Rattle.spreads.specs.Spreads.{Quoted, spread_from_price}
use Rattle.spreads.specs.Spreads as spreads
use Rattle.bondanalytics.specs.Yields.{price_number, price_place, price_of, derivative_of}
use Rattle.brackets.specs.Brackets.{Searched, root_number, root_place, root_value, evaluations_of}

-- Of an elementary function and of the straight value.
pub record Handed (answer : Answer) (result place : ℕ) (value : Float) : Type 0 where
  pub number_is : result ≡ number_of answer
  pub place_is : place ≡ place_of answer
  pub value_is : value ≡ value_of answer

-- Of the grid: all 513 cashflows, and marks and prices of calls and of puts.
pub record HandedGrid (answer : GridAnswer) (result place : ℕ) (maturity : Float) (steps : ℕ) (cashflows : List Float) (marks : List ℕ) (prices : List Float) (put-marks : List ℕ) (put-prices : List Float) : Type 0 where
  pub number_is : result ≡ refusal_number answer.refusal
  pub place_is : place ≡ refusal_place answer.refusal
  pub maturity_is : maturity ≡ answer.grid.maturity_time
  pub steps_is : steps ≡ answer.grid.steps
  pub cashflows_are : cashflows ≡ answer.grid.cashflows
  pub marks_are : marks ≡ map (side_mark Call) answer.grid.calls
  pub prices_are : prices ≡ map (side_price Call) answer.grid.calls
  pub put_marks_are : put-marks ≡ map (side_mark Put) answer.grid.calls
  pub put_prices_are : put-prices ≡ map (side_price Put) answer.grid.calls

-- Of the call list that notices give: all 64 places.
pub record HandedList (answer : CallList) (result place count : ℕ) (starts ends : List ℕ) (strikes : List Float) : Type 0 where
  pub number_is : result ≡ refusal_number answer.refusal
  pub place_is : place ≡ refusal_place answer.refusal
  pub count_is : count ≡ answer.count
  pub starts_are : starts ≡ answer.starts
  pub ends_are : ends ≡ answer.ends
  pub strikes_are : strikes ≡ answer.strikes

-- Of the tree value.
pub record HandedValue (answer : Outcome TreeValue) (result place : ℕ) (value : Float) (nodes : ℕ) : Type 0 where
  pub number_is : result ≡ tree.number_of answer
  pub place_is : place ≡ tree.place_of answer
  pub value_is : value ≡ tree.value_of answer
  pub nodes_is : nodes ≡ tree.counted_by answer

-- Of the tree value's entry: the answer, and the end content of the four lent slices.
pub record HandedTree (m : Market) (calls : CallSchedule) (before after : Lent) (result place : ℕ) (value : Float) (nodes : ℕ) : Type 0 where
  pub handed : HandedValue (tree_value m calls (room_of before)) result place value nodes
  pub slices : after ≡ lent_after m calls before

-- Of price from yield.
pub record HandedPrice (answer : Outcome YieldPrice) (result place : ℕ) (price derivative : Float) : Type 0 where
  pub number_is : result ≡ price_number answer
  pub place_is : place ≡ price_place answer
  pub price_is : price ≡ price_of answer
  pub derivative_is : derivative ≡ derivative_of answer

-- Of yield from price; evaluations are reported on refusals too.
pub record HandedRoot (answer : Searched Root) (result place : ℕ) (value : Float) (evaluations : ℕ) : Type 0 where
  pub number_is : result ≡ root_number answer
  pub place_is : place ≡ root_place answer
  pub value_is : value ≡ root_value answer
  pub evaluations_is : evaluations ≡ evaluations_of answer

-- Of spread from price: the answer, tries on refusals too, and the end content of the four lent slices.
pub record HandedSpread (asked : Quoted) (calls : CallSchedule) (before after : Lent) (result place : ℕ) (spread : Float) (tried : ℕ) : Type 0 where
  pub handed : HandedRoot (spread_from_price asked calls (room_of before)) result place spread tried
  pub slices : after ≡ spreads.lent_after asked calls before

-- Of sizing: the lengths and the node count.
pub record HandedLengths (answer : Outcome Lengths) (result place nodes probabilities row count : ℕ) : Type 0 where
  pub number_is : result ≡ sizes_number answer
  pub place_is : place ≡ sizes_place answer
  pub nodes_is : nodes ≡ (needed answer).nodes
  pub probabilities_is : probabilities ≡ (needed answer).probabilities
  pub row_is : row ≡ (needed answer).row
  pub count_is : count ≡ (needed answer).count

-- Of the sizing entry: the answer, and the end content of the lent node slice.
pub record HandedSizes (m : Market) (calls : CallSchedule) (before after : List ℤ) (result place nodes probabilities row count : ℕ) : Type 0 where
  pub handed : HandedLengths (sizes_of m calls (length before)) result place nodes probabilities row count
  pub slice : after ≡ nodes_after m calls before
