-- Dropping calls or raising call prices can't lower a value of the walk back, nor adding puts or raising put prices, nor can raising the row that it starts from. Assumes nothing.
use Rattle.std.specs.Prelude.{ℕ, suc, ◌≡◌, refl, ℤ, Float, Ok, Err}
use mathlib.Core.List.{List, [], ◌∷◌}
use Rattle.std.proofs.Math.ListN.{get_or}
use Rattle.std.specs.Float.{binary64}
use Rattle.std.specs.Float.Ieee.{add, mul, neg, of_bits}
use Rattle.floats.specs.Answers.{Answer, plus_zero, tested, when_finite}
use Rattle.floats.specs.laws.Order.{number_of-finite, le_refl}
use Rattle.elementary.specs.Exponential.{exp_at}
use Rattle.elementary.specs.laws.Values.{Above, exp-value}
use Rattle.floats.specs.laws.Finite.{finite_of_add}
use Rattle.terms.specs.laws.Lockstep.{Meets, valued_both, refused_first, meets_then, meets_finite, Follows, given_both, follows-follow, follows-valued, follows_weaker, GivenOr27, given_or_27}
use Rattle.bondevents.specs.declared.CallStep.{CallStep}
use Rattle.bondevents.specs.Calls.{new_step}
use Rattle.bondevents.specs.laws.NoLower.{NoLower, NoLowerSteps}
use Rattle.lattice.specs.declared.Transition.{Transition}
use Rattle.lattice.specs.Layers.{At, value_at, node_float}
use Rattle.lattice.specs.Lattice.{Layer}
use Rattle.backwardinduction.specs.Walk.{Reads, expected, discount_of, exercised, node_value, rolled, final_row, walk_from}
use Rattle.lattice.specs.laws.Proper.{Weighted, Each, more, Proper}
use Rattle.backwardinduction.specs.laws.Rising.{Higher, Rises, rises-refl, rises_of_higher, times, plus, Rows, ends, beside, at_node, rises_of_rows}
use Rattle.backwardinduction.proofs.laws.Rising.{exercised-no_lower}

-- The same readings with another call step.
abbrev pub with_call : Reads → CallStep → Reads
with_call r c =
    record { spacing = r.spacing; dt = r.dt; shift = r.shift; spread = r.spread; call = c; cashflow = r.cashflow }

-- One and the same weight.
data Same : Float → Float → Type 0 where
  same : {x : Float} → Above x → Same x x

expected-rises : (t : Transition) → Weighted t → {next next' : List At} → Rows Rises next next' → (place : ℕ) → Meets Higher (expected t next place) (expected t next' place)
unfolding of_bits
expected-rises t w {next} {next'} rows place =
    let v = value_at t.down next in
    let v' = value_at t.down next' in
    let d = mul binary64 v t.probability_down in
    let d' = mul binary64 v' t.probability_down in
    let e = add binary64 plus_zero d in
    let e' = add binary64 plus_zero d' in
    let x = value_at t.middle next in
    let x' = value_at t.middle next' in
    let m = mul binary64 x t.probability_middle in
    let m' = mul binary64 x' t.probability_middle in
    let z = value_at t.up next in
    let z' = value_at t.up next' in
    let u = mul binary64 z t.probability_up in
    let u' = mul binary64 z' t.probability_up in
    let at : (n : ℤ) → Rises (value_at n next) (value_at n next') = λ n. at_node n (rises-refl plus_zero) rows in
    meets_finite d d' place _ _ λ f f'.
    let D = times v v' t.probability_down (at t.down) w.down f f' in
    meets_finite e e' place _ _ λ f f'.
    let E = plus plus_zero plus_zero d d' (le_refl plus_zero tt) D.no_lower f f' in
    meets_finite m m' place _ _ λ f f'.
    let M = times x x' t.probability_middle (at t.middle) w.middle f f' in
    meets_finite (add binary64 e m) (add binary64 e' m') place _ _ λ f f'.
    let S = plus e e' m m' E.no_lower M.no_lower f f' in
    meets_finite u u' place _ _ λ f f'.
    let U = times z z' t.probability_up (at t.up) w.up f f' in
    meets_finite (add binary64 (add binary64 e m) u) (add binary64 (add binary64 e' m') u') place _ _ λ f f'.
    valued_both (plus (add binary64 e m) (add binary64 e' m') u u' S.no_lower U.no_lower f f')

-- What is done with expectation and discount.
abbrev after : Reads → Float → Float → ℕ → Answer
after r e d place = when_finite (mul binary64 e d) place λ continuation. tested (add binary64 (exercised r.call continuation) r.cashflow) place

continued : (r : Reads) (c : CallStep) → NoLower r.call c → (e e' : Float) → Higher e e' → (place : ℕ) → {d d' : Float} → Same d d' → Meets Higher (after r e d place) (after (with_call r c) e' d' place)
continued r c lower e e' E place (same {x = d} w) =
    let x = mul binary64 e d in
    let x' = mul binary64 e' d in
    let paid = r.cashflow in
    meets_finite x x' place _ _ λ f f'.
    let X = times e e' d (rises_of_higher e e' E) w f f' in
    meets_finite (add binary64 (exercised r.call x) paid) (add binary64 (exercised c x') paid) place _ _ λ f f'.
    let p = (finite_of_add binary64 (exercised r.call x) paid f).1 in
    valued_both
    (plus (exercised r.call x) (exercised c x') paid paid (exercised-no_lower r.call c x x' lower X.no_lower) (le_refl paid (number_of-finite paid p)) f f')

final-rises : (cashflow : Float) (nodes : List ℤ) → Rows Rises (final_row cashflow nodes) (final_row cashflow nodes)
unfolding final_row
final-rises cashflow [] = ends
final-rises cashflow (n ∷ nodes) = beside (rises-refl cashflow) (final-rises cashflow nodes)

-- exp, where it has a value, is finite and not below 0
exp_same : (x : Float) (place : ℕ) → Meets Same (exp_at x place) (exp_at x place)
exp_same x place = go (exp_at x place) (exp-value x place)
  where
    go : (a : Answer) → ((y : Float) → a ≡ Ok y → Above y) → Meets Same a a
    go (Ok y) h = valued_both (same (h y refl))
    go (Err r) h = refused_first

discount_same : (r : Reads) (n : ℤ) (place : ℕ) → Meets Same (discount_of r n place) (discount_of r n place)
discount_same r n place =
    let state = mul binary64 r.spacing (node_float n) in
    let rate = add binary64 r.shift state in
    let short = add binary64 rate r.spread in
    let x = mul binary64 short (neg r.dt) in
    meets_finite state state place _ _ λ _ _.
    meets_finite rate rate place _ _ λ _ _.
    meets_finite short short place _ _ λ _ _.
    meets_finite x x place _ _ λ _ _. exp_same x place

-- One node: with the same readings but for the call step.
pub node-rises : (r : Reads) (c : CallStep) → NoLower r.call c → (n : ℤ) (t : Transition) → Weighted t → {next next' : List At} → Rows Rises next next' → (place : ℕ) → Meets Higher (node_value r n t next place) (node_value (with_call r c) n t next' place)
unfolding node_value
node-rises r c lower n t w {next} {next'} rows place =
    meets_then (expected t next place) (expected t next' place) _ _ (expected-rises t w rows place) λ e e' E.
    meets_then (discount_of r n place) (discount_of r n place) _ _ (discount_same r n place) λ d d' D. continued r c lower e e' E place D

-- One layer.
pub layer_rises : (r : Reads) (c : CallStep) → NoLower r.call c → (nodes : List ℤ) (ts : List Transition) → Each Weighted ts → {next next' : List At} → Rows Rises next next' → (place : ℕ) → Follows (Rows Higher) (rolled r nodes ts next place) (rolled (with_call r c) nodes ts next' place)
unfolding rolled
layer_rises r c lower [] ts ws rows place = given_both ends
layer_rises r c lower (n ∷ nodes) [] ws rows place = given_both ends
layer_rises r c lower (n ∷ nodes) (t ∷ ts) (more w ws) {next} {next'} rows place =
    follows-valued _ _ _ _ (node-rises r c lower n t w rows place) λ v v' h.
    follows-follow _ _ _ _ (layer_rises r c lower nodes ts ws rows place) λ row row' rest. given_both (beside h rest)

module _ (dt spread : Float) (cashflows : List Float) (calls calls' : List CallStep) (lower : NoLowerSteps calls calls') where
  -- One step of the walk, after the rest of it.
  step_follows : (k : ℕ) (l : Layer) (layers : List Layer) → Each Weighted l.transitions → (shift : Float) (shifts : List Float) (final : List ℤ) → Follows (Rows Rises) (walk_from dt spread cashflows calls (suc k) layers shifts final) (walk_from dt spread cashflows calls' (suc k) layers shifts final) → Follows (Rows Higher) (walk_from dt spread cashflows calls k (l ∷ layers) (shift ∷ shifts) final) (walk_from dt spread cashflows calls' k (l ∷ layers) (shift ∷ shifts) final)
  unfolding walk_from
  step_follows k l layers p shift shifts final rest =
      let r : Reads = record {
        spacing = l.spacing;
        dt = dt;
        shift = shift;
        spread = spread;
        call = get_or calls k new_step;
        cashflow = get_or cashflows k plus_zero;
      } in
      follows-follow _ _ _ _ rest λ next next' rows.
      layer_rises r (get_or calls' k new_step) (lower k) l.nodes l.transitions p rows k

  -- The walk from step k on, with both rows of steps.
  pub walk-follows : (k : ℕ) (layers : List Layer) → Proper layers → (shifts : List Float) (final : List ℤ) → Follows (Rows Rises) (walk_from dt spread cashflows calls k layers shifts final) (walk_from dt spread cashflows calls' k layers shifts final)
  walk-follows k [] ps shifts final = unfold walk_from in given_both (final-rises (get_or cashflows k plus_zero) final)
  walk-follows k (l ∷ layers) ps [] final = unfold walk_from in given_both (final-rises (get_or cashflows k plus_zero) final)
  walk-follows k (l ∷ layers) (more p ps) (shift ∷ shifts) final =
      follows_weaker (λ row row' rows. rises_of_rows rows) (step_follows k l layers p shift shifts final (walk-follows (suc k) layers ps shifts final))

  -- With a step at least every value is finite.
  pub walk-higher : (k : ℕ) (l : Layer) (layers : List Layer) → Proper (l ∷ layers) → (shift : Float) (shifts : List Float) (final : List ℤ) → Follows (Rows Higher) (walk_from dt spread cashflows calls k (l ∷ layers) (shift ∷ shifts) final) (walk_from dt spread cashflows calls' k (l ∷ layers) (shift ∷ shifts) final)
  walk-higher k l layers (more p ps) shift shifts final = step_follows k l layers p shift shifts final (walk-follows (suc k) layers ps shifts final)

  -- Where the walk with the first steps gives a row, that with the second gives one that is no lower, or is refused with 27.
  pub walk-no_lower : (k : ℕ) (layers : List Layer) → Proper layers → (shifts : List Float) (final : List ℤ) (row : List At) → walk_from dt spread cashflows calls k layers shifts final ≡ Ok row → GivenOr27 (Rows Rises row) (walk_from dt spread cashflows calls' k layers shifts final)
  walk-no_lower k layers ps shifts final row e = given_or_27 (walk-follows k layers ps shifts final) e
