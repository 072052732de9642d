-- The walk's answer beside the node count, from a fitted tree in the slices. Assumes nothing.
use Rattle.std.specs.Prelude.{ℕ, ◌≡◌, Bool, List, map, ℤ, pos, Float, Ok, Err}
use Rattle.std.proofs.Math.Path.{refl, sym, ap}
use Rattle.std.proofs.Common.{subst, ◌∙◌}
use Rattle.floats.specs.Refusals.{Refusal}
use Rattle.floats.specs.Answers.{Answer, Outcome, follow, on_outcome}
use Rattle.terms.specs.laws.Outcomes.{follow-given, follow-refused}
use Rattle.bondevents.specs.declared.CallStep.{CallStep}
use Rattle.bondevents.specs.Parts.{step_mark, step_prices}
use Rattle.treebasedbondpricer.specs.declared.TreeValue.{TreeValue}
use Rattle.treebasedbondpricer.specs.declared.fitted.FittedTree.{FittedTree}
use Rattle.lattice.specs.Layers.{At, value_at}
use Rattle.backwardinduction.specs.laws.WalkRoot.{root_of}
use Rattle.backwardinduction.specs.Walk.{walk_from}
use Rattle.treebasedbondpricer.specs.Tree.{Fitted}
use Rattle.lattice.specs.Lattice.{node_count}
use Rattle.lattice.specs.laws.Laid.{layers_in, final_in, Laid}
use Rattle.lattice.specs.laws.Totals.{total_of, laid-nodes}
use Rattle.backwardinduction.specs.laws.WalkMore.{calls_of}
use Rattle.treebasedbondpricer.specs.laws.Marks.{calls_back}
use Rattle.treebasedbondpricer.specs.laws.FittedIn.{FittedIn, FitsTree, fits, refuses}

-- A refusal as the tree value.
unfoldable pub tree_of : Outcome (Outcome TreeValue) → Outcome TreeValue
tree_of (Ok v) = v
tree_of (Err q) = Err q

abbrev pub counted_value : Answer → ℕ → Outcome TreeValue
counted_value (Ok x) n = Ok (record { value = x; nodes = n })
counted_value (Err q) n = Err q

-- The row of step 0 of a fitted tree.
abbrev pub row_over : Float → List Float → List CallStep → Fitted → Outcome (List At)
row_over spread cashflows calls f = walk_from f.dt spread cashflows calls 0 f.tree.layers f.shifts f.tree.final

-- Its root's value, and the node count.
abbrev pub walked : Float → List Float → List CallStep → Fitted → Outcome (Outcome TreeValue)
walked spread cashflows calls f = follow (row_over spread cashflows calls f) λ row. Ok (Ok (record { value = (value_at (pos 0) row); nodes = (node_count f.tree) }))

-- ---- a fitted tree that stands in the slices

pub record Standing (o : Outcome Fitted) (dt : Float) (flat : Bool) (one two : ℕ) (counts : List ℕ) (spacings shifts : List Float) (nodes : List ℤ) (probabilities : List Float) : Type 0 where
  pub content : Fitted
  pub is : o ≡ Ok content
  pub fitted : FittedIn content dt flat one two counts spacings shifts nodes probabilities

module _ {o : Outcome Fitted} {one two : ℕ} {counts : List ℕ} {spacings shifts : List Float} {nodes : List ℤ} {probabilities : List Float} where
  pub standing : {r : Outcome FittedTree} {dt : Float} {flat : Bool} → FitsTree o one two counts spacings shifts nodes probabilities r → r ≡ Ok (record { dt = dt; flat = flat }) → Standing o dt flat one two counts spacings shifts nodes probabilities
  standing {r} {dt} {flat} p e = go (subst (FitsTree o one two counts spacings shifts nodes probabilities) e p)
    where
      go : FitsTree o one two counts spacings shifts nodes probabilities (Ok (record { dt = dt; flat = flat })) → Standing o dt flat one two counts spacings shifts nodes probabilities
      go (fits f g h) = record { content = f; is = g; fitted = h }

  pub not_standing : {r : Outcome FittedTree} {q : Refusal} → FitsTree o one two counts spacings shifts nodes probabilities r → r ≡ Err q → o ≡ Err q
  not_standing {r} {q} p e = go (subst (FitsTree o one two counts spacings shifts nodes probabilities) e p)
    where
      go : FitsTree o one two counts spacings shifts nodes probabilities (Err q) → o ≡ Err q
      go (refuses g) = g

  -- a refused tree has no value
  pub value-refused : {r : Outcome FittedTree} {v : Outcome TreeValue} {q : Refusal} (k : Fitted → Outcome (Outcome TreeValue)) → FitsTree o one two counts spacings shifts nodes probabilities r → r ≡ Err q → v ≡ Err q → v ≡ tree_of (follow o k)
  unfolding tree_of
  value-refused k p e f = f ∙ sym (ap tree_of (follow-refused o k (not_standing p e)))

  module _ {dt : Float} {flat : Bool} (s : Standing o dt flat one two counts spacings shifts nodes probabilities) where
    pub laid : Laid flat one two counts spacings nodes probabilities
    laid = s.fitted.stands.laid

    -- the walk over what stands there
    abbrev pub row_in0 : Float → List Float → List CallStep → Outcome (List At)
    row_in0 spread cashflows calls = walk_from dt spread cashflows calls 0 (layers_in flat counts spacings nodes probabilities) shifts (final_in counts spacings nodes)

    pub same_row : (spread : Float) (cashflows : List Float) (calls : List CallStep) → row_over spread cashflows calls s.content ≡ row_in0 spread cashflows calls
    same_row spread cashflows calls = rw (s.fitted.dt_is, s.fitted.shifts_are, s.fitted.stands.layers, s.fitted.stands.final)

    same_count : node_count s.content.tree ≡ total_of counts
    same_count = rw (← s.fitted.stands.layers, ← s.fitted.stands.final) (laid-nodes laid)

    counted_as : (w : Outcome (List At)) (n : ℕ) → counted_value (root_of w) n ≡ tree_of (follow w λ row. Ok (Ok (record { value = (value_at (pos 0) row); nodes = n })))
    unfolding tree_of on_outcome
    counted_as (Ok row) n = refl
    counted_as (Err q) n = refl

    pub value_is : (spread : Float) (cashflows : List Float) (calls : List CallStep) {a : Answer} {n : ℕ} {v : Outcome TreeValue} → a ≡ root_of (row_in0 spread cashflows calls) → n ≡ total_of counts → v ≡ counted_value a n → v ≡ tree_of (follow o (walked spread cashflows calls))
    value_is spread cashflows calls {a} {n} {v} e f g =
        g
        ∙ ap (λ (z : Answer). counted_value z n) e
        ∙ ap (counted_value (root_of (row_in0 spread cashflows calls))) (f ∙ sym same_count)
        ∙ ap (λ (w : Outcome (List At)). counted_value (root_of w) (node_count s.content.tree)) (sym (same_row spread cashflows calls))
        ∙ counted_as (row_over spread cashflows calls s.content) (node_count s.content.tree)
        ∙ sym (ap tree_of (follow-given o (walked spread cashflows calls) s.is))

-- The calls as marks and prices are the calls.
pub same_calls : {marks : List ℕ} {prices : List Float} (calls : List CallStep) → marks ≡ map step_mark calls → prices ≡ step_prices calls → calls_of marks prices ≡ calls
same_calls {marks} {prices} calls e f = ap (λ (ms : List ℕ). calls_of ms prices) e ∙ ap (calls_of (map step_mark calls)) f ∙ calls_back calls

pub value_with-calls : (o : Outcome Fitted) (spread : Float) (cashflows : List Float) (calls : List CallStep) {marks : List ℕ} {prices : List Float} {v : Outcome TreeValue} → v ≡ tree_of (follow o (walked spread cashflows (calls_of marks prices))) → marks ≡ map step_mark calls → prices ≡ step_prices calls → v ≡ tree_of (follow o (walked spread cashflows calls))
value_with-calls o spread cashflows calls e f g = e ∙ ap (λ (cs : List CallStep). tree_of (follow o (walked spread cashflows cs))) (same_calls calls f g)
