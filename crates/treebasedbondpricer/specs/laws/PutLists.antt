-- The put-list rule and the reordering of puts, proved over any curve, and of the tree value: the walk's law with the lists' roles exchanged. Assumes nothing.
use Rattle.std.specs.Prelude.{ℕ, ◌≡◌, T, Float, Ok}
use Rattle.std.proofs.Math.Path.{refl, sym}
use Rattle.std.proofs.Common.{◌∙◌}
use Rattle.std.specs.Float.Ieee.{le}
use Rattle.floats.specs.Reasons.{refusal_number}
use Rattle.floats.specs.Answers.{Answer}
use Rattle.terms.specs.Terms.{CallSchedule, Market, bond_with_puts, with_puts}
use Rattle.terms.specs.CallLists.{LoweredFrom, Reordered}
use Rattle.terms.specs.Entries.{tree_checks}
use Rattle.terms.specs.laws.Outcomes.{given_or_refused, same_given}
use Rattle.terms.specs.laws.Lockstep.{GivenOr27, is_given, is_27}
use Rattle.terms.specs.laws.GridChecks.{grid-terms}
use Rattle.terms.specs.laws.TreeChecks.{tree-grid, tree-puts-alike}
use Rattle.terms.proofs.MadeLists.{reordered-calls}
use Rattle.bondevents.specs.declared.BondEventGrid.{BondEventGrid}
use Rattle.bondevents.specs.Grid.{grid_answer}
use Rattle.bondevents.specs.laws.NoLower.{NoLowerGrid}
use Rattle.bondevents.proofs.laws.GridAnswers.{Accepted, accepted, checked-puts, puts-reordered-accepted, answer-puts-reordered}
use Rattle.lattice.specs.Layers.{Room}
use Rattle.treebasedbondpricer.specs.Tree.{lattice_value_over, tree_value_over, tree_value, curve_of, lent_after}
use Rattle.treebasedbondpricer.specs.PutLists.{PutListRule, SamePutAnswers, PutReorderingRule, AnyCurvePutRule}
use Rattle.treebasedbondpricer.specs.laws.CallLists.{Valued, grid_for, answer_is, valued_as}
use Rattle.treebasedbondpricer.specs.laws.ValueRising.{Values, values, value-no_lower}

-- Nothing of the tree reads the puts but through the grid.
same_tree : (curve : Float → ℕ → Answer) (m : Market) (puts : CallSchedule) (room : Room) (g : BondEventGrid) → lattice_value_over curve (with_puts m puts) room g ≡ lattice_value_over curve m room g
same_tree curve m puts room g = unfold lattice_value_over in refl

-- ---- dropping, lowering and reordering

no_lower_of : {x y : Float} {n k : ℕ} → Values (Ok (record { value = y; nodes = k })) (Ok (record { value = x; nodes = n })) → T (le y x)
no_lower_of (values h) = h.no_lower

any_lowered : (curve : Float → ℕ → Answer) (m : Market) (calls : CallSchedule) (room : Room) (first second : CallSchedule) (x y : Float) (n k : ℕ) → LoweredFrom first second
    → tree_value_over curve (with_puts m first) calls room ≡ Ok (record { value = x; nodes = n }) → tree_value_over curve (with_puts m second) calls room ≡ Ok (record { value = y; nodes = k }) → T (le y x)
any_lowered curve m calls room first second x y n k lowered d e =
    go (value-no_lower curve m room b.grid a.grid rows (Ok (record { value = y; nodes = k })) (sym (same_tree curve m second room b.grid) ∙ b.has_value))
  where
    a : Valued curve (with_puts m first) calls room x n
    a = valued_as curve (with_puts m first) calls room x n d

    b : Valued curve (with_puts m second) calls room y k
    b = valued_as curve (with_puts m second) calls room y k e

    rows : NoLowerGrid b.grid a.grid
    rows = checked-puts m.settlement m.bond calls m.controls first second (tree-grid (with_puts m first) calls a.checked) lowered a.grid b.grid a.has-grid b.has-grid

    value : lattice_value_over curve m room a.grid ≡ Ok (Ok (record { value = x; nodes = n }))
    value = sym (same_tree curve m first room a.grid) ∙ a.has_value

    go : GivenOr27 (Values (Ok (record { value = y; nodes = k }))) (lattice_value_over curve m room a.grid) → T (le y x)
    go (is_given v g l) = no_lower_of (rw (same_given (sym g ∙ value)) at l)
    go (is_27 r g t) = absurd (given_or_refused value g)

pub put_list_rule : PutListRule
unfolding tree_value
put_list_rule m calls room first second x y n k lowered d e = any_lowered (curve_of m) m calls room first second x y n k lowered d e

-- ---- reordering alone

module _ (m : Market) (calls first second : CallSchedule) (r : Reordered first second) (zero_number : refusal_number (grid_answer m.settlement (bond_with_puts m.bond first) calls m.controls).refusal ≡ 0) where
  a : Accepted m.settlement (bond_with_puts m.bond first) calls m.controls
  a = accepted m.settlement (bond_with_puts m.bond first) calls m.controls zero_number

  same_checks : tree_checks (with_puts m second) calls ≡ tree_checks (with_puts m first) calls
  same_checks =
      let k = (grid-terms m.settlement (bond_with_puts m.bond first) calls m.controls a.checked).puts in
      tree-puts-alike m calls first second k (reordered-calls first second r k)

  any_reordered : (curve : Float → ℕ → Answer) (room : Room) → tree_value_over curve (with_puts m second) calls room ≡ tree_value_over curve (with_puts m first) calls room
  unfolding lattice_value_over
  any_reordered curve room =
      let grid = (puts-reordered-accepted m.settlement m.bond calls m.controls first second a r).1 ∙ sym a.has-grid in
      answer_is curve (with_puts m second) calls room (tree_checks (with_puts m first) calls) (grid_for (with_puts m first) calls) same_checks grid
      ∙ sym (answer_is curve (with_puts m first) calls room (tree_checks (with_puts m first) calls) (grid_for (with_puts m first) calls) refl refl)

  same_answers : SamePutAnswers m calls first second
  unfolding tree_value
  same_answers =
      record {
        grids = answer-puts-reordered m.settlement m.bond calls m.controls first second a r;
        values = any_reordered (curve_of m);
        slices = λ lent. unfold lent_after in rw same_checks;
      }

pub put_reordering_rule : PutReorderingRule
put_reordering_rule = same_answers

pub any_curve_put_rule : AnyCurvePutRule
any_curve_put_rule curve = record { dropped_or_lowered = any_lowered curve; reordered = λ m calls first second r zero_number room. any_reordered m calls first second r zero_number curve room }
