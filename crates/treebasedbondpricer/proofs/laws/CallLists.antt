-- The call-list rule and the reordering rule, proved over any curve, and of the tree value. Assumes nothing.
use Rattle.std.specs.Prelude.{ℕ, Float, Ok, Err}
use Rattle.std.proofs.Math.Path.{◌≡◌, refl}
use Rattle.std.proofs.Common.{sym, ap, ◌∙◌, inl, inr, arith}
use Rattle.floats.specs.Refusals.{Refusal}
use Rattle.floats.specs.declared.Reason.TheVariants as reason
use Rattle.floats.specs.Reasons.{refusal_number, reason_number}
use Rattle.floats.specs.Answers.{Answer, Outcome, on_outcome}
use Rattle.floats.specs.laws.Order.{not_le_of_lt}
use Rattle.terms.specs.Numbers.{million}
use Rattle.terms.specs.Terms.{CallSchedule, Market}
use Rattle.terms.specs.CallLists.{MadeFrom, Reordered, StrikeAbove, strike_of}
use Rattle.terms.specs.Checks.{on_check}
use Rattle.terms.specs.Entries.{tree_checks}
use Rattle.terms.specs.laws.Lockstep.{GivenOr27, is_given, is_27}
use Rattle.terms.specs.laws.GridChecks.{grid-calls}
use Rattle.terms.specs.laws.TreeChecks.{tree-grid}
use Rattle.terms.specs.laws.MadeLists.{AllWithin, strikes-decided}
use Rattle.terms.proofs.MadeLists.{tree-made-refused, tree-made-passed, tree-reordered-alike}
use Rattle.bondevents.specs.declared.BondEventGrid.{BondEventGrid}
use Rattle.bondevents.specs.Grid.{grid_answer}
use Rattle.bondevents.specs.laws.NoLower.{NoLowerGrid}
use Rattle.bondevents.proofs.laws.GridAnswers.{Accepted, accepted, checked-no_lower, reordered-accepted, answer-reordered}
use Rattle.treebasedbondpricer.specs.declared.TreeValue.{TreeValue}
use Rattle.lattice.specs.Layers.{Room}
use Rattle.treebasedbondpricer.specs.Tree.{lattice_value_over, tree_value_over, tree_value, curve_of, lent_after, number_of}
use Rattle.treebasedbondpricer.specs.CallLists as rule
use Rattle.treebasedbondpricer.specs.CallLists.{NoLowerOr27, Thinned, CallListRule, SameAnswers, ReorderingRule, AnyCurveRule}
use Rattle.treebasedbondpricer.specs.laws.CallLists.{grid_for, Valued, answer_is, valued_as}
use Rattle.treebasedbondpricer.specs.laws.ValueRising.{Values, values, value-no_lower}

-- ---- the tree value put together again from its parts

module _ (curve : Float → ℕ → Answer) (m : Market) (calls : CallSchedule) (room : Room) where
  refused_by_check : (r : Refusal) → tree_checks m calls ≡ Err r → tree_value_over curve m calls room ≡ Err r
  unfolding on_check
  refused_by_check r e = answer_is curve m calls room (Err r) (grid_for m calls) e refl

  refused_by-grid : (r : Refusal) → tree_checks m calls ≡ Ok tt → grid_for m calls ≡ Err r → tree_value_over curve m calls room ≡ Err r
  unfolding on_check on_outcome
  refused_by-grid r e g = answer_is curve m calls room (Ok tt) (Err r) e g

  of_tree : (grid : BondEventGrid) (o : Outcome (Outcome TreeValue)) → tree_checks m calls ≡ Ok tt → grid_for m calls ≡ Ok grid → lattice_value_over curve m room grid ≡ o → tree_value_over curve m calls room ≡ on_outcome o Err (λ v. v)
  unfolding on_check on_outcome
  of_tree grid o e g h = answer_is curve m calls room (Ok tt) (Ok grid) e g ∙ rw h

-- ---- dropping, raising and reordering

or_27 : (x : Float) (r : Refusal) (answer : Outcome TreeValue) → answer ≡ Err r → r.reason ≡ reason.NotFinite → NoLowerOr27 x answer
or_27 x r answer e n = rw (e, n) rule.refused_27

module _ (curve : Float → ℕ → Answer) (m : Market) (room : Room) (first second : CallSchedule) (x : Float) (n : ℕ) (made : MadeFrom first second) (a : Valued curve m first room x n) where
  -- No strike above 1,000,000.
  within : AllWithin second → NoLowerOr27 x (tree_value_over curve m second room)
  unfolding on_outcome
  within w = of_grid (checked-no_lower m.settlement m.bond first second m.controls (tree-grid m first a.checked) made a.grid a.has-grid)
    where
      passed : tree_checks m second ≡ Ok tt
      passed = tree-made-passed first second made m a.checked w

      of_values : (q : BondEventGrid) (v : Outcome TreeValue) → grid_for m second ≡ Ok q → lattice_value_over curve m room q ≡ Ok v → Values (Ok (record { value = x; nodes = n })) v → NoLowerOr27 x (tree_value_over curve m second room)
      of_values q v g e (values h) = rw (of_tree curve m second room q (Ok v) passed g e) (rule.accepted h.no_lower)

      of_tree-value : (q : BondEventGrid) → grid_for m second ≡ Ok q → GivenOr27 (Values (Ok (record { value = x; nodes = n }))) (lattice_value_over curve m room q) → NoLowerOr27 x (tree_value_over curve m second room)
      of_tree-value q g (is_given v e l) = of_values q v g e l
      of_tree-value q g (is_27 r e t) = or_27 x r (tree_value_over curve m second room) (of_tree curve m second room q (Err r) passed g e) t

      of_grid : GivenOr27 (NoLowerGrid a.grid) (grid_for m second) → NoLowerOr27 x (tree_value_over curve m second room)
      of_grid (is_given q g l) = of_tree-value q g (value-no_lower curve m room a.grid q l (Ok (record { value = x; nodes = n })) a.has_value)
      of_grid (is_27 r g t) = or_27 x r (tree_value_over curve m second room) (refused_by-grid curve m second room r passed g) t

  -- One strike above 1,000,000, and all of them up to it: not both.
  not_both : StrikeAbove second → AllWithin second → ⊥
  not_both s w = not_le_of_lt million (strike_of second s.entry) s.above (w s.entry s.of_list)

  thinned : Thinned x second (tree_value_over curve m second room)
  thinned =
      elim (strikes-decided first second made) [
        | inl s ↦
            let above : StrikeAbove second = record { entry = s.index; of_list = s.below; above = s.holds } in
            let (r, e, four) = tree-made-refused first second made m a.checked s in
            let answer = refused_by_check curve m second room r e in
            record { with_4 = ((λ _. above), (λ _. ap number_of answer ∙ ap reason_number four)); otherwise = λ none. absurd (none above) }
        | inr w ↦
            record {
              with_4 = ((λ four. absurd (not_4 (within w) four)), (λ s. absurd (not_both s w)));
              otherwise = λ _. within w;
            }
      ]
    where
      not_4 : {answer : Outcome TreeValue} → NoLowerOr27 x answer → number_of answer ≡ 4 → ⊥
      not_4 (rule.accepted l) four = omega arith
      not_4 rule.refused_27 four = omega arith

any_thinned : (curve : Float → ℕ → Answer) (m : Market) (room : Room) (first second : CallSchedule) (x : Float) (n : ℕ) → MadeFrom first second → tree_value_over curve m first room ≡ Ok (record { value = x; nodes = n }) → Thinned x second (tree_value_over curve m second room)
any_thinned curve m room first second x n made h = thinned curve m room first second x n made (valued_as curve m first room x n h)

-- The tree value's rule is that of the curve of its pillars.
pub call_list_rule : CallListRule
unfolding tree_value
call_list_rule m room first second x n made h = any_thinned (curve_of m) m room first second x n made h

-- ---- reordering alone

module _ (m : Market) (first second : CallSchedule) (r : Reordered first second) (zero_number : refusal_number (grid_answer m.settlement m.bond first m.controls).refusal ≡ 0) where
  a : Accepted m.settlement m.bond first m.controls
  a = accepted m.settlement m.bond first m.controls zero_number

  same_checks : tree_checks m second ≡ tree_checks m first
  same_checks = tree-reordered-alike first second r m (grid-calls m.settlement m.bond first m.controls a.checked)

  any_reordered : (curve : Float → ℕ → Answer) (room : Room) → tree_value_over curve m second room ≡ tree_value_over curve m first room
  any_reordered curve room =
      let grid = (reordered-accepted m.settlement m.bond first second m.controls a r).1 ∙ sym a.has-grid in
      answer_is curve m second room (tree_checks m first) (grid_for m first) same_checks grid ∙ sym (answer_is curve m first room (tree_checks m first) (grid_for m first) refl refl)

  same_answers : SameAnswers m first second
  unfolding tree_value
  same_answers =
      record {
        grids = answer-reordered m.settlement m.bond first second m.controls a r;
        values = any_reordered (curve_of m);
        slices = λ lent. unfold lent_after in rw same_checks;
      }

pub reordering_rule : ReorderingRule
reordering_rule = same_answers

pub any_curve_rule : AnyCurveRule
any_curve_rule curve = record { dropped_or_raised = any_thinned curve; reordered = λ m first second r zero_number room. any_reordered m first second r zero_number curve room }
