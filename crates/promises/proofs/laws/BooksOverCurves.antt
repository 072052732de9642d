-- Books over any curves: all values or none, and each bond as alone in any slices. Assumes nothing.
use Rattle.std.specs.Prelude.{ℕ, ◌-◌, ◌≡◌, refl, ◌⊎◌, List, ◌++◌, replicate, Float, Ok, Err}
use Rattle.std.proofs.Common.{arith, sym, ap, ◌∙◌, inl, inr}
use Rattle.floats.specs.Answers.{Answer, Check, Outcome, follow, on_outcome}
use Rattle.terms.specs.Terms.{CallSchedule, Market}
use Rattle.terms.specs.Checks.{on_check}
use Rattle.terms.specs.Entries.{tree_checks}
use Rattle.bondevents.specs.declared.BondEventGrid.{BondEventGrid}
use Rattle.bondevents.specs.Grid.{event_grid}
use Rattle.lattice.specs.Layers.{Room}
use Rattle.lattice.specs.Lattice.{Lattice}
use Rattle.treebasedbondpricer.specs.declared.TreeValue.{TreeValue}
use Rattle.treebasedbondpricer.specs.Tree.{lattice_value_over, tree_value_over, number_of, value_of, counted_by}
use Rattle.bookchecks.specs.Checks as book
use Rattle.bookchecks.specs.Book.{Book, market_at, calls_at}
use Rattle.bookchecks.specs.Checks.{first_refused}
use Rattle.bookchecks.proofs.laws.Naming.{all_pass, pass_all}
use Rattle.bookvalue.specs.declared.BookAnswer.{BookAnswer}
use Rattle.bookvalue.specs.Values.{refused_tree, each, desk_of}
use Rattle.bookvalue.specs.laws.Placed.{each-alike}
use Rattle.promises.specs.OneCount.{total_to}
use Rattle.promises.specs.Rooms.{SameValueOr21, same, first_21, second_21}
use Rattle.promises.specs.Books.{size, over_curves, book_over, Accepted, AllOrNoneOver, all_given, none-given, AnyCurveBooks}
use Rattle.promises.proofs.laws.Rooms.{Alike}
use Rattle.promises.proofs.laws.SizedValues.{fit_and_walk, value_from_layers}
use Rattle.promises.proofs.laws.Sizing.{layers-alike}
use Rattle.promises.proofs.laws.BookAnswers.{Cause, by_checks, by_value, by_sum, all_passed, cause, answer_of_all, counts_of}
use Rattle.promises.proofs.laws.BookRules.{thinned, book-lowered, same_book}
use Rattle.promises.proofs.laws.DeskCounts.{together, desk_in}
use Rattle.promises.proofs.laws.Books.{value_of_lem}

-- ---- the tree value over any curve, in two rooms

ends-alike : {o p : Outcome Lattice} (k : Lattice → Outcome (Outcome TreeValue)) → Alike o p → SameValueOr21 (on_outcome (follow o k) Err λ v. v) (on_outcome (follow p k) Err λ v. v)
unfolding on_outcome
ends-alike k same = same
ends-alike k first_21 = first_21
ends-alike k second_21 = second_21

-- The same, or one of them is refused with 21.
pub any_curve_room : (curve : Float → ℕ → Answer) (m : Market) (calls : CallSchedule) (a b : Room) → SameValueOr21 (tree_value_over curve m calls a) (tree_value_over curve m calls b)
unfolding tree_value_over on_check on_outcome
any_curve_room curve m calls a b = go (tree_checks m calls) (event_grid m.settlement m.bond calls m.controls)
  where
    go : (c : Check) (o : Outcome BondEventGrid)
        → SameValueOr21 (on_check c Err (on_outcome (follow o λ g. lattice_value_over curve m a g) Err λ v. v)) (on_check c Err (on_outcome (follow o λ g. lattice_value_over curve m b g) Err λ v. v))
    go (Err q) o = same
    go (Ok tt) (Err q) = same
    go (Ok tt) (Ok g) =
        rw (value_from_layers curve m g a, value_from_layers curve m g b)
        (ends-alike (fit_and_walk curve m g) (layers-alike m a b g.maturity_time g.steps))

-- Beside a value: the same one, or 21.
beside-value : {v w : Outcome TreeValue} {x : Float} {n : ℕ} → SameValueOr21 v w → w ≡ Ok (record { value = x; nodes = n }) → (v ≡ Ok (record { value = x; nodes = n })) ⊎ (number_of v ≡ 21)
beside-value same e = inl e
beside-value first_21 e = inr refl
beside-value second_21 e = absurd (let z : ◌≡◌ {A = ℕ} 0 1 = cc in omega arith)

-- ---- all or none

module _ (curves : ℕ → Float → ℕ → Answer) (b : Book) (room : Room) where
  abbrev value : ℕ → Outcome TreeValue
  value = over_curves curves b room

  valued_pass : Accepted curves b room → first_refused (λ i. refused_tree (value i)) (size b) 0 ≡ book.Passed
  valued_pass a = pass_all _ (size b) 0 λ k l m. ap refused_tree (a.valued k (omega arith))

  whole : {answer : BookAnswer} → Cause value b answer → AllOrNoneOver curves b room answer
  whole (by_checks e) = none-given λ a. let p = sym a.checked ∙ e in let z : ◌≡◌ {A = ℕ} 0 1 = cc in omega arith
  whole (by_value e f) = none-given λ a. let p = sym (valued_pass a) ∙ f in let z : ◌≡◌ {A = ℕ} 0 1 = cc in omega arith
  whole (by_sum e f g) = none-given λ a. let p = sym a.summed ∙ g in let z : ◌≡◌ {A = ℕ} 0 1 = cc in omega arith
  whole (all_passed e f g) =
      all_given (record { checked = e; values = λ i. value_of (value i); counts = λ i. counted_by (value i); valued = λ i h. value_of_lem (value i) (all_pass _ (size b) f i h); summed = g })

  total_of : (a : Accepted curves b room) → total_to (book_over curves b room).counts 8 ≡ total_to (each a.counts (size b) ++ replicate (32 - size b) 0) (size b)
  total_of a =
      ap (λ (r : BookAnswer). total_to r.counts 8) (answer_of_all value b a.checked (valued_pass a) a.summed)
      ∙ together (desk_of b) (counts_of value b) (size b) (λ i h. desk_in b a.checked i h)
      ∙ ap (λ (l : List ℕ). total_to (l ++ replicate (32 - size b) 0) (size b)) (each-alike (λ i. counted_by (value i)) a.counts (size b) (λ i h. ap counted_by (a.valued i h)))

pub any_curve_books : AnyCurveBooks
any_curve_books curves =
    record {
      all_or_none = λ b room. whole curves b room (cause (over_curves curves b room) b);
      alone = λ b room a i h other. beside-value (any_curve_room (curves i) (market_at b i) (calls_at b i) other room) (a.valued i h);
      counts = total_of curves;
      dropped_or_raised = λ first second room made a. thinned first second made curves room a;
      lowered = book-lowered curves;
      reordered = λ first second moved room. same_book first second moved curves room;
    }
