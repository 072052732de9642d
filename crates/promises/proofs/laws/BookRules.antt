-- The call-list rule, the put-list rule and reordering, of a book over any curves. Assumes nothing.
use Rattle.floats.specs.Reasons.{reason_number, refusal_number}
use Rattle.std.specs.Prelude.{ℕ, zero, suc, ◌<◌, ◌≤◌, ◌≡◌, refl, Bool, true, false, ◌⊎◌, List, T, ltb, Float, Ok, Err}
use Rattle.std.proofs.Common.{arith, eq-or-lt_of_le, le_of_suc-le-suc, sym, subst, ◌∙◌, inl, inr}
use Rattle.std.proofs.Math.Path.{ap}
use Rattle.std.proofs.Math.ListN.{get_or}
use Rattle.std.specs.Float.Ieee.{le}
use Rattle.floats.specs.Refusals.{Refusal}
use Rattle.floats.specs.Answers.{Answer, plus_zero, not_finite, Check, Outcome}
use Rattle.floats.specs.laws.Order.{not_le_of_lt}
use Rattle.terms.specs.Numbers.{million}
use Rattle.terms.specs.Terms.{CallSchedule, Market, bond_with_puts, with_puts}
use Rattle.terms.specs.CallLists.{StrikeAbove, strike_of}
use Rattle.terms.specs.Checks.{on_check, first_of, single, outside}
use Rattle.terms.specs.Entries.{tree_checks}
use Rattle.terms.specs.laws.GridChecks.{grid-calls, grid-terms}
use Rattle.terms.specs.laws.TreeChecks.{tree-puts-alike}
use Rattle.terms.specs.laws.MadeLists.{AllWithin, strikes-decided}
use Rattle.terms.proofs.MadeLists.{tree-made-refused, tree-made-passed, tree-reordered-alike, reordered-calls}
use Rattle.bondevents.proofs.laws.GridAnswers as grids
use Rattle.lattice.specs.Layers.{Room}
use Rattle.treebasedbondpricer.specs.declared.TreeValue.{TreeValue}
use Rattle.treebasedbondpricer.specs.Tree.{tree_value_over, curve_of, value_of, Lent, zeroed}
use Rattle.treebasedbondpricer.specs.CallLists.{NoLowerOr27}
use Rattle.treebasedbondpricer.specs.CallLists as rule
use Rattle.treebasedbondpricer.proofs.laws.CallLists.{any_curve_rule}
use Rattle.treebasedbondpricer.specs.laws.PutLists.{any_curve_put_rule}
use Rattle.bookchecks.specs.declared.Holding.{Holding}
use Rattle.bookchecks.specs.declared.Lengths.{Lengths}
use Rattle.bookchecks.specs.Checks.{BookCheck}
use Rattle.bookchecks.specs.Checks as book
use Rattle.bookchecks.specs.Book.{Fields, Book, size_of, holding_at, holding, market_at, calls_at}
use Rattle.bookchecks.specs.Checks.{leg_lengths, entry_lengths, cut_checks, bond_check, first_refused, on_book, desk_check, book_checks}
use Rattle.bookchecks.proofs.laws.Naming.{all_pass, pass_all, first_is, same_first, first_refused_lem}
use Rattle.bookvalue.specs.declared.BookAnswer.{BookAnswer}
use Rattle.bookvalue.specs.declared.Valued.{Valued}
use Rattle.bookvalue.specs.Values.{refused_tree, sum_to, sum_check, desk_of, refused_book, valued_book, book_by}
use Rattle.bookvalue.specs.Entry.{book_lent}
use Rattle.bookvalue.specs.laws.Placed.{placed_at}
use Rattle.bookvalue.specs.laws.Answers.{answer_of}
use Rattle.bookvalue.proofs.laws.Answers.{answer_is}
use Rattle.bookvalue.proofs.laws.Entered.{tree-passed, by_size, by_desks, by_bonds, valued-alike}
use Rattle.promises.specs.Books as page
use Rattle.promises.specs.Books.{size, AddsUp, over_curves, book_over, Accepted, CallsMade, LowestAbove, NoLowerBook, ThinnedBook, puts_at, PutsMade, Moved, kept, calls_moved, puts_moved, BondsMoved}
use Rattle.promises.proofs.laws.BookAnswers.{Cause, by_checks, by_value, by_sum, all_passed, cause, answer_of-checks, checked-alone}
use Rattle.floats.specs.declared.Reason.TheVariants as reason

-- ---- what passes

pub size_in : (b : Book) → book_checks b ≡ book.Passed → outside 1 32 (size b) ≡ false
size_in b e = go (outside 1 32 (size b)) refl
  where
    go : (o : Bool) → outside 1 32 (size b) ≡ o → o ≡ false
    go true f = absurd (let p = sym (by_size b f) ∙ e in let z : ◌≡◌ {A = ℕ} 0 1 = cc in omega arith)
    go false f = refl

pub desks_in : (b : Book) → book_checks b ≡ book.Passed → first_refused (desk_check b.fields) (size b) 0 ≡ book.Passed
desks_in b e = go (first_refused (desk_check b.fields) (size b) 0) refl
  where
    go : (d : BookCheck) → first_refused (desk_check b.fields) (size b) 0 ≡ d → d ≡ book.Passed
    go book.Passed d = refl
    go (Err w) d = absurd (let p = sym (by_desks b (size_in b e) d) ∙ e in let z : ◌≡◌ {A = ℕ} 0 1 = cc in omega arith)

pub bonds_pass : (b : Book) → book_checks b ≡ book.Passed → (i : ℕ) → i < size b → bond_check b.shared b.lists (holding b i) ≡ Ok tt
bonds_pass b e = all_pass _ (size b) (sym (by_bonds b (size_in b e) (desks_in b e)) ∙ e)

pub trees_pass : (b : Book) → book_checks b ≡ book.Passed → (i : ℕ) → i < size b → tree_checks (market_at b i) (calls_at b i) ≡ Ok tt
trees_pass b e i h = tree-passed b.shared b.lists (holding b i) (bonds_pass b e i h)

pub sum_27 : (values : List Float) (i : ℕ) {q : Refusal} → sum_check values i ≡ Err q → reason_number q.reason ≡ 27
sum_27 values i {q} e = go (not_finite (sum_to values (suc i))) e
  where
    go : (f : Bool) → single reason.NotFinite 0 f ≡ Err q → reason_number q.reason ≡ 27
    go true e = let p : record { reason = reason.NotFinite; place = 0 } ≡ q = cc in sym (ap (λ (r : Refusal). reason_number r.reason) p)
    go false e = absurd (let z : ◌≡◌ {A = ℕ} 0 1 = cc in omega arith)

lower-value : {x : Float} {v : Outcome TreeValue} → NoLowerOr27 x v → refused_tree v ≡ Ok tt → T (le x (value_of v))
lower-value (rule.accepted l) e = l
lower-value rule.refused_27 e = absurd (let z : ◌≡◌ {A = ℕ} 0 1 = cc in omega arith)

lower_27 : {x : Float} {v : Outcome TreeValue} {q : Refusal} → NoLowerOr27 x v → refused_tree v ≡ Err q → reason_number q.reason ≡ 27
lower_27 (rule.accepted l) e = absurd (let z : ◌≡◌ {A = ℕ} 0 1 = cc in omega arith)
lower_27 {q = q} (rule.refused_27 {place = k}) e = let p : record { reason = reason.NotFinite; place = k } ≡ q = cc in sym (ap (λ (r : Refusal). reason_number r.reason) p)

-- Bonds that are valued alike.
pub book-alike : (f g : ℕ → Outcome TreeValue) (b : Book) → ((i : ℕ) → i < size b → f i ≡ g i) → book_by f b ≡ book_by g b
unfolding book_by
book-alike f g b h =
    let n = size b in
    let d = desk_of b in
    ap (on_book (book_checks b) refused_book) (sym (answer_is f d n) ∙ ap (λ (v : book.BookOutcome Valued). answer_of v d n) (valued-alike f g n h) ∙ answer_is g d n)

-- ---- call lists

module _ (first second : Book) (made : CallsMade first second) where
  pub none_above : ((i : ℕ) → i < size first → AllWithin (calls_at second i)) → (bond : ℕ) → LowestAbove second bond → ⊥
  none_above within bond low =
      let e = made.same_size in
      let l = low.of_book in
      let s = low.above in
      not_le_of_lt million (strike_of (calls_at second bond) s.entry) s.above (within bond (omega arith) s.entry s.of_list)

  -- A bond with a strike above 1,000,000, the lowest, or none.
  pub decided : (n : ℕ) → n ≤ size first → ((bond : ℕ) × LowestAbove second bond) ⊎ ((i : ℕ) → i < n → AllWithin (calls_at second i))
  decided zero h = inr (λ i l. absurd (omega arith))
  decided (suc n) h =
      elim (decided n (omega arith)) [
        | inl low ↦ inl low
        | inr within ↦
            elim (strikes-decided (calls_at first n) (calls_at second n) (made.made n (omega arith))) [
              | inl s ↦
                  inl (
                    n,
                    record {
                      of_book = let e = made.same_size in omega arith;
                      above = record { entry = s.index; of_list = s.below; above = s.holds };
                      lowest = λ i l a. not_le_of_lt million (strike_of (calls_at second i) a.entry) a.above (within i l a.entry a.of_list);
                    },
                  )
              | inr w ↦ inr (one_more n within w)
            ]
      ]
    where
      one_more : (n : ℕ) → ((i : ℕ) → i < n → AllWithin (calls_at second i)) → AllWithin (calls_at second n) → (i : ℕ) → i < suc n → AllWithin (calls_at second i)
      one_more n within w i l = elim (eq-or-lt_of_le (le_of_suc-le-suc l)) [ inl e ↦ subst (λ (k : ℕ). AllWithin (calls_at second k)) (sym e) w | inr m ↦ within i m ]

  module _ (curves : ℕ → Float → ℕ → Answer) (room : Room) (a : Accepted curves first room) where
    second_check : (i : ℕ) → i < size first → bond_check second.shared second.lists (holding second i) ≡ tree_checks (market_at first i) (calls_at second i)
    second_check i h = checked-alone second i (made.adds_up i h) ∙ ap (λ (m : Market). tree_checks m (calls_at second i)) (made.same_terms i h)

    passes : (i : ℕ) → i < size first → tree_checks (market_at first i) (calls_at first i) ≡ Ok tt
    passes i h = trees_pass first a.checked i h

    within-passes : (i : ℕ) → i < size first → AllWithin (calls_at second i) → bond_check second.shared second.lists (holding second i) ≡ Ok tt
    within-passes i h w = second_check i h ∙ tree-made-passed (calls_at first i) (calls_at second i) (made.made i h) (market_at first i) (passes i h) w

    in_size : outside 1 32 (size second) ≡ false
    in_size = ap (outside 1 32) made.same_size ∙ size_in first a.checked

    desks_pass : first_refused (desk_check second.fields) (size second) 0 ≡ book.Passed
    desks_pass =
        pass_all _ (size second) 0
        (λ k l m.
        let e = made.same_size in
        ap (λ (d : ℕ). single reason.Desk 0 (ltb 7 d)) (made.same_desks k (omega arith)) ∙ all_pass _ (size first) (desks_in first a.checked) k (omega arith))

    within_of : (i : ℕ) → i < size first → (StrikeAbove (calls_at second i) → ⊥) → AllWithin (calls_at second i)
    within_of i h none =
        elim (strikes-decided (calls_at first i) (calls_at second i) (made.made i h)) [
          | inl s ↦ absurd (none (record { entry = s.index; of_list = s.below; above = s.holds }))
          | inr w ↦ w
        ]

    four : (bond : ℕ) → LowestAbove second bond → ((refusal_number (book_over curves second room).refusal) ≡ 4) × ((book_over curves second room).bond ≡ bond)
    four bond low =
        let e = made.same_size in
        let h : bond < size first = let l = low.of_book in omega arith in
        let s = low.above in
        let (r, f, n) = tree-made-refused (calls_at first bond) (calls_at second bond) (made.made bond h) (market_at first bond) (passes bond h) (record { index = s.entry; below = s.of_list; holds = s.above }) in
        let checks : book_checks second ≡ book.Refused bond r
        = by_bonds second in_size desks_pass ∙ first_is _ (size second) 0 bond r (omega arith) (let l = low.of_book in omega arith) (second_check bond h ∙ f) (λ k m l. within-passes k (omega arith) (within_of k (omega arith) (low.lowest k l))) in
        let answer = answer_of-checks (over_curves curves second room) second checks in
        (ap (λ (z : BookAnswer). refusal_number z.refusal) answer ∙ ap reason_number n, ap (λ (z : BookAnswer). z.bond) answer)

    module _ (within : (i : ℕ) → i < size first → AllWithin (calls_at second i)) where
      all_checked : book_checks second ≡ book.Passed
      all_checked = by_bonds second in_size desks_pass ∙ pass_all _ (size second) 0 (λ k l m. let e = made.same_size in within-passes k (omega arith) (within k (omega arith)))

      no_lower : (i : ℕ) → i < size first → NoLowerOr27 (a.values i) (over_curves curves second room i)
      no_lower i h =
          let w = within i h in
          let t = (any_curve_rule (curves i)).dropped_or_raised (market_at first i) room (calls_at first i) (calls_at second i) (a.values i) (a.counts i) (made.made i h) (a.valued i h) in
          subst (λ (m : Market). NoLowerOr27 (a.values i) (tree_value_over (curves i) m (calls_at second i) room)) (sym (made.same_terms i h))
          (t.otherwise (λ s. not_le_of_lt million (strike_of (calls_at second i) s.entry) s.above (w s.entry s.of_list)))

      book-no_lower : {answer : BookAnswer} → Cause (over_curves curves second room) second answer → NoLowerBook a.values (size second) answer
      book-no_lower (by_checks e) = absurd (let p = sym all_checked ∙ e in let z : ◌≡◌ {A = ℕ} 0 1 = cc in omega arith)
      book-no_lower (by_value e f) =
          let g = first_refused_lem _ (size second) f in
          let l = g.of_book in
          let k = made.same_size in
          page.refused_27 (lower_27 (no_lower _ (omega arith)) g.refused)
      book-no_lower (by_sum e f g) = page.refused_27 (sum_27 _ _ (first_refused_lem _ (size second) g).refused)
      book-no_lower (all_passed e f g) =
          page.accepted _ _ _
          (λ i h.
          let k = made.same_size in
          subst (λ (y : Float). T (le (a.values i) y)) (sym (placed_at (λ i. value_of (over_curves curves second room i)) plus_zero (size second) i h))
          (lower-value (no_lower i (omega arith)) (all_pass _ (size second) f i h)))

    pub thinned : ThinnedBook a.values second (book_over curves second room)
    thinned =
        record {
          with_4 = four;
          otherwise = λ none.
              elim (decided (size first) (omega arith)) [
                | inl low ↦ absurd (none low.0 low.1)
                | inr within ↦ book-no_lower within (cause (over_curves curves second room) second)
              ];
        }

-- ---- put lists

pub book-lowered : (curves : ℕ → Float → ℕ → Answer) (first second : Book) (room : Room) → PutsMade first second → (a : Accepted curves first room) (c : Accepted curves second room) → (i : ℕ) → i < size first → T (le (c.values i) (a.values i))
book-lowered curves first second room made a c i h =
    let k = made.same_size in
    let terms = ap (λ (m : Market). tree_value_over (curves i) m (calls_at second i) room) (made.same_terms i h) in
    let entries = ap (λ (s : CallSchedule). tree_value_over (curves i) (with_puts (market_at first i) (puts_at second i)) s room) (made.same_calls i h) in
    (any_curve_put_rule (curves i)).dropped_or_lowered (market_at first i) (calls_at first i) room (puts_at first i) (puts_at second i) (a.values i) (c.values i) (a.counts i) (c.counts i) (made.lowered i h) (a.valued i h) (sym (terms ∙ entries) ∙ c.valued i (omega arith))

-- ---- reordering

moved-checks : {m n : Market} {first second : CallSchedule} → Moved m first n second → tree_checks n second ≡ tree_checks m first
moved-checks kept = refl
moved-checks (calls_moved {m} {first} {second} r z) =
    let a = grids.accepted m.settlement m.bond first m.controls z in
    tree-reordered-alike first second r m (grid-calls m.settlement m.bond first m.controls a.checked)
moved-checks (puts_moved m calls first second r z) =
    let a = grids.accepted m.settlement (bond_with_puts m.bond first) calls m.controls z in
    let k = (grid-terms m.settlement (bond_with_puts m.bond first) calls m.controls a.checked).puts in
    tree-puts-alike m calls first second k (reordered-calls first second r k)

pub moved_curves : {m n : Market} {first second : CallSchedule} → Moved m first n second → curve_of n ≡ curve_of m
moved_curves kept = refl
moved_curves (calls_moved r z) = refl
moved_curves (puts_moved m calls first second r z) = refl

moved-values : {m n : Market} {first second : CallSchedule} → Moved m first n second → (curve : Float → ℕ → Answer) (room : Room) → tree_value_over curve n second room ≡ tree_value_over curve m first room
moved-values kept curve room = refl
moved-values (calls_moved {m} {first} {second} r z) curve room = (any_curve_rule curve).reordered m first second r z room
moved-values (puts_moved m calls first second r z) curve room = (any_curve_put_rule curve).reordered m calls first second r z room

module _ (first second : Book) (moved : BondsMoved first second) where
  same_size : size second ≡ size first
  same_size = ap size_of moved.same_fields

  cuts_alike : {h k : Holding} {a b c d e f : Lengths} → h ≡ k → a ≡ b → c ≡ d → e ≡ f → first_of (cut_checks h a c e) ≡ first_of (cut_checks k b d f)
  cuts_alike p q r s = rw (p, q, r, s)

  same_bond : (i : ℕ) → i < size first → bond_check second.shared second.lists (holding second i) ≡ bond_check first.shared first.lists (holding first i)
  unfolding bond_check
  same_bond i h =
      ap (λ (c : Check). on_check c Err (tree_checks (market_at second i) (calls_at second i)))
      (cuts_alike (ap (λ (f : Fields). holding_at f i) moved.same_fields) moved.same_leg moved.same_calls moved.same_puts)
      ∙ ap (on_check (first_of (cut_checks (holding first i) (leg_lengths first.lists.leg) (entry_lengths first.lists.calls) (entry_lengths first.lists.puts))) Err) (moved-checks (moved.moved i h))

  same_desk_checks : first_refused (desk_check second.fields) (size second) 0 ≡ first_refused (desk_check first.fields) (size first) 0
  same_desk_checks = ap (λ (f : Fields). first_refused (desk_check f) (size_of f) 0) moved.same_fields

  pub same_checks : book_checks second ≡ book_checks first
  same_checks = go (outside 1 32 (size first)) refl
    where
      go_desks : outside 1 32 (size first) ≡ false → (d : BookCheck) → first_refused (desk_check first.fields) (size first) 0 ≡ d → book_checks second ≡ book_checks first
      go_desks e (Err w) d = by_desks second (ap (outside 1 32) same_size ∙ e) (same_desk_checks ∙ d) ∙ sym (by_desks first e d)
      go_desks e book.Passed d =
          by_bonds second (ap (outside 1 32) same_size ∙ e) (same_desk_checks ∙ d)
          ∙ ap (λ (n : ℕ). first_refused (λ i. bond_check second.shared second.lists (holding second i)) n 0) same_size
          ∙ same_first _ _ (size first) 0 (λ k l m. same_bond k (omega arith))
          ∙ sym (by_bonds first e d)

      go : (o : Bool) → outside 1 32 (size first) ≡ o → book_checks second ≡ book_checks first
      go true e = by_size second (ap (outside 1 32) same_size ∙ e) ∙ sym (by_size first e)
      go false e = go_desks e (first_refused (desk_check first.fields) (size first) 0) refl

  pub same_book : (curves : ℕ → Float → ℕ → Answer) (room : Room) → book_over curves second room ≡ book_over curves first room
  unfolding book_by
  same_book curves room =
      let f = over_curves curves second room in
      let g = over_curves curves first room in
      ap (λ (k : BookCheck). on_book k refused_book (valued_book f (desk_of second) (size second))) same_checks
      ∙ ap (λ (z : Fields). on_book (book_checks first) refused_book (valued_book f (λ i. get_or z.desks i 0) (size_of z))) moved.same_fields
      ∙ book-alike f g first (λ i h. moved-values (moved.moved i h) (curves i) room)

  pub same_left : (lent : Lent) → book_lent second lent ≡ book_lent first lent
  unfolding book_lent
  same_left lent = ap (λ (k : BookCheck). on_book k (λ bond r. lent) (zeroed lent)) same_checks
