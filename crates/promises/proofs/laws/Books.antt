-- What a C caller is handed of a book: all or none, each bond as alone, and the rules for call lists, put lists and slices. Assumes nothing.
use Rattle.floats.specs.Reasons.{reason_number, refusal_number, refusal_place}
use Rattle.std.specs.Prelude.{ℕ, ◌-◌, ◌<◌, ◌≡◌, refl, ◌⊎◌, T, replicate, Float, Ok, Err}
use native.Mathlib.Omega.{arith}
use Rattle.std.proofs.Common.{sym, subst, ◌∙◌}
use Rattle.std.proofs.Math.Path.{ap}
use Rattle.std.proofs.Math.Logic.{inl, inr}
use mathlib.Core.List.{List, ◌++◌}
use Rattle.std.proofs.Math.ListN.{get_or}
use Rattle.std.specs.Float.Ieee.{le}
use Rattle.floats.specs.Refusals.{Refusal}
use Rattle.floats.specs.Answers.{Answer, plus_zero, Outcome}
use Rattle.terms.specs.Terms.{CallSchedule, Market, with_puts}
use Rattle.lattice.specs.Layers.{Room}
use Rattle.treebasedbondpricer.specs.declared.TreeValue.{TreeValue}
use Rattle.treebasedbondpricer.specs.Tree.{tree_value_over, tree_value, number_of, value_of, counted_by, room_of, curve_of}
use Rattle.bookchecks.specs.Checks as book
use Rattle.treebasedbondpricer.specs.laws.PutLists.{put_list_rule}
use Rattle.bookchecks.specs.Book.{Book, size_of, holding, market_at, calls_at}
use Rattle.bookchecks.specs.Checks.{first_refused, book_checks}
use Rattle.bookchecks.proofs.laws.Naming.{all_pass, first_refused_lem}
use Rattle.bookvalue.specs.declared.BookAnswer.{BookAnswer}
use Rattle.bookvalue.specs.Values.{bond_value, refused_tree, sum_check, desk_of, accepted_book, book_value}
use Rattle.bookvalue.specs.Entry.{book_lent}
use Rattle.bookvalue.specs.laws.Placed.{placed_at, each-alike}
use Rattle.promises.specs.HostCallLists.{TreeCall, BookCall}
use Rattle.promises.specs.Rooms.{SameValueOr21, same, first_21, second_21}
use Rattle.promises.proofs.laws.Rooms.{any_room, same_in_any_room}
use Rattle.promises.specs.OneCount.{total_to}
use Rattle.promises.proofs.laws.DeskCounts.{together, desk_in}
use Rattle.promises.specs.Sizing.{BookSizes, AllSized, AmpleFor, BookSizingRule}
use Rattle.promises.proofs.laws.Sizing.{sizing_rule, called}
use Rattle.promises.specs.Books as page
use Rattle.promises.specs.Books.{size, NoValues, Alone, AllOrNone, BookRule, over_curves, book_over, Accepted, CallsMade, LowestAbove, NoLowerBook, ThinnedBook, ThinnedCall, BookCallListRule, puts_at, PutsMade, BookPutListRule, BondsMoved, SameBooks, BookReorderingRule}
use Rattle.promises.proofs.laws.BookAnswers.{Cause, by_checks, by_value, by_sum, all_passed, cause, values_of, counts_of, CheckNumber, of_cut, of_settings, of_day-count, of_tree, check_number, Checked, of_size, of_desk_lem, of_bond, checks-refused, checks_not_0, tree_not_0, refused_by_check}
use Rattle.promises.proofs.laws.BookRules.{sum_27, none_above, decided, thinned, book-alike, moved_curves, same_book, same_left}

-- ---- accepted

pub value_of_lem : (v : Outcome TreeValue) → refused_tree v ≡ Ok tt → v ≡ Ok (record { value = (value_of v); nodes = (counted_by v) })
value_of_lem (Ok x) e = refl
value_of_lem (Err q) e = absurd (let z : ◌≡◌ {A = ℕ} 0 1 = cc in omega arith)

pub refusal_of_lem : (v : Outcome TreeValue) {q : Refusal} → refused_tree v ≡ Err q → v ≡ Err q
refusal_of_lem (Ok x) e = absurd (let z : ◌≡◌ {A = ℕ} 0 1 = cc in omega arith)
refusal_of_lem (Err r) {q} e = let p : r ≡ q = cc in ap Err p

-- The curves of the shared pillars.
abbrev pub curves_of : Book → ℕ → Float → ℕ → Answer
curves_of b i = curve_of (market_at b i)

-- What number 0 says.
pub record Valued (b : Book) (room : Room) (answer : BookAnswer) : Type 0 where
  pub checked : book_checks b ≡ book.Passed
  pub values : (i : ℕ) → i < size b → bond_value b room i ≡ Ok (record { value = (value_of (bond_value b room i)); nodes = (counted_by (bond_value b room i)) })
  pub summed : first_refused (sum_check (values_of (bond_value b room) b)) (size b) 0 ≡ book.Passed
  pub answer_is : answer ≡ accepted_book (values_of (bond_value b room) b) (desk_of b) (counts_of (bond_value b room) b) (size b)

pub valued : (b : Book) (room : Room) {answer : BookAnswer} → Cause (bond_value b room) b answer → (refusal_number answer.refusal) ≡ 0 → Valued b room answer
valued b room (by_checks e) z = absurd (checks_not_0 b e z)
valued b room (by_value {bond = bond} e f) z = absurd (tree_not_0 (market_at b bond) (calls_at b bond) room (refusal_of_lem (bond_value b room bond) (first_refused_lem _ (size b) f).refused) z)
valued b room (by_sum e f g) z = absurd (let n = sum_27 _ _ (first_refused_lem _ (size b) g).refused in omega arith)
valued b room (all_passed e f g) z = record { checked = e; values = λ i h. value_of_lem (bond_value b room i) (all_pass _ (size b) f i h); summed = g; answer_is = refl }

module _ {b : Book} (c : BookCall b) where
  pub valued-call : c.number ≡ 0 → Valued b (room_of c.lent) (book_value b (room_of c.lent))
  valued-call z = valued b (room_of c.lent) (cause (bond_value b (room_of c.lent)) b) (sym c.handed.handed.number_is ∙ z)

  pub accepted-call : c.number ≡ 0 → Accepted (curves_of b) b (room_of c.lent)
  unfolding tree_value
  accepted-call z =
      let v = valued-call z in
      let room = room_of c.lent in
      record { checked = v.checked; values = λ i. value_of (bond_value b room i); counts = λ i. counted_by (bond_value b room i); valued = v.values; summed = v.summed }

  -- A bond's value as it is handed back.
  pub value-handed : c.number ≡ 0 → (i : ℕ) → i < size b → get_or c.values i plus_zero ≡ value_of (bond_value b (room_of c.lent) i)
  value-handed z i h =
      let v = valued-call z in
      let room = room_of c.lent in
      ap (λ (xs : List Float). get_or xs i plus_zero) (c.handed.handed.values_are ∙ ap (λ (r : BookAnswer). r.values) v.answer_is)
      ∙ placed_at (λ i. value_of (bond_value b room i)) plus_zero (size b) i h

-- ---- all or none

none_of : (b : Book) (room : Room) {answer : BookAnswer} → Cause (bond_value b room) b answer → ((refusal_number answer.refusal) ≡ 0 → ⊥) → (answer.values ≡ replicate 32 plus_zero) × (answer.sum ≡ plus_zero) × (answer.counts ≡ replicate 8 0)
none_of b room (by_checks e) n = (refl, refl, refl)
none_of b room (by_value e f) n = (refl, refl, refl)
none_of b room (by_sum e f g) n = (refl, refl, refl)
none_of b room (all_passed e f g) n = absurd (n refl)

module _ {b : Book} (c : BookCall b) (z : c.number ≡ 0) (i : ℕ) (h : i < size b) (t : TreeCall (market_at b i) (calls_at b i)) where
  same_alone : tree_value (market_at b i) (calls_at b i) (room_of t.lent) ≡ bond_value b (room_of c.lent) i → (t.number ≡ 0) × (t.value ≡ get_or c.values i plus_zero)
  same_alone e =
      let p = t.handed.handed in
      let v = (valued-call c z).values i h in
      (p.number_is ∙ ap number_of (e ∙ v), p.value_is ∙ ap value_of e ∙ sym (value-handed c z i h))

  any_alone : {v w : Outcome TreeValue} → SameValueOr21 v w → tree_value (market_at b i) (calls_at b i) (room_of t.lent) ≡ v → bond_value b (room_of c.lent) i ≡ w → ((t.number ≡ 0) × (t.value ≡ get_or c.values i plus_zero)) ⊎ (t.number ≡ 21)
  any_alone same e f = inl (same_alone (e ∙ sym f))
  any_alone first_21 e f = inr (t.handed.handed.number_is ∙ ap number_of e)
  any_alone second_21 e f = absurd (let v = sym f ∙ (valued-call c z).values i h in let y : ◌≡◌ {A = ℕ} 0 1 = cc in omega arith)

pub book_rule : BookRule
book_rule b c =
    let p = c.handed.handed in
    let room = room_of c.lent in
    record {
      refused = λ n.
          let (v, s, k) = none_of b room (cause (bond_value b room) b) (λ y. n (p.number_is ∙ y)) in
          record { values = p.values_are ∙ v; sum = p.sum_is ∙ s; counts = p.counts_are ∙ k };
      accepted = λ z i h.
          record {
            same_slices = λ t as_long. same_alone c z i h t (ap (tree_value (market_at b i) (calls_at b i)) as_long);
            any_slices = λ t. any_alone c z i h t (any_room (market_at b i) (calls_at b i) (room_of t.lent) room) refl refl;
          };
      counts = λ z alone zeros.
          let v = valued-call c z in
          ap (λ (l : List ℕ). total_to l 8) (p.counts_are ∙ ap (λ (r : BookAnswer). r.counts) v.answer_is)
          ∙ together (desk_of b) (counts_of (bond_value b room) b) (size b) (λ i h. desk_in b v.checked i h)
          ∙ ap (λ (l : List ℕ). total_to (l ++ replicate (32 - size b) 0) (size b)) (each-alike (λ i. counted_by (bond_value b room i)) (λ i. (alone i).nodes) (size b) (λ i h. counted-alone b c z i h (alone i) (zeros i h)));
    }
  where
    counted-alone : (b : Book) (c : BookCall b) → c.number ≡ 0 → (i : ℕ) → i < size b → (t : TreeCall (market_at b i) (calls_at b i)) → t.number ≡ 0 → counted_by (bond_value b (room_of c.lent) i) ≡ t.nodes
    counted-alone b c z i h t y = go (tree_value (market_at b i) (calls_at b i) (room_of t.lent)) refl
      where
        go : (v : Outcome TreeValue) → tree_value (market_at b i) (calls_at b i) (room_of t.lent) ≡ v → counted_by (bond_value b (room_of c.lent) i) ≡ t.nodes
        go (Ok v) e = (same_in_any_room (market_at b i) (calls_at b i) (room_of c.lent) (room_of t.lent) _ v.value _ v.nodes ((valued-call c z).values i h) e).1 ∙ sym (t.handed.handed.nodes_is ∙ ap counted_by e)
        go (Err q) e = absurd (tree_not_0 (market_at b i) (calls_at b i) (room_of t.lent) e (sym (t.handed.handed.number_is ∙ ap number_of e) ∙ y))

-- ---- call lists

-- The book's answer is that over the curves of its pillars.
over-own : (b : Book) (room : Room) → book_value b room ≡ book_over (curves_of b) b room
unfolding tree_value
over-own b room = refl

number-of : {values : ℕ → Float} {n : ℕ} {answer : BookAnswer} → NoLowerBook values n answer → (refusal_number answer.refusal) ≡ 4 → ⊥
number-of (page.accepted ys desk counts l) e = omega arith
number-of (page.refused_27 t) e = omega arith

module _ (first second : Book) (made : CallsMade first second) (a : BookCall first) (c : BookCall second) (as_long : room_of c.lent ≡ room_of a.lent) (z : a.number ≡ 0) where
  abbrev over : BookAnswer
  over = book_over (curves_of first) second (room_of a.lent)

  same_answer : book_value second (room_of c.lent) ≡ over
  same_answer =
      let room = room_of a.lent in
      let k = made.same_size in
      ap (book_value second) as_long
      ∙ over-own second room
      ∙ book-alike _ _ second (λ i h. ap (λ (m : Market). tree_value_over (curve_of m) (market_at second i) (calls_at second i) room) (made.same_terms i (omega arith)))

  abbrev thin : ThinnedBook (accepted-call a z).values second over
  thin = thinned first second made (curves_of first) (room_of a.lent) (accepted-call a z)

  number_is : c.number ≡ (refusal_number over.refusal)
  number_is = c.handed.handed.number_is ∙ ap (λ (r : BookAnswer). refusal_number r.refusal) same_answer

  as_handed : {r : BookAnswer} → NoLowerBook (accepted-call a z).values (size second) r → over ≡ r
      → ((c.number ≡ 0) × ((i : ℕ) → i < size second → T (le (get_or a.values i plus_zero) (get_or c.values i plus_zero)))) ⊎ (c.number ≡ 27)
  unfolding accepted-call
  as_handed (page.accepted ys desk counts l) e =
      inl (
        number_is ∙ ap (λ (r : BookAnswer). refusal_number r.refusal) e,
        λ i h.
            let k = made.same_size in
            let x = value-handed a z i (omega arith) in
            let y = ap (λ (xs : List Float). get_or xs i plus_zero) (c.handed.handed.values_are ∙ ap (λ (r : BookAnswer). r.values) (same_answer ∙ e)) in
            rw (x, y) (l i h),
      )
  as_handed (page.refused_27 t) e = inr (number_is ∙ ap (λ (r : BookAnswer). refusal_number r.refusal) e ∙ t)

  bond_is : c.bond ≡ over.bond
  bond_is = c.handed.handed.bond_is ∙ ap (λ (r : BookAnswer). r.bond) same_answer

  thinned-call : ThinnedCall a c
  thinned-call =
      record {
        with_4 = λ bond low. let t = thin.with_4 bond low in (number_is ∙ t.0, bond_is ∙ t.1);
        only_then = λ e.
            elim (decided first second made (size first) (omega arith)) [
              | inl low ↦ subst (LowestAbove second) (sym (bond_is ∙ (thin.with_4 low.0 low.1).1)) low.1
              | inr within ↦ absurd (number-of (thin.otherwise (none_above first second made within)) (sym number_is ∙ e))
            ];
        otherwise = λ none. as_handed (thin.otherwise none) refl;
      }

pub book_call_list_rule : BookCallListRule
book_call_list_rule first second made a c as_long z = thinned-call first second made a c as_long z

-- ---- put lists

pub book_put_list_rule : BookPutListRule
book_put_list_rule first second made a c as_long z y i h =
    let k = made.same_size in
    let room = room_of a.lent in
    let l : i < size second = omega arith in
    let worth : bond_value second room i ≡ Ok (record { value = (value_of (bond_value second (room_of c.lent) i)); nodes = (counted_by (bond_value second (room_of c.lent) i)) }) = sym (ap (λ (r : Room). bond_value second r i) as_long) ∙ (valued-call c y).values i l in
    let terms = ap (λ (m : Market). tree_value m (calls_at second i) room) (made.same_terms i h) in
    let entries = ap (λ (s : CallSchedule). tree_value (with_puts (market_at first i) (puts_at second i)) s room) (made.same_calls i h) in
    rw (value-handed a z i h, value-handed c y i l)
    (put_list_rule (market_at first i) (calls_at first i) room (puts_at first i) (puts_at second i) _ _ _ _ (made.lowered i h) ((valued-call a z).values i h) (sym (terms ∙ entries) ∙ worth))

-- ---- reordering

pub book_reordering_rule : BookReorderingRule
book_reordering_rule first second moved a c as_long =
    let p = a.handed.handed in
    let q = c.handed.handed in
    let room = room_of a.lent in
    let n = ap size_of moved.same_fields in
    let e : book_value second (room_of c.lent) ≡ book_value first room
    = ap (book_value second) as_long
    ∙ over-own second room
    ∙ book-alike _ _ second (λ i h. ap (λ (curve : Float → ℕ → Answer). tree_value_over curve (market_at second i) (calls_at second i) room) (moved_curves (moved.moved i (omega arith))))
    ∙ same_book first second moved (curves_of first) room
    ∙ sym (over-own first room) in
    record {
      number = q.number_is ∙ ap (λ (r : BookAnswer). refusal_number r.refusal) e ∙ sym p.number_is;
      place = q.place_is ∙ ap (λ (r : BookAnswer). refusal_place r.refusal) e ∙ sym p.place_is;
      bond = q.bond_is ∙ ap (λ (r : BookAnswer). r.bond) e ∙ sym p.bond_is;
      values = q.values_are ∙ ap (λ (r : BookAnswer). r.values) e ∙ sym p.values_are;
      sum = q.sum_is ∙ ap (λ (r : BookAnswer). r.sum) e ∙ sym p.sum_is;
      counts = q.counts_are ∙ ap (λ (r : BookAnswer). r.counts) e ∙ sym p.counts_are;
      slices = λ alike. c.handed.slices ∙ same_left first second moved c.lent ∙ ap (book_lent first) alike ∙ sym a.handed.slices;
    }

-- ---- sizing

module _ (b : Book) (c : BookCall b) (sizes : BookSizes b) (zeros : AllSized b sizes) (as_long : AmpleFor b sizes (room_of c.lent)) where
  pub never : (i : ℕ) → i < size b → number_of (bond_value b (room_of c.lent) i) ≡ 21 → ⊥
  never i h =
      let m = market_at b i in
      ((sizing_rule m (calls_at b i) (sizes i) (zeros i h)).values m.spread).never_21 (called m (calls_at b i) c.lent) (as_long i h)

  check_never : (i : ℕ) → i < size b → {q : Refusal} → CheckNumber (market_at b i) (calls_at b i) q → reason_number q.reason ≡ 21 → ⊥
  unfolding tree_value
  check_never i h (of_cut e) n = omega arith
  check_never i h (of_settings e) n = omega arith
  check_never i h (of_day-count e) n = omega arith
  check_never i h (of_tree e) n = never i h (ap number_of (refused_by_check (curves_of b i) (market_at b i) (calls_at b i) (room_of c.lent) e) ∙ n)

  checks-never : {bond : ℕ} {q : Refusal} → Checked b bond q → reason_number q.reason ≡ 21 → ⊥
  checks-never {bond} {q} (of_size e) n = let k : reason_number q.reason ≡ 39 = ap (λ (r : Refusal). reason_number r.reason) e in omega arith
  checks-never {bond} {q} (of_desk_lem e) n = let k : reason_number q.reason ≡ 40 = ap (λ (r : Refusal). reason_number r.reason) e in omega arith
  checks-never {bond} (of_bond f) n = check_never bond f.of_book (check_number b.shared b.lists (holding b bond) f.refused) n

  answer-never : {answer : BookAnswer} → Cause (bond_value b (room_of c.lent)) b answer → (refusal_number answer.refusal) ≡ 21 → ⊥
  answer-never (by_checks e) n = checks-never (checks-refused b e) n
  answer-never (by_value {bond = bond} e f) n = let g = first_refused_lem _ (size b) f in never bond g.of_book (ap number_of (refusal_of_lem (bond_value b (room_of c.lent) bond) g.refused) ∙ n)
  answer-never (by_sum e f g) n = let k = sum_27 _ _ (first_refused_lem _ (size b) g).refused in omega arith
  answer-never (all_passed e f g) n = omega arith

pub book_sizing_rule : BookSizingRule
book_sizing_rule b c sizes zeros as_long n = answer-never b c sizes zeros as_long (cause (bond_value b (room_of c.lent)) b) (sym c.handed.handed.number_is ∙ n)
