-- A book in slices that are too short for one of its bonds: 21, or as in ample slices, and never accepted. Assumes nothing.
use Rattle.floats.specs.Reasons.{reason_number, refusal_number, refusal_place}
use Rattle.std.specs.Prelude.{ℕ, ◌≤◌, ◌<◌, ◌≡◌, refl, Bool, true, false, ◌⊎◌, eqb, ltb, Ok, Err}
use Rattle.std.proofs.Common.{arith, sym, ap, subst, ◌∙◌, inl, inr, eqb-true, ltb-true, ltb-false}
use Rattle.std.proofs.lemmas.Bool.{eqb-false}
use Rattle.floats.specs.Refusals.{Refusal}
use Rattle.lattice.specs.Layers.{Room}
use Rattle.treebasedbondpricer.specs.declared.TreeValue.{TreeValue}
use Rattle.floats.specs.Answers.{Outcome}
use Rattle.treebasedbondpricer.specs.Tree.{number_of, room_of}
use Rattle.bookchecks.specs.Checks as book
use Rattle.bookchecks.specs.Book.{Book, market_at, calls_at}
use Rattle.bookchecks.specs.Checks.{first_refused, on_book, book_checks}
use Rattle.bookchecks.proofs.laws.Naming.{all_pass, first_is, first_refused_lem}
use Rattle.bookvalue.specs.declared.BookAnswer.{BookAnswer}
use Rattle.bookvalue.specs.Values.{bond_value, refused_tree, refused_book, valued_book, book_by, book_value}
use Rattle.promises.specs.HostCallLists.{BookCall}
use Rattle.promises.specs.Rooms.{SameValueOr21, same, first_21, second_21}
use Rattle.promises.specs.Books.{size}
use Rattle.promises.specs.Sizing.{Shorter, Stops, lengths_in, BookSizes, AllSized, AmpleFor, bond_before_fit, BookShort}
use Rattle.promises.proofs.laws.Rooms.{any_room}
use Rattle.promises.proofs.laws.SizedValues.{refusal_of}
use Rattle.promises.proofs.laws.Sizing.{stops_not_0, sizing_rule, called}
use Rattle.promises.proofs.laws.BookAnswers.{Cause, by_checks, by_value, by_sum, all_passed, cause, answer_of-checks}
use Rattle.promises.proofs.laws.Books.{value_of_lem, refusal_of_lem, valued-call, never}
use Rattle.floats.specs.declared.Reason.TheVariants as reason

-- The first bond that is refused while it is valued.
answer_of-value : (value : ℕ → Outcome TreeValue) (b : Book) {bond : ℕ} {q : Refusal} → book_checks b ≡ book.Passed → first_refused (λ i. refused_tree (value i)) (size b) 0 ≡ book.Refused bond q → book_by value b ≡ refused_book bond q
unfolding book_by valued_book on_book
answer_of-value value b e f = rw (e, f)

-- ---- in two rooms, of which the second is enough

still_refused : {v w : Outcome TreeValue} {q : Refusal} → SameValueOr21 v w → v ≡ Err q → (reason_number q.reason ≡ 21 → ⊥) → (number_of w ≡ 21 → ⊥) → refused_tree w ≡ Err q
still_refused same e other enough = ap refused_tree e
still_refused {q = q} (first_21 {place = k}) e other enough = let p : record { reason = reason.NoRoom; place = k } ≡ q = cc in absurd (other (sym (ap (λ (r : Refusal). reason_number r.reason) p)))
still_refused second_21 e other enough = absurd (enough refl)

still_passed : {v w : Outcome TreeValue} → SameValueOr21 v w → refused_tree v ≡ Ok tt → (number_of w ≡ 21 → ⊥) → refused_tree w ≡ Ok tt
still_passed same e enough = e
still_passed first_21 e enough = absurd (let z : ◌≡◌ {A = ℕ} 0 1 = cc in omega arith)
still_passed second_21 e enough = absurd (enough refl)

module _ (b : Book) (c : BookCall b) (sizes : BookSizes b) (zeros : AllSized b sizes) (i : ℕ) (h : i < size b) (short : Shorter (lengths_in (sizes i)) (room_of c.lent)) where
  abbrev room : Room
  room = room_of c.lent

  alone-stops : (k : ℕ) → k < size b → Shorter (lengths_in (sizes k)) room → Stops (lengths_in (sizes k)) (bond_before_fit b k) (refusal_of (bond_value b room k))
  alone-stops k l s =
      let m = market_at b k in
      ((sizing_rule m (calls_at b k) (sizes k) (zeros k l)).values m.spread).shorter (called m (calls_at b k) c.lent) s

  not_valued : refused_tree (bond_value b room i) ≡ Ok tt → ⊥
  not_valued e = stops_not_0 (alone-stops i h short) (ap number_of (value_of_lem (bond_value b room i) e))

  -- ---- the same book in ample slices

  module _ (ample : BookCall b) (enough : AmpleFor b sizes (room_of ample.lent)) where
    in_both : (k : ℕ) → SameValueOr21 (bond_value b room k) (bond_value b (room_of ample.lent) k)
    in_both k = any_room (market_at b k) (calls_at b k) room (room_of ample.lent)

    same_answer : {bond : ℕ} {q : Refusal} → book_value b (room_of ample.lent) ≡ refused_book bond q → (ample.number ≡ (reason_number q.reason)) × (ample.place ≡ q.place) × (ample.bond ≡ bond)
    same_answer e =
        let p = ample.handed.handed in
        (p.number_is ∙ ap (λ (r : BookAnswer). refusal_number r.refusal) e, p.place_is ∙ ap (λ (r : BookAnswer). refusal_place r.refusal) e, p.bond_is ∙ ap (λ (r : BookAnswer). r.bond) e)

    first_again : {bond : ℕ} {q : Refusal} → (reason_number q.reason ≡ 21 → ⊥) → book_checks b ≡ book.Passed → first_refused (λ k. refused_tree (bond_value b room k)) (size b) 0 ≡ book.Refused bond q → book_value b (room_of ample.lent) ≡ refused_book bond q
    first_again {bond} {q} other e f =
        let g = first_refused_lem _ (size b) f in
        let l = g.of_book in
        answer_of-value (bond_value b (room_of ample.lent)) b e
        (first_is _ (size b) 0 bond q (omega arith) (omega arith)
        (still_refused (in_both bond) (refusal_of_lem (bond_value b room bond) g.refused) other (never b ample sizes zeros enough bond l))
        (λ k m n. still_passed (in_both k) (g.before_it k n) (never b ample sizes zeros enough k (omega arith))))

  -- ---- how it ends

  as_ample : {answer : BookAnswer} → Cause (bond_value b room) b answer
      → ((refusal_number answer.refusal) ≡ 21) ⊎ ((ample : BookCall b) → AmpleFor b sizes (room_of ample.lent) → (ample.number ≡ (refusal_number answer.refusal)) × (ample.place ≡ (refusal_place answer.refusal)) × (ample.bond ≡ answer.bond))
  as_ample (by_checks e) = inr λ ample enough. same_answer ample enough (answer_of-checks (bond_value b (room_of ample.lent)) b e)
  as_ample (by_value {bond = bond} {q = q} e f) = go (eqb (reason_number q.reason) 21) refl
    where
      go : (t : Bool) → eqb (reason_number q.reason) 21 ≡ t → (reason_number q.reason ≡ 21) ⊎ ((ample : BookCall b) → AmpleFor b sizes (room_of ample.lent) → (ample.number ≡ (reason_number q.reason)) × (ample.place ≡ q.place) × (ample.bond ≡ bond))
      go true t = inl (eqb-true (reason_number q.reason) 21 t)
      go false t = inr λ ample enough. same_answer ample enough (first_again ample enough (eqb-false (reason_number q.reason) 21 t) e f)
  as_ample (by_sum e f g) = absurd (not_valued (all_pass _ (size b) f i h))
  as_ample (all_passed e f g) = absurd (not_valued (all_pass _ (size b) f i h))

  names : {answer : BookAnswer} → Cause (bond_value b room) b answer → book_checks b ≡ book.Passed → answer.bond ≤ i
  names (by_checks e) p = absurd (let n = sym p ∙ e in let z : ◌≡◌ {A = ℕ} 0 1 = cc in omega arith)
  names (by_value {bond = bond} e f) p = go (ltb i bond) refl
    where
      go : (t : Bool) → ltb i bond ≡ t → bond ≤ i
      go true t = absurd (not_valued ((first_refused_lem _ (size b) f).before_it i (ltb-true i bond t)))
      go false t = ltb-false i bond t
  names (by_sum e f g) p = absurd (not_valued (all_pass _ (size b) f i h))
  names (all_passed e f g) p = absurd (not_valued (all_pass _ (size b) f i h))

  stops-alone : {answer : BookAnswer} → Cause (bond_value b room) b answer → book_checks b ≡ book.Passed → Shorter (lengths_in (sizes answer.bond)) room → Stops (lengths_in (sizes answer.bond)) (bond_before_fit b answer.bond) (record { number = refusal_number answer.refusal; place = refusal_place answer.refusal })
  stops-alone (by_checks e) p s = absurd (let n = sym p ∙ e in let z : ◌≡◌ {A = ℕ} 0 1 = cc in omega arith)
  stops-alone (by_value {bond = bond} e f) p s =
      let g = first_refused_lem _ (size b) f in
      subst (Stops (lengths_in (sizes bond)) (bond_before_fit b bond)) (ap refusal_of (refusal_of_lem (bond_value b room bond) g.refused)) (alone-stops bond g.of_book s)
  stops-alone (by_sum e f g) p s = absurd (not_valued (all_pass _ (size b) f i h))
  stops-alone (all_passed e f g) p s = absurd (not_valued (all_pass _ (size b) f i h))

pub book-short : BookShort
book-short b c sizes zeros i h short =
    let p = c.handed.handed in
    let why = cause (bond_value b (room_of c.lent)) b in
    record {
      never-accepted = λ z. not_valued b c sizes zeros i h short (ap refused_tree ((valued-call c z).values i h));
      refused = rw (p.number_is, p.place_is, p.bond_is) (as_ample b c sizes zeros i h short why);
      no_later = λ e. rw p.bond_is (names b c sizes zeros i h short why e);
      stops = λ e s. rw (p.number_is, p.place_is, p.bond_is) (stops-alone b c sizes zeros i h short why e (subst (λ (k : ℕ). Shorter (lengths_in (sizes k)) (room_of c.lent)) p.bond_is s));
    }
