-- The book's answer and its slices from their parts: the size, the checks, the values, and the slices left all zero. Assumes nothing.
use Rattle.std.specs.Prelude.{ℕ, ◌≤◌, ◌<◌, ◌≡◌, refl, Bool, true, false, ◌||◌, List, length, get_or, replicate, ltb, ℤ, pos, Float, Ok, Err}
use Rattle.std.proofs.Common.{arith, ◌∙◌, ltb-false}
use Rattle.std.proofs.Math.Path.{sym, ap}
use Rattle.std.proofs.Math.Bool.{cond}
use Rattle.floats.specs.Refusals.{Refusal}
use Rattle.floats.specs.Answers.{plus_zero, Check, Outcome}
use Rattle.terms.specs.Checks.{on_check, first_of, outside}
use Rattle.terms.specs.Entries.{tree_checks}
use Rattle.treebasedbondpricer.specs.Tree.{value_of, counted_by, Lent, room_of, zeroed}
use Rattle.treebasedbondpricer.specs.declared.TreeValue.{TreeValue}
use Rattle.bookchecks.specs.declared.Holding.{Holding}
use Rattle.bookchecks.specs.declared.RefusedBond.{RefusedBond}
use Rattle.bookchecks.specs.Book.{Shared, Lists, Book, size_of, holding_at, market_of, calls_of}
use Rattle.bookchecks.specs.Checks.{cut_checks, leg_lengths, entry_lengths, BookOutcome, BookCheck, Passed, Refused, bond_check, first_refused, on_book, desk_check, book_checks}
use Rattle.bookchecks.specs.laws.Holdings.{past_end, Held, HeldBook}
use Rattle.bookchecks.proofs.laws.Naming.{same_first}
use Rattle.bookchecks.proofs.laws.Holdings.{same_checks}
use Rattle.bookvalue.specs.declared.Valued.{Valued}
use Rattle.bookvalue.specs.declared.BookAnswer.{BookAnswer}
use Rattle.bookvalue.specs.Values.{bond_value, refused_tree, desk_of, refused_book, valued_book, book_by}
use Rattle.bookvalue.specs.Entry.{book_lent, BookEntered}
use Rattle.bookvalue.specs.laws.Placed.{each-alike}
use Rattle.bookvalue.specs.laws.Answers.{tree_of, valued_by, values_of, answer_of}
use Rattle.bookvalue.proofs.laws.Answers.{answer_is}
use Rattle.floats.specs.declared.Reason.TheVariants as reason

-- A bond that passed its checks passed those of the tree value.
pub tree-passed : (s : Shared) (l : Lists) (h : Holding) → bond_check s l h ≡ Ok tt → tree_checks (market_of s l h) (calls_of l h) ≡ Ok tt
unfolding bond_check on_check
tree-passed s l h e = go (first_of (cut_checks h (leg_lengths l.leg) (entry_lengths l.calls) (entry_lengths l.puts))) e
  where
    go : (c : Check) → on_check c Err (tree_checks (market_of s l h) (calls_of l h)) ≡ Ok tt → tree_checks (market_of s l h) (calls_of l h) ≡ Ok tt
    go (Ok tt) e = e
    go (Err q) e = absurd (let z : ◌≡◌ {A = ℕ} 0 1 = cc in omega arith)

-- Bonds that are valued alike.
pub valued-alike : (f g : ℕ → Outcome TreeValue) (n : ℕ) → ((i : ℕ) → i < n → f i ≡ g i) → valued_by f n ≡ valued_by g n
unfolding valued_by
valued-alike f g n h =
    rw (same_first (λ i. refused_tree (f i)) (λ i. refused_tree (g i)) n 0 (λ k l m. ap refused_tree (h k (omega arith))), each-alike (λ i. value_of (f i)) (λ i. value_of (g i)) n (λ i l. ap value_of (h i l)), each-alike (λ i. counted_by (f i)) (λ i. counted_by (g i)) n (λ i l. ap counted_by (h i l)))

-- The checks by the size, by the desks, and by the bonds.
module _ (b : Book) where
  abbrev bonds : BookCheck
  bonds = first_refused (λ i. bond_check b.shared b.lists (holding_at b.fields i)) (size_of b.fields) 0

  abbrev desks : BookCheck
  desks = first_refused (desk_check b.fields) (size_of b.fields) 0

  pub by_size : outside 1 32 (size_of b.fields) ≡ true → book_checks b ≡ Refused 0 (record { reason = reason.BookSize; place = 0 })
  unfolding book_checks
  by_size t = ap (λ (z : Bool). cond z (Refused 0 (record { reason = reason.BookSize; place = 0 })) (on_book desks Refused bonds)) t

  in_size : outside 1 32 (size_of b.fields) ≡ false → book_checks b ≡ on_book desks Refused bonds
  unfolding book_checks
  in_size t = ap (λ (z : Bool). cond z (Refused 0 (record { reason = reason.BookSize; place = 0 })) (on_book desks Refused bonds)) t

  pub by_desks : {bond : ℕ} {q : Refusal} → outside 1 32 (size_of b.fields) ≡ false → first_refused (desk_check b.fields) (size_of b.fields) 0 ≡ Refused bond q → book_checks b ≡ Refused bond q
  unfolding on_book
  by_desks t d = in_size t ∙ ap (λ (k : BookCheck). on_book k Refused bonds) d

  pub by_bonds : outside 1 32 (size_of b.fields) ≡ false → first_refused (desk_check b.fields) (size_of b.fields) 0 ≡ Passed → book_checks b ≡ first_refused (λ i. bond_check b.shared b.lists (holding_at b.fields i)) (size_of b.fields) 0
  unfolding on_book
  by_bonds t d = in_size t ∙ ap (λ (k : BookCheck). on_book k Refused bonds) d

module _ (b : Book) (before : Lent) where
  refused_as : {bond : ℕ} {q : Refusal} → book_checks b ≡ Refused bond q → BookEntered b (refused_book bond q) before before
  unfolding book_by book_lent on_book
  refused_as e =
      record {
        value = sym (ap (λ (k : BookCheck). on_book k refused_book (valued_book (bond_value b (room_of before)) (desk_of b) (size_of b.fields))) e);
        slices = sym (ap (λ (k : BookCheck). on_book k (λ bond r. before) (zeroed before)) e);
      }

  module _ {k : BookCheck} (c : k ≡ book_checks b) where
    pub entered-refused : {q : RefusedBond} → k ≡ Err q → BookEntered b (refused_book q.bond q.refusal) before before
    entered-refused p = refused_as (sym c ∙ p)

    pub entered-zeroed :
        {v : BookOutcome Valued} {r : BookAnswer} {nodes : List ℤ} {probabilities first second : List Float} {w x y z : ℕ}
        → k ≡ Passed
        → v ≡ values_of b.shared b.lists (holding_at b.fields) (room_of before) (size_of b.fields)
        → r ≡ answer_of v (desk_of b) (size_of b.fields)
        → nodes ≡ replicate w (pos 0) → probabilities ≡ replicate x plus_zero → first ≡ replicate y plus_zero → second ≡ replicate z plus_zero
        → w ≡ length before.nodes → x ≡ length before.probabilities → y ≡ length before.first → z ≡ length before.second
        → BookEntered b r before (record { nodes = nodes; probabilities = probabilities; first = first; second = second })
    unfolding book_by book_lent on_book
    entered-zeroed p v r n o q s g h i j =
        let size = size_of b.fields in
        record {
          value =
              r
              ∙ ap (λ (z : BookOutcome Valued). answer_of z (desk_of b) size) v
              ∙ answer_is (λ i. tree_of b.shared b.lists (room_of before) (holding_at b.fields i)) (desk_of b) size
              ∙ sym (ap (λ (k : BookCheck). on_book k refused_book (valued_book (bond_value b (room_of before)) (desk_of b) size)) (sym c ∙ p));
          slices = rw (n, o, q, s, g, h, i, j) (sym (ap (λ (k : BookCheck). on_book k (λ bond r. before) (zeroed before)) (sym c ∙ p)));
        }

-- ---- for the entry

pub entered_as : {b : Book} {r x : BookAnswer} {before after : Lent} → r ≡ x → BookEntered b x before after → BookEntered b r before after
entered_as e p = record { value = e ∙ p.value; slices = p.slices }

pub few-bonds : {f : Bool} (n : ℕ) → f ≡ outside 1 32 n → f ≡ false → n ≤ 32
few-bonds n e t = go (ltb n 1) (sym e ∙ t)
  where
    go : (b : Bool) → (b || ltb 32 n) ≡ false → n ≤ 32
    go true p = absurd (let z : ◌≡◌ {A = ℕ} 0 1 = cc in omega arith)
    go false p = ltb-false 32 n p

-- A book that passed its checks has at most 32 bonds, each of which passed its own.
module _ (b : Book) where
  pub checked-few : book_checks b ≡ Passed → size_of b.fields ≤ 32
  unfolding book_checks
  checked-few e = go (outside 1 32 (size_of b.fields)) refl e
    where
      go : (w : Bool) → w ≡ outside 1 32 (size_of b.fields) → cond w (Refused 0 (record { reason = reason.BookSize; place = 0 })) (on_book (desks b) Refused (bonds b)) ≡ Passed → size_of b.fields ≤ 32
      go true t p = absurd (let z : ◌≡◌ {A = ℕ} 0 1 = cc in omega arith)
      go false t p = few-bonds (size_of b.fields) t refl

  pub checked-bonds : book_checks b ≡ Passed → first_refused (λ i. bond_check b.shared b.lists (holding_at b.fields i)) (size_of b.fields) 0 ≡ Passed
  unfolding book_checks on_book
  checked-bonds e = go (outside 1 32 (size_of b.fields)) (desks b) e
    where
      go : (w : Bool) (k : BookCheck) → cond w (Refused 0 (record { reason = reason.BookSize; place = 0 })) (on_book k Refused (bonds b)) ≡ Passed → bonds b ≡ Passed
      go true k p = absurd (let z : ◌≡◌ {A = ℕ} 0 1 = cc in omega arith)
      go false Passed p = p
      go false (Err q) p = absurd (let z : ◌≡◌ {A = ℕ} 0 1 = cc in omega arith)

-- The same by a table of what the bonds hold.
module _ (b : Book) {o : BookOutcome (List Holding)} (h : HeldBook b o) where
  pub held-refused : {q : RefusedBond} → o ≡ Err q → book_checks b ≡ Err q
  held-refused {q} e = go o e h
    where
      go : (k : BookOutcome (List Holding)) → k ≡ Err q → HeldBook b k → book_checks b ≡ Err q
      go (Ok table) e h = absurd (let z : ◌≡◌ {A = ℕ} 0 1 = cc in omega arith)
      go (Err r) e h = let same : r ≡ q = cc in h ∙ ap Err same

  module _ {table : List Holding} (e : o ≡ Ok table) where
    of_book : (book_checks b ≡ Passed) × Held b.fields table
    of_book = go o e h
      where
        go : (k : BookOutcome (List Holding)) → k ≡ Ok table → HeldBook b k → (book_checks b ≡ Passed) × Held b.fields table
        go (Ok other) e h = let same : other ≡ table = cc in (h.0, rw (← same) h.1)
        go (Err r) e h = absurd (let z : ◌≡◌ {A = ℕ} 0 1 = cc in omega arith)

    pub held-passed : book_checks b ≡ Passed
    held-passed = of_book.0

    module _ {n : ℕ} (i : n ≡ size_of b.fields) where
      pub held-few : n ≤ 32
      held-few = let few = checked-few b held-passed in omega arith

      pub held-checked : first_refused (λ i. bond_check b.shared b.lists (get_or table i past_end)) n 0 ≡ Passed
      held-checked =
          ap (λ (m : ℕ). first_refused (λ i. bond_check b.shared b.lists (get_or table i past_end)) m 0) i
          ∙ same_checks b.shared b.lists b.fields table of_book.1
          ∙ checked-bonds b held-passed

      pub held-valued : (before : Lent) {v : BookOutcome Valued} → v ≡ values_of b.shared b.lists (λ i. get_or table i past_end) (room_of before) n → v ≡ values_of b.shared b.lists (holding_at b.fields) (room_of before) (size_of b.fields)
      held-valued before p =
          p
          ∙ ap (values_of b.shared b.lists (λ i. get_or table i past_end) (room_of before)) i
          ∙ valued-alike _ _ (size_of b.fields) (λ k l. ap (tree_of b.shared b.lists (room_of before)) (of_book.1.at k l))
