-- The checks of a book from their parts: its size, its desks, its bonds. Assumes nothing.
use Rattle.std.specs.Prelude.{ℕ, ◌≡◌, refl, Bool, true, false, cond, List, get_or, ltb, Ok, Err}
use Rattle.std.proofs.Common.{arith, sym, ap, ◌∙◌}
use Rattle.floats.specs.Answers.{on_outcome}
use Rattle.terms.specs.Checks.{single, outside}
use Rattle.bookchecks.specs.declared.Holding.{Holding}
use Rattle.bookchecks.specs.declared.RefusedBond.{RefusedBond}
use Rattle.bookchecks.specs.Book.{Book, size_of, holding_at}
use Rattle.bookchecks.specs.Checks.{BookOutcome, BookCheck, Refused, at_bond, bond_check, first_refused, on_book, desk_check, book_checks}
use Rattle.bookchecks.specs.laws.Holdings.{past_end, Held, HeldBook}
use Rattle.bookchecks.proofs.laws.Holdings.{same_checks, same_desks}
use Rattle.floats.specs.declared.Reason.TheVariants as reason

module _ (b : Book) where
  abbrev bonds : BookCheck
  bonds = first_refused (λ i. bond_check b.shared b.lists (holding_at b.fields i)) (size_of b.fields) 0

  abbrev desks : BookCheck
  desks = first_refused (desk_check b.fields) (size_of b.fields) 0

  -- By its size, its desks and its bonds.
  module _ {u : BookCheck} (e : u ≡ at_bond 0 (single reason.BookSize 0 (outside 1 32 (size_of b.fields)))) where
    pub size-refused : {q : RefusedBond} → u ≡ Err q → Err q ≡ book_checks b
    unfolding book_checks on_outcome
    size-refused {q} t = go (outside 1 32 (size_of b.fields)) (sym t ∙ e)
      where
        go : (w : Bool) → Err q ≡ at_bond 0 (single reason.BookSize 0 w) → Err q ≡ cond w (Refused 0 (record { reason = reason.BookSize; place = 0 })) (on_book desks Refused bonds)
        go true p = p
        go false p = absurd (let z : ◌≡◌ {A = ℕ} 0 1 = cc in omega arith)

    module _ (t : u ≡ Ok tt) where
      of-size : book_checks b ≡ on_book desks Refused bonds
      unfolding book_checks on_outcome
      of-size = go (outside 1 32 (size_of b.fields)) (sym t ∙ e)
        where
          go : (w : Bool) → Ok tt ≡ at_bond 0 (single reason.BookSize 0 w) → cond w (Refused 0 (record { reason = reason.BookSize; place = 0 })) (on_book desks Refused bonds) ≡ on_book desks Refused bonds
          go true p = absurd (let z : ◌≡◌ {A = ℕ} 0 1 = cc in omega arith)
          go false p = refl

      pub desk-refused : {d : BookCheck} {q : RefusedBond} → d ≡ desks → d ≡ Err q → Err q ≡ book_checks b
      unfolding on_book
      desk-refused f p = sym (of-size ∙ ap (λ (k : BookCheck). on_book k Refused bonds) (sym f ∙ p))

      pub bonds-checked : {d r : BookCheck} → d ≡ desks → d ≡ Ok tt → r ≡ bonds → r ≡ book_checks b
      unfolding on_book
      bonds-checked f p g = g ∙ sym (of-size ∙ ap (λ (k : BookCheck). on_book k Refused bonds) (sym f ∙ p))

  -- The same where the size is a number n, and by a table of what the bonds hold.
  module _ {n : ℕ} (i : n ≡ size_of b.fields) {u : BookCheck} (e : u ≡ at_bond 0 (single reason.BookSize 0 (outside 1 32 n))) where
    sized : u ≡ at_bond 0 (single reason.BookSize 0 (outside 1 32 (size_of b.fields)))
    sized = e ∙ ap (λ (m : ℕ). at_bond 0 (single reason.BookSize 0 (outside 1 32 m))) i

    pub held_size-refused : {q : RefusedBond} → u ≡ Err q → book_checks b ≡ Err q
    held_size-refused t = sym (size-refused sized t)

    module _ (t : u ≡ Ok tt) {table : List Holding} {d : BookCheck} (held : Held b.fields table) (f : d ≡ first_refused (λ i. single reason.Desk 0 (ltb 7 (get_or table i past_end).desk)) n 0) where
      desks-are : d ≡ desks
      desks-are = f ∙ ap (λ (m : ℕ). first_refused (λ i. single reason.Desk 0 (ltb 7 (get_or table i past_end).desk)) m 0) i ∙ same_desks b.fields table held

      pub held_desk-refused : {q : RefusedBond} → d ≡ Err q → book_checks b ≡ Err q
      held_desk-refused p = sym (desk-refused sized t desks-are p)

      pub held_bonds-checked : {r : BookCheck} → d ≡ Ok tt → r ≡ first_refused (λ i. bond_check b.shared b.lists (get_or table i past_end)) n 0 → book_checks b ≡ r
      held_bonds-checked p g =
          sym (bonds-checked sized t desks-are p (g ∙ ap (λ (m : ℕ). first_refused (λ i. bond_check b.shared b.lists (get_or table i past_end)) m 0) i ∙ same_checks b.shared b.lists b.fields table held))

  -- A table, or the refusal.
  pub held-refused : {o : BookOutcome (List Holding)} {q : RefusedBond} → o ≡ Err q → book_checks b ≡ Err q → HeldBook b o
  held-refused e h = rw e h
