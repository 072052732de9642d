-- A table of what the bonds hold: a loop that fills it from the front. Assumes nothing.
use Rattle.std.specs.Prelude.{ℕ, ◌+◌, ◌<◌, ◌≤◌, ◌≡◌, false, List, length, get_or, set, replicate, Ok, Err}
use Rattle.std.proofs.Common.{arith, below_more, ap, ◌∙◌, length-set, get_or-set_same, get_or-set_other}
use Rattle.std.proofs.lemmas.List.{length-replicate}
use Rattle.std.specs.Float.{nan}
use Rattle.bookchecks.specs.declared.Holding.{Holding}
use Rattle.bookchecks.specs.Book.{Fields, Book, size_of, holding_at}
use Rattle.bookchecks.specs.Checks.{BookOutcome, Passed, book_checks}

-- The places before i hold what the rule f says.
pub record Filling {A : Type 0} (f : ℕ → A) (d : A) (size i : ℕ) (table : List A) : Type 0 where
  pub sized : length table ≡ size
  pub at : (k : ℕ) → k < i → get_or table k d ≡ f k

module _ {A : Type 0} (f : ℕ → A) (d : A) (size : ℕ) where
  pub fill-begin : (v : A) → Filling f d size 0 (replicate size v)
  fill-begin v = record { sized = length-replicate size v; at = λ k h. absurd (omega arith) }

  pub fill_more : (i : ℕ) (table : List A) {v : A} → Filling f d size i table → i < size → v ≡ f i → Filling f d size (i + 1) (set table i v)
  fill_more i table {v} s h e =
      record {
        sized = length-set table i v ∙ s.sized;
        at =
            below_more (λ k. get_or (set table i v) k d ≡ f k) i
            (λ k l. get_or-set_other table i k v d (λ (q : k ≡ i). omega arith) ∙ s.at k l)
            (get_or-set_same table i v d (omega (arith, s.sized)) ∙ e);
      }

-- What stands past the end of a table.
abbrev pub past_end : Holding
past_end =
    record {
      code = 0;
      units = nan;
      yearly = 0;
      maximum = 0;
      spread = nan;
      desk = 0;
      cashflows = record { from = 0; count = 0 };
      calls = record { from = 0; count = 0 };
      puts = record { from = 0; count = 0 };
      last = false;
      unset = false;
      amiss = false;
    }

-- Each bond of the book stands in its place.
pub record Held (f : Fields) (table : List Holding) : Type 0 where
  pub at : (i : ℕ) → i < size_of f → get_or table i past_end ≡ holding_at f i

pub held : (f : Fields) (i : ℕ) (table : List Holding) → size_of f ≤ i → Filling (holding_at f) past_end 32 i table → Held f table
held f i table h s = record { at = λ k l. s.at k (omega arith) }

-- So are the desks.
pub desk_at : (f : Fields) (table : List Holding) → Held f table → (i : ℕ) → i < size_of f → (get_or table i past_end).desk ≡ get_or f.desks i 0
unfolding holding_at
desk_at f table h i l = ap (λ (z : Holding). z.desk) (h.at i l)

-- Of a book that passes its checks, each bond's place; else what the checks refuse.
abbrev pub HeldBook : Book → BookOutcome (List Holding) → Type 0
HeldBook b (Ok table) = (book_checks b ≡ Passed) × Held b.fields table
HeldBook b (Err q) = book_checks b ≡ Err q
