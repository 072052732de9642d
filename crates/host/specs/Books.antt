-- Definitions only. What a C caller is handed of a book: the refusal number as the result, 0 where accepted, the place, the refused bond, and the outputs, 0 on a refusal.
use Rattle.std.specs.Prelude.{ℕ, ◌≡◌, List, Float}
use Rattle.floats.specs.Reasons.{refusal_number, refusal_place}
use Rattle.treebasedbondpricer.specs.Tree.{Lent, room_of}
use Rattle.bookchecks.specs.Book.{Book}
use Rattle.bookvalue.specs.declared.BookAnswer.{BookAnswer}
use Rattle.bookvalue.specs.Values.{book_value}
use Rattle.bookvalue.specs.Entry.{book_lent}

pub record HandedAnswer (answer : BookAnswer) (result place bond : ℕ) (values : List Float) (sum : Float) (counts : List ℕ) : Type 0 where
  pub number_is : result ≡ refusal_number answer.refusal
  pub place_is : place ≡ refusal_place answer.refusal
  pub bond_is : bond ≡ answer.bond
  pub values_are : values ≡ answer.values
  pub sum_is : sum ≡ answer.sum
  pub counts_are : counts ≡ answer.counts

-- Of the entry: the answer, and the end content of the four lent slices.
pub record HandedBook (b : Book) (before after : Lent) (result place bond : ℕ) (values : List Float) (sum : Float) (counts : List ℕ) : Type 0 where
  pub handed : HandedAnswer (book_value b (room_of before)) result place bond values sum counts
  pub slices : after ≡ book_lent b before
