-- Definitions only. What the book's entry promises: the answer, and the end content of the four lent slices.
use Rattle.std.specs.Prelude.{◌≡◌}
use Rattle.treebasedbondpricer.specs.Tree.{Lent, room_of, zeroed}
use Rattle.bookchecks.specs.Book.{Book}
use Rattle.bookchecks.specs.Checks.{on_book, book_checks}
use Rattle.bookvalue.specs.declared.BookAnswer.{BookAnswer}
use Rattle.bookvalue.specs.Values.{book_value}

-- Untouched where the checks refuse; all zero after every other refusal and after every accepted call.
unfoldable pub book_lent : Book → Lent → Lent
unfolding book_checks on_book
book_lent b l = on_book (book_checks b) (λ bond r. l) (zeroed l)

pub record BookEntered (b : Book) (answer : BookAnswer) (before after : Lent) : Type 0 where
  pub value : answer ≡ book_value b (room_of before)
  pub slices : after ≡ book_lent b before
