-- What is handed over of a book is handed over of the definition that it equals. Assumes nothing.
use Prim.Native.Nat.{ℕ}
use mathlib.Core.List.{List}
use lib.Ieee.{Float}
use Rattle.treebasedbondpricer.specs.Tree.{Lent}
use Rattle.bookchecks.specs.Book.{Book}
use Rattle.bookvalue.specs.declared.BookAnswer.{BookAnswer}
use Rattle.bookvalue.specs.Entry.{BookEntered}
use Rattle.host.specs.Books.{HandedAnswer, HandedBook}

pub book_as : {b : Book} {a : BookAnswer} {before after : Lent} {result place bond : ℕ} {values : List Float} {sum : Float} {counts : List ℕ} → BookEntered b a before after → HandedAnswer a result place bond values sum counts → HandedBook b before after result place bond values sum counts
book_as e h = record { handed = rw (← e.value) h; slices = e.slices }
