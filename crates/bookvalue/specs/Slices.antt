-- Definitions only. What a call's slices hold where it begins, gathered as a book.
use Rattle.bookchecks.specs.Book.{Shared, Fields, Lists, Book}

abbrev pub book_of : Shared → Fields → Lists → Book
book_of shared fields lists = record { shared = shared; fields = fields; lists = lists }
