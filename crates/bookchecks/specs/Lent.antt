-- Definitions only. What a book's slices hold where a call begins.
use denote.Triple.Both.{Both}
use Rattle.terms.specs.Market.{leg_of, calls_of, model_of, pillars_of}
use Rattle.bookchecks.specs.declared.Shared.{Shared as LentShared}
use Rattle.bookchecks.specs.declared.Fields.{Fields as LentFields}
use Rattle.bookchecks.specs.declared.Lists.{Lists as LentLists}
use Rattle.bookchecks.specs.declared.Book.{Book as LentBook}
use Rattle.bookchecks.specs.Book.{Shared, Fields, Lists, Book}

abbrev pub shared_of : LentShared → Shared
shared_of s = record { day = s.day; model = model_of s.model; pillars = pillars_of s.pillars }

abbrev pub fields_of : LentFields → Fields
fields_of f =
    record {
      codes = f.codes.now;
      cashflows = f.cashflows.now;
      units = f.units.now;
      calls = f.calls.now;
      puts = f.puts.now;
      per_year = f.per_year.now;
      maximum = f.maximum.now;
      spreads = f.spreads.now;
      desks = f.desks.now;
    }

abbrev pub lists_of : LentLists → Lists
lists_of l = record { leg = leg_of l.leg; calls = calls_of l.calls; puts = calls_of l.puts }

abbrev pub book_of : LentBook → Book
book_of b = record { shared = shared_of b.shared; fields = fields_of b.fields; lists = lists_of b.lists }

abbrev pub shared_in : {X : Type 0} → Both LentShared X → Shared
shared_in s = shared_of s.entry

abbrev pub fields_in : {X : Type 0} → Both LentFields X → Fields
fields_in f = fields_of f.entry

abbrev pub book_in : {X : Type 0} → Both LentBook X → Book
book_in b = book_of b.entry

abbrev pub lists_in : {X : Type 0} → Both LentLists X → Lists
lists_in l = lists_of l.entry
