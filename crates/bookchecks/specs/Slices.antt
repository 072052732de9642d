-- Definitions only. What a call's slices hold where it begins, gathered as a book.
use Rattle.std.specs.Prelude.{ℕ, List, Float}
use Rattle.std.specs.Borrow.{Bor}
use denote.Triple.Both.{Both}
use Rattle.terms.specs.Terms.{Leg, CallSchedule, SigmaSchedule, Pillars}
use Rattle.bookchecks.specs.Book.{Shared, Fields, Lists}

abbrev pub shared_of : ℕ → Float → SigmaSchedule → Pillars → Shared
shared_of day alpha sigma pillars = record { day = day; model = record { alpha = alpha; sigma = sigma }; pillars = pillars }

abbrev pub lists_of : Leg → CallSchedule → CallSchedule → Lists
lists_of leg calls puts = record { leg = leg; calls = calls; puts = puts }

abbrev pub fields_in : {A B C D E F G H I : Type 0} → Both (Bor (List ℕ)) A → Both (Bor (List ℕ)) B → Both (Bor (List Float)) C → Both (Bor (List ℕ)) D → Both (Bor (List ℕ)) E → Both (Bor (List ℕ)) F → Both (Bor (List ℕ)) G → Both (Bor (List Float)) H → Both (Bor (List ℕ)) I → Fields
fields_in codes cashflows units calls puts yearly maximum spreads desks =
    record {
      codes = codes.entry.now;
      cashflows = cashflows.entry.now;
      units = units.entry.now;
      calls = calls.entry.now;
      puts = puts.entry.now;
      per_year = yearly.entry.now;
      maximum = maximum.entry.now;
      spreads = spreads.entry.now;
      desks = desks.entry.now;
    }
