-- Definitions only. The input checks of a book: each bond's as if it were alone, over the whole book.
use Rattle.std.specs.Prelude.{ℕ, zero, suc, ◌+◌, Bool, cond, ◌||◌, List, [], ◌∷◌, length, get_or, ltb, Result, Ok, Err}
use Rattle.floats.specs.Refusals.{Refusal}
use Rattle.floats.specs.Answers.{Check, Outcome, on_outcome}
use Rattle.terms.specs.Terms.{Leg, CallSchedule}
use Rattle.terms.specs.Checks.{on_check, first_of, single, outside, settings, day_count}
use Rattle.terms.specs.Entries.{tree_checks}
use Rattle.bookchecks.specs.declared.Part.{Part}
use Rattle.bookchecks.specs.declared.Holding.{Holding}
use Rattle.bookchecks.specs.declared.Lengths.{Lengths}
use Rattle.bookchecks.specs.declared.RefusedBond.{RefusedBond}
use Rattle.bookchecks.specs.Book.{Shared, Fields, Lists, Book, size_of, amiss, holding_at, calls_of, market_of}
use Rattle.floats.specs.declared.Reason.TheVariants as reason

-- ---- what the checks of a book find

abbrev pub BookOutcome : Type 0 → Type 0
BookOutcome A = Result A RefusedBond

abbrev pub BookCheck : Type 0
BookCheck = BookOutcome (Unit {0})

pattern abbrev pub Passed : BookCheck
Passed = Ok tt

-- The first refused bond, and its refusal.
abbrev pub Refused : {A : Type 0} → ℕ → Refusal → BookOutcome A
Refused bond r = Err (record { bond = bond; refusal = r })

-- What is found of one bond, with the bond named where it is refused.
abbrev pub at_bond : {A : Type 0} → ℕ → Outcome A → BookOutcome A
at_bond bond o = on_outcome o (λ r. Refused bond r) Ok

-- ---- how bonds follow one another

-- The first bond in book order that is refused, of count bonds from bond i on.
unfoldable pub first_refused : (ℕ → Check) → ℕ → ℕ → BookCheck
unfolding on_check
first_refused check zero i = Passed
first_refused check (suc count) i = on_check (check i) (λ r. Refused i r) (first_refused check count (suc i))

unfoldable pub on_book : {A : Type 0} → BookCheck → (ℕ → Refusal → A) → A → A
on_book Passed f a = a
on_book (Err q) f a = f q.bond q.refusal

-- ---- one bond

abbrev pub part_amiss : Bool → Part → Lengths → Bool
part_amiss last p n = amiss last (p.from + p.count) n.one || (amiss last (p.from + p.count) n.two || amiss last (p.from + p.count) n.three)

abbrev pub leg_lengths : Leg → Lengths
leg_lengths l = record { one = length l.days; two = length l.kinds; three = length l.amounts }

abbrev pub entry_lengths : CallSchedule → Lengths
entry_lengths c = record { one = length c.starts; two = length c.ends; three = length c.strikes }

-- The cut doesn't add up: a field is missing, a cut passes a list's end, or something is left over behind the last bond.
abbrev pub cut_amiss : Holding → Lengths → Lengths → Lengths → Bool
cut_amiss h leg calls puts =
    h.amiss || (part_amiss h.last h.cashflows leg || (part_amiss h.last h.calls calls || part_amiss h.last h.puts puts))

-- 2 in its own position, after 1 and 33; first only where the code or the step settings are themselves missing.
abbrev pub cut_checks : Holding → Lengths → Lengths → Lengths → List Check
cut_checks h leg calls puts =
    single reason.Count 0 h.unset
    ∷ settings (record { per_year = h.yearly; maximum = h.maximum })
    ∷ day_count h.code
    ∷ single reason.Count 0 (cut_amiss h leg calls puts)
    ∷ []

-- Then the checks of the bond alone.
unfoldable pub bond_check : Shared → Lists → Holding → Check
unfolding first_of on_check tree_checks
bond_check s l h =
    on_check (first_of (cut_checks h (leg_lengths l.leg) (entry_lengths l.calls) (entry_lengths l.puts))) Err
    (tree_checks (market_of s l h) (calls_of l h))

-- ---- the book

-- A desk outside 0 to 7 is 40, with place 0. A missing desk is no desk, and the bond's 2.
abbrev pub desk_check : Fields → ℕ → Check
desk_check f i = single reason.Desk 0 (ltb 7 (get_or f.desks i 0))

-- A book size outside 1 to 32 is 39, tried before anything else and naming the first bond; 40 is tried on all bonds right after it. Then bond by bond.
unfoldable pub book_checks : Book → BookCheck
unfolding first_refused on_book bond_check holding_at
book_checks b =
    cond
    (outside 1 32 (size_of b.fields))
    (Refused 0 (record { reason = reason.BookSize; place = 0 }))
    (on_book (first_refused (desk_check b.fields) (size_of b.fields) 0) Refused
    (first_refused (λ i. bond_check b.shared b.lists (holding_at b.fields i)) (size_of b.fields) 0))
