-- Definitions only. A book: what its bonds share, what comes with each, and a bond's own part of the lists.
use Rattle.std.specs.Prelude.{ℕ, zero, suc, ◌+◌, Bool, not, ◌&&◌, ◌||◌, List, length, get_or, take, drop, eqb, ltb, Float}
use Rattle.floats.specs.Answers.{plus_zero}
use Rattle.terms.specs.Terms.{Leg, CallSchedule, Pillars, HullWhite, Market}
use Rattle.bookchecks.specs.declared.Part.{Part}
use Rattle.bookchecks.specs.declared.Holding.{Holding}

-- One settlement day, curve, sigma schedule and alpha.
pub record Shared : Type 0 where
  pub day : ℕ
  pub model : HullWhite
  pub pillars : Pillars

-- What comes with each bond, a place for each in every list.
pub record Fields : Type 0 where
  pub codes : List ℕ
  pub cashflows : List ℕ
  pub units : List Float
  pub calls : List ℕ
  pub puts : List ℕ
  pub per_year : List ℕ
  pub maximum : List ℕ
  pub spreads : List Float
  pub desks : List ℕ

-- The entries of all bonds, one bond's after the other's.
pub record Lists : Type 0 where
  pub leg : Leg
  pub calls : CallSchedule
  pub puts : CallSchedule

pub record Book : Type 0 where
  pub shared : Shared
  pub fields : Fields
  pub lists : Lists

-- The number of cashflow counts is the size of the book.
abbrev pub size_of : Fields → ℕ
size_of f = length f.cashflows

-- ---- a bond's part of a list

-- The sum of the counts before a bond.
unfoldable pub before : List ℕ → ℕ → ℕ
before counts zero = 0
before counts (suc i) = before counts i + get_or counts i 0

abbrev pub part_of : List ℕ → ℕ → Part
part_of counts i = record { from = before counts i; count = get_or counts i 0 }

abbrev pub cut : {A : Type 0} → Part → List A → List A
cut p xs = take p.count (drop p.from xs)

abbrev pub cut_leg : Part → Leg → Leg
cut_leg p l = record { days = cut p l.days; kinds = cut p l.kinds; amounts = cut p l.amounts }

abbrev pub cut_entries : Part → CallSchedule → CallSchedule
cut_entries p c = record { starts = cut p c.starts; ends = cut p c.ends; strikes = cut p c.strikes }

-- ---- what doesn't add up

-- A list that ends before what is needed of it, or, at the last bond, goes on behind it.
abbrev pub amiss : Bool → ℕ → ℕ → Bool
amiss last needed n = ltb n needed || (last && ltb needed n)

-- The code or a step setting is missing.
abbrev pub unset : Fields → ℕ → Bool
unset f i = not (ltb i (length f.codes)) || (not (ltb i (length f.per_year)) || not (ltb i (length f.maximum)))

abbrev pub is_last : Fields → ℕ → Bool
is_last f i = eqb (i + 1) (size_of f)

-- A field of the bond is missing, or one is left over behind the last bond.
abbrev pub fields_amiss : Bool → ℕ → Fields → Bool
fields_amiss last needed f =
    (amiss last needed (length f.codes)
    || (amiss last needed (length f.units) || (amiss last needed (length f.calls) || amiss last needed (length f.puts))))
    || (amiss last needed (length f.per_year)
    || (amiss last needed (length f.maximum) || (amiss last needed (length f.spreads) || amiss last needed (length f.desks))))

-- What the fields say of a bond; a missing number is 0.
unfoldable pub holding_at : Fields → ℕ → Holding
unfolding before
holding_at f i =
    record {
      code = get_or f.codes i 0;
      units = get_or f.units i plus_zero;
      yearly = get_or f.per_year i 0;
      maximum = get_or f.maximum i 0;
      spread = get_or f.spreads i plus_zero;
      desk = get_or f.desks i 0;
      cashflows = part_of f.cashflows i;
      calls = part_of f.calls i;
      puts = part_of f.puts i;
      last = is_last f i;
      unset = unset f i;
      amiss = fields_amiss (is_last f i) (i + 1) f;
    }

-- ---- the bond alone

abbrev pub calls_of : Lists → Holding → CallSchedule
calls_of l h = cut_entries h.calls l.calls

abbrev pub market_of : Shared → Lists → Holding → Market
market_of s l h =
    record {
      settlement = record { day = s.day; code = h.code };
      bond = record { leg = cut_leg h.cashflows l.leg; units = h.units; puts = cut_entries h.puts l.puts };
      controls = record { per_year = h.yearly; maximum = h.maximum };
      model = s.model;
      spread = h.spread;
      pillars = s.pillars;
    }

abbrev pub holding : Book → ℕ → Holding
holding b i = holding_at b.fields i

abbrev pub market_at : Book → ℕ → Market
market_at b i = market_of b.shared b.lists (holding b i)

abbrev pub calls_at : Book → ℕ → CallSchedule
calls_at b i = calls_of b.lists (holding b i)
