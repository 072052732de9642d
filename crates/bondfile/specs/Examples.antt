-- A file and what it says, computed by the checker; and files that are refused, with the line and the column.
use Rattle.std.specs.Prelude.{ℕ, ◌≡◌, refl, Ok, Err, List, [], ◌∷◌, map, Float}
use Prim.Native.String.{String}
use Rattle.std.specs.Float.{binary64}
use Rattle.std.specs.Float.Ieee.{of_bits}
use Rattle.std.specs.Float.Ieee as ieee
use Rattle.calendar.specs.Calendar.{dated}
use Rattle.decimal.specs.Decimal.{read_decimal}
use Rattle.bondline.specs.declared.Kind.TheVariants as kind
use Rattle.bondline.specs.declared.Cause.TheVariants.{Byte, UnknownWord, TooFewWords, TooManyWords, NotACount, NotADay, NoDate, DateOutside, NotANumber, LongNumber, NotAKind, NotAFrequency}
use Rattle.bondline.specs.declared.Entry.TheVariants.{Blank, Settlement, Cashflow, Call, Pillar, Yield}
use Rattle.bondfile.specs.declared.FileError.TheVariants.{Wrong, Twice, Missing}
use Rattle.bondline.specs.Bytes.{bytes}
use Rattle.bondline.specs.Words.{span_of, seek}
use Rattle.bondline.specs.Numbers.{whole_from, whole_of, date_shaped, part_of, date_of, day_of}
use Rattle.bondline.specs.Values.{fault, column_in, count_at, day_fault, day_at, number_fault, number_at, choice_at, kind_at, compounding_at, frequency_at, shape_of}
use Rattle.bondline.specs.Forms.{Said, number_form, settlement_form, units_form, steps_form, alpha_form, spread_form, cashflow_form, call_form, sigma_form, pillar_form, yield_form, quote_form, form_of, kind_named, body_entry}
use Rattle.bondline.specs.Lines.{line_entry}
use Rattle.bondfile.specs.File.{lines_of, numbered, entries_of}
use Rattle.bondfile.specs.Checks.{FileCheck, verdict_of, missing, check_from, file_check}

abbrev says : String → List Said
says text = map (λ e. e.entry) (entries_of (bytes text))

abbrev checks : String → FileCheck
checks text = file_check (bytes text)

abbrev double : ℕ → Float
double n = of_bits binary64 n

pub record Starred : Type 0 where
  -- Comments and blank lines say nothing. Any number of spaces is one.
  pub settled : says "  settlement   45000 # today\n\n# and so on" ≡ Ok (Settlement 45000) ∷ Ok Blank ∷ Ok Blank ∷ []
  -- A date is its day; the last line may lack its end.
  pub dated-line : says "pillar 2026-11-15 1\n" ≡ Ok (Pillar 46339 (double 0x3ff0_0000_0000_0000)) ∷ []
  pub call_line : says "call 45365 45730 101.5" ≡ Ok (Call 45365 45730 (double 0x4059_6000_0000_0000)) ∷ []
  pub flow_line : says "cashflow 45365 coupon 5\ncashflow 45365 redemption 100" ≡ Ok (Cashflow 45365 0 (double 0x4014_0000_0000_0000)) ∷ Ok (Cashflow 45365 1 (double 0x4059_0000_0000_0000)) ∷ []
  pub yield-line : says "yield 101.25 compounded annual" ≡ Ok (Yield (double 0x4059_5000_0000_0000) 1 1) ∷ []
  -- A whole file, in any order of its lines.
  pub good : checks "spread 0.002\nsigma 0 0.01\nalpha 0.1\nsteps 12 512\n# the bond\nunits 100\nsettlement 45000\n" ≡ Ok tt
  -- The first thing wrong, with its line and column.
  pub empty : checks "" ≡ Err (Missing kind.Settlement)
  pub missing-alpha : checks "settlement 45000\nunits 100\nsteps 12 512\nspread 0\n" ≡ Err (Missing kind.Alpha)
  pub two_settlements : checks "settlement 45000\n\nsettlement 45000\n" ≡ Err (Twice 3 kind.Settlement)
  pub unknown : checks "settlement 45000\n setlement 1\n" ≡ Err (Wrong 2 (fault 2 UnknownWord))
  pub crlf : checks "settlement 45000\r\n" ≡ Err (Wrong 1 (fault 17 (Byte 13)))
  pub tab : checks "settlement\t45000" ≡ Err (Wrong 1 (fault 11 (Byte 9)))
  pub above_127 : checks "é" ≡ Err (Wrong 1 (fault 1 (Byte 233)))
  pub named : checks "name XS0" ≡ Err (Missing kind.Settlement)
  pub in_a_comment : checks "# é" ≡ Err (Missing kind.Settlement)
  pub cr_in_a_comment : checks "# é\r" ≡ Err (Wrong 1 (fault 4 (Byte 13)))
  pub no_date : checks "settlement 2026-02-29" ≡ Err (Wrong 1 (fault 12 NoDate))
  pub outside : checks "settlement 1899-12-31" ≡ Err (Wrong 1 (fault 12 DateOutside))
  pub no_day_lem : checks "settlement 45o00" ≡ Err (Wrong 1 (fault 14 NotADay))
  pub too_few : checks "steps 12" ≡ Err (Wrong 1 (fault 1 TooFewWords))
  pub too_many : checks "units 1 2" ≡ Err (Wrong 1 (fault 9 TooManyWords))
  pub no_count : checks "steps 12 5.5" ≡ Err (Wrong 1 (fault 11 NotACount))
  pub not_a_number : checks "units nan" ≡ Err (Wrong 1 (fault 7 NotANumber))
  pub two_points : checks "units 1.2.3" ≡ Err (Wrong 1 (fault 10 NotANumber))
  pub too_long : checks "units 100000000000000000" ≡ Err (Wrong 1 (fault 24 LongNumber))
  pub no_kind : checks "cashflow 45365 coupons 5" ≡ Err (Wrong 1 (fault 16 NotAKind))
  pub no_frequency : checks "yield 100 compounded yearly" ≡ Err (Wrong 1 (fault 22 NotAFrequency))

pub starred : Starred
unfolding dated read_decimal ieee.of_bits span_of seek whole_from whole_of date_shaped part_of date_of day_of column_in count_at day_fault day_at number_fault number_at choice_at kind_at compounding_at frequency_at shape_of number_form settlement_form units_form steps_form alpha_form spread_form cashflow_form call_form sigma_form pillar_form yield_form quote_form form_of kind_named body_entry line_entry lines_of numbered verdict_of missing check_from
starred =
    record {
      settled = refl;
      dated-line = refl;
      call_line = refl;
      flow_line = refl;
      yield-line = refl;
      good = refl;
      empty = refl;
      missing-alpha = refl;
      two_settlements = refl;
      unknown = refl;
      crlf = refl;
      tab = refl;
      above_127 = refl;
      named = refl;
      in_a_comment = refl;
      cr_in_a_comment = refl;
      no_date = refl;
      outside = refl;
      no_day_lem = refl;
      too_few = refl;
      too_many = refl;
      no_count = refl;
      not_a_number = refl;
      two_points = refl;
      too_long = refl;
      no_kind = refl;
      no_frequency = refl;
    }
