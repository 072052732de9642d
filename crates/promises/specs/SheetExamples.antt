-- Values on the sheet as it once was, a half going away from zero, beside the rule in force, and lines of answers that are no number, computed by the checker.
use Rattle.std.specs.Prelude.{ℕ, ◌≡◌, refl, false, true, [], ◌∷◌, ◌++◌, Float, Ok, Some}
use Prim.Native.String.{String}
use Rattle.std.specs.Float.{nan, inf, binary64}
use Rattle.std.specs.Float.Ieee.{of_bits}
use Rattle.std.specs.Float.Ieee as ieee
use Rattle.decimal.specs.Examples.{bytes}
use Rattle.bondreport.specs.Columns.{put_at}
use Rattle.bondreport.specs.Numbers.{byte_left, digits_left, width_of, whole_left}
use Rattle.bondreport.specs.Figures.{point_left, minus_left}
use Rattle.closingsheet.specs.declared.ClosingLine.{ClosingLine}
use Rattle.closingsheet.specs.Cells.{ValueCell, printed_of, value_cell}
use Rattle.closingsheet.specs.Sheet.{at, answer_sheet, sheet_by, sheet_of}
use Rattle.closingsheet.specs.HalfAway.{printed_away, away_cell, away_sheet}

abbrev cell : String → ValueCell
cell text = record { wide = false; cell = bytes text }

-- What a double's 16 columns were, and what they are.
pub record Prints (bits : ℕ) (once now : String) : Type 0 where
  pub half_away_lem : away_cell (of_bits binary64 bits) ≡ cell once
  pub half_to_even : value_cell (of_bits binary64 bits) ≡ cell now

-- Bond 1's line of 32: value and count are blank.
abbrev line32 : ClosingLine
line32 = record { refusal = Some (at 32 0); line = bytes "     1                          32" ++ (10 ∷ []) }

-- Bond 1's line of a value with 2 nodes, as it was and as it is.
pub record NotShown (x : Float) : Type 0 where
  pub half_away_lem : away_sheet 1 (Ok (record { value = x; nodes = 2 })) ≡ line32
  pub half_to_even : sheet_of 1 (Ok (record { value = x; nodes = 2 })) ≡ line32

pub record Starred : Type 0 where
  -- 0.125, -0.125 and 0.375 are exact halves: the last goes up either way.
  pub half : Prints 0x3fc0_0000_0000_0000 "            0.13" "            0.12"
  pub half-below : Prints 0xbfc0_0000_0000_0000 "           -0.13" "           -0.12"
  pub half_up : Prints 0x3fd8_0000_0000_0000 "            0.38" "            0.38"
  -- -0.004 has no sign left.
  pub no_sign : Prints 0xbf70_624d_d2f1_a9fc "            0.00" "            0.00"
  -- No tree value gives these; the line of a known answer is 32.
  pub infinity : NotShown (inf false)
  pub minus-infinity : NotShown (inf true)
  pub no_number : NotShown nan

pub starred : Starred
unfolding printed_away put_at byte_left digits_left width_of whole_left point_left minus_left printed_of answer_sheet sheet_by ieee.of_bits
starred =
    record {
      half = record { half_away_lem = refl; half_to_even = refl };
      half-below = record { half_away_lem = refl; half_to_even = refl };
      half_up = record { half_away_lem = refl; half_to_even = refl };
      no_sign = record { half_away_lem = refl; half_to_even = refl };
      infinity = record { half_away_lem = refl; half_to_even = refl };
      minus-infinity = record { half_away_lem = refl; half_to_even = refl };
      no_number = record { half_away_lem = refl; half_to_even = refl };
    }
