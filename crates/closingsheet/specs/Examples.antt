-- Lines of the closing sheet as they are printed, computed by the checker.
use Rattle.std.specs.Prelude.{ℕ, ◌≡◌, refl, true, false, [], ◌∷◌, ◌++◌, replicate, Float, Option, Some, None, Ok, Err}
use Prim.Native.String.{String}
use Rattle.std.specs.Float.{nan, inf, binary64}
use Rattle.std.specs.Float.Ieee.{of_bits}
use Rattle.std.specs.Float.Ieee as ieee
use Rattle.decimal.specs.Examples.{bytes}
use Rattle.bondreport.specs.Columns.{put_at}
use Rattle.bondreport.specs.Numbers.{byte_left, digits_left, width_of, whole_left}
use Rattle.bondreport.specs.Figures.{point_left, minus_left}
use Rattle.closingsheet.specs.declared.NumberedRefusal.{NumberedRefusal}
use Rattle.closingsheet.specs.declared.ClosingLine.{ClosingLine}
use Rattle.closingsheet.specs.Cells.{ValueCell, printed_of, value_cell}
use Rattle.closingsheet.specs.Sheet.{at, answer_sheet, sheet_by, sheet_of}

-- A line of 34 columns and the newline.
abbrev printed : Option NumberedRefusal → String → ClosingLine
printed refused text = record { refusal = refused; line = bytes text ++ (10 ∷ []) }

abbrev shows : ℕ → ValueCell
shows bits = value_cell (of_bits binary64 bits)

abbrev cell : String → ValueCell
cell text = record { wide = false; cell = bytes text }

abbrev wide : ValueCell
wide = record { wide = true; cell = replicate 16 32 }

-- The double 99, and no line.
abbrev ninety_nine : Float
ninety_nine = of_bits binary64 0x4058_c000_0000_0000

abbrev zeros : ClosingLine
zeros = record { refusal = Some (at 31 0); line = replicate 35 0 }

pub record Starred : Type 0 where
  -- The last example of 01 with a value, as bond 1: 99.00 ends in column 22, and 2 in column 30.
  pub window : sheet_of 1 (Ok (record { value = ninety_nine; nodes = 2 })) ≡ printed None "     1           99.00       2    "
  -- Every column in use, but for the refusal's.
  pub widest : sheet_of 999999 (Ok (record { value = (of_bits binary64 0xc26d_1a94_a1ff_ffae); nodes = 99999999 })) ≡ printed None "999999-999999999999.9999999999    "
  -- 0.125, 0.375 and -0.125 are exact halves, and go to the even cent.
  pub half : shows 0x3fc0_0000_0000_0000 ≡ cell "            0.12"
  pub half_up : shows 0x3fd8_0000_0000_0000 ≡ cell "            0.38"
  pub half-below : shows 0xbfc0_0000_0000_0000 ≡ cell "           -0.12"
  -- 1.005 as a double is less than it says, and 0.005 more.
  pub no_half : shows 0x3ff0_147a_e147_ae14 ≡ cell "            1.00"
  pub above_half : shows 0x3f74_7ae1_47ae_147b ≡ cell "            0.01"
  -- -0.004, -0 and the smallest double below zero.
  pub no_sign : shows 0xbf70_624d_d2f1_a9fc ≡ cell "            0.00"
  pub minus-zero : shows 0x8000_0000_0000_0000 ≡ cell "            0.00"
  pub least : shows 0x8000_0000_0000_0001 ≡ cell "            0.00"
  -- 999,999,999,999.99, one cent more, and what is no number.
  pub last : shows 0x426d_1a94_a1ff_ffae ≡ cell " 999999999999.99"
  pub last_below : shows 0xc26d_1a94_a1ff_ffae ≡ cell "-999999999999.99"
  pub one_more_lem : shows 0x426d_1a94_a200_0000 ≡ wide
  pub one_more-below : shows 0xc26d_1a94_a200_0000 ≡ wide
  -- The doubles on both sides of 999,999,999,999.995.
  pub rounds_down : shows 0x426d_1a94_a1ff_ffd7 ≡ cell " 999999999999.99"
  pub rounds-beyond : shows 0x426d_1a94_a1ff_ffd8 ≡ wide
  pub no_infinity : value_cell (inf true) ≡ wide
  pub no_nan : value_cell nan ≡ wide
  -- 31 stands for a value and for a refusal.
  pub no_bond : sheet_of 0 (Ok (record { value = ninety_nine; nodes = 2 })) ≡ zeros
  pub beyond : sheet_of 1000000 (Err (at 4 7)) ≡ zeros
  -- 32 by the value and by the count.
  pub too_wide : sheet_of 7 (Ok (record { value = (of_bits binary64 0x426d_1a94_a200_0000); nodes = 2 })) ≡ printed (Some (at 32 0)) "     7                          32"
  pub too_many : sheet_of 999999 (Ok (record { value = ninety_nine; nodes = 100000000 })) ≡ printed (Some (at 32 0)) "999999                          32"
  -- A refusal's number is printed, and its place handed up.
  pub refused : sheet_of 12 (Err (at 4 7)) ≡ printed (Some (at 4 7)) "    12                           4"
  pub refused_27 : sheet_of 12 (Err (at 27 0)) ≡ printed (Some (at 27 0)) "    12                          27"
  -- So are the numbers that no reason has.
  pub refused_47 : sheet_of 12 (Err (at 47 7)) ≡ printed (Some (at 47 7)) "    12                          47"
  pub refused_9999 : sheet_of 12 (Err (at 9999 7)) ≡ printed (Some (at 9999 7)) "    12                        9999"

pub starred : Starred
unfolding put_at byte_left digits_left width_of whole_left point_left minus_left printed_of answer_sheet sheet_by ieee.of_bits
starred =
    record {
      window = refl;
      widest = refl;
      half = refl;
      half_up = refl;
      half-below = refl;
      no_half = refl;
      above_half = refl;
      no_sign = refl;
      minus-zero = refl;
      least = refl;
      last = refl;
      last_below = refl;
      one_more_lem = refl;
      one_more-below = refl;
      rounds_down = refl;
      rounds-beyond = refl;
      no_infinity = refl;
      no_nan = refl;
      no_bond = refl;
      beyond = refl;
      too_wide = refl;
      too_many = refl;
      refused = refl;
      refused_27 = refl;
      refused_47 = refl;
      refused_9999 = refl;
    }
