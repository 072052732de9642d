-- Words as they are read and numbers as they are shown, computed by the checker.
use Rattle.std.specs.Prelude.{ℕ, ◌≡◌, refl, Bool, true, false, List, [], ◌∷◌, Float, Result, Ok, Err, Option, Some, None}
use Prim.Native.Char.{code}
use Prim.Native.String.{String}
use Prim.Native.String as text
use Rattle.std.specs.Float.{nan, inf, binary64}
use Rattle.std.specs.Float.Ieee.{of_bits}
use Rattle.std.specs.Float.Ieee as ieee
use Rattle.decimal.specs.declared.ReadError.{ReadError}
use Rattle.decimal.specs.declared.ReadError.TheVariants.{Malformed, TooLong}
use Rattle.decimal.specs.declared.Rounded.{Rounded}
use Rattle.decimal.specs.Decimal.{read_decimal}
use Rattle.decimal.specs.Writing.{decimals_of, hex_digits}

-- The bytes of a word of plain letters.
abbrev pub bytes : String → List ℕ
bytes text.String.[] = []
bytes (text.String.◌∷◌ c s) = code c ∷ bytes s

abbrev reads : String → Result Float ReadError
reads word = read_decimal (bytes word)

abbrev bits : ℕ → Result Float ReadError
bits n = Ok (of_bits binary64 n)

abbrev shows : ℕ → ℕ → Option Rounded
shows places n = decimals_of places (of_bits binary64 n)

abbrev parts : Bool → ℕ → ℕ → Option Rounded
parts negative whole part = Some (record { negative = negative; whole = whole; part = part })

pub record Starred : Type 0 where
  pub tenth : reads "0.1" ≡ bits 0x3fb9_9999_9999_999a
  pub strike : reads "101.5" ≡ bits 0x4059_6000_0000_0000
  pub whole : reads "45000" ≡ bits 0x40e5_f900_0000_0000
  pub below-zero : reads "-0.0025" ≡ bits 0xbf64_7ae1_47ae_147b
  pub minus-zero : reads "-0" ≡ bits 0x8000_0000_0000_0000
  -- Seventeen digits, and halfway between two doubles.
  pub longest : reads "99999999999999999" ≡ bits 0x4376_3457_85d8_a000
  pub next_to_0·3 : reads "0.30000000000000004" ≡ bits 0x3fd3_3333_3333_3334
  pub halfway : reads "9007199254740993" ≡ bits 0x4340_0000_0000_0000
  -- The first byte that no number has there.
  pub empty : reads "" ≡ Err (Malformed 0)
  pub sign-alone : reads "-" ≡ Err (Malformed 1)
  pub no_whole_part : reads ".5" ≡ Err (Malformed 0)
  pub no_decimals : reads "1." ≡ Err (Malformed 2)
  pub two_points : reads "1.2.3" ≡ Err (Malformed 3)
  pub two_signs : reads "--1" ≡ Err (Malformed 1)
  pub plus : reads "+1" ≡ Err (Malformed 0)
  pub exponent : reads "1e5" ≡ Err (Malformed 1)
  pub not_a_number : reads "nan" ≡ Err (Malformed 0)
  pub infinity : reads "inf" ≡ Err (Malformed 0)
  -- The eighteenth digit, and the twenty-third decimal.
  pub too_long : reads "100000000000000000" ≡ Err (TooLong 17)
  pub too_fine : reads "0.00000000000000000000001" ≡ Err (TooLong 24)
  -- 101.5, 2.675, which is less than it says, and -0.005, which is more.
  pub shown : shows 2 0x4059_6000_0000_0000 ≡ parts false 101 50
  pub under : shows 2 0x4005_6666_6666_6666 ≡ parts false 2 67
  pub over : shows 2 0xbf74_7ae1_47ae_147b ≡ parts true 0 1
  -- 0.125 and 0.375 lie halfway, and go to the even hundredth.
  pub tie_down : shows 2 0x3fc0_0000_0000_0000 ≡ parts false 0 12
  pub tie_up : shows 2 0x3fd8_0000_0000_0000 ≡ parts false 0 38
  -- 101.5 and 0.00205 to four decimals, 2.5 to none, and -0.004 to two.
  pub strike-shown : shows 4 0x4059_6000_0000_0000 ≡ parts false 101 5000
  pub spread-shown : shows 4 0x3f60_cb29_5e9e_1b09 ≡ parts false 0 21
  pub whole-shown : shows 0 0x4004_0000_0000_0000 ≡ parts false 2 0
  pub nothing-shown : shows 2 0xbf70_624d_d2f1_a9fc ≡ parts true 0 0
  -- A spread of 0.008512 to six decimals; 2^-7 = 0.0078125 and 3 * 2^-7 = 0.0234375, which lie halfway; -0.0000004, and 1.
  pub basis_points : shows 6 0x3f81_6ebd_4cfd_08d5 ≡ parts false 0 8512
  pub sixth_down : shows 6 0x3f80_0000_0000_0000 ≡ parts false 0 7812
  pub sixth_up : shows 6 0x3f98_0000_0000_0000 ≡ parts false 0 23438
  -- Just above the first half, by the last of its binary digits.
  pub past-half : shows 6 0x3f80_0000_0000_0001 ≡ parts false 0 7813
  pub tiny : shows 6 0xbe9a_d7f2_9abc_af48 ≡ parts true 0 0
  pub one : shows 6 0x3ff0_0000_0000_0000 ≡ parts false 1 0
  -- -0, the last numbers that are shown, and those that are not.
  pub shown-zero : shows 2 0x8000_0000_0000_0000 ≡ parts true 0 0
  pub last_shown : shows 4 0x42ff_ffff_ffff_ffff ≡ parts false 562949953421311 9375
  pub last_of-six : shows 6 0x427f_ffff_ffff_ffff ≡ parts false 2199023255551 999756
  pub too_large : shows 2 0xc300_0000_0000_0000 ≡ None
  pub too_large_for_five : shows 5 0x4280_0000_0000_0000 ≡ None
  pub too_many : shows 7 0x4059_6000_0000_0000 ≡ None
  pub no_infinity : decimals_of 2 (inf true) ≡ None
  pub no_nan : decimals_of 2 nan ≡ None
  pub digits : hex_digits 0x3fb9_9999_9999_999a ≡ bytes "3fb999999999999a"

pub starred : Starred
unfolding read_decimal decimals_of hex_digits ieee.of_bits
starred =
    record {
      tenth = refl;
      strike = refl;
      whole = refl;
      below-zero = refl;
      minus-zero = refl;
      longest = refl;
      next_to_0·3 = refl;
      halfway = refl;
      empty = refl;
      sign-alone = refl;
      no_whole_part = refl;
      no_decimals = refl;
      two_points = refl;
      two_signs = refl;
      plus = refl;
      exponent = refl;
      not_a_number = refl;
      infinity = refl;
      too_long = refl;
      too_fine = refl;
      shown = refl;
      under = refl;
      over = refl;
      tie_down = refl;
      tie_up = refl;
      strike-shown = refl;
      spread-shown = refl;
      whole-shown = refl;
      nothing-shown = refl;
      basis_points = refl;
      sixth_down = refl;
      sixth_up = refl;
      past-half = refl;
      tiny = refl;
      one = refl;
      shown-zero = refl;
      last_shown = refl;
      last_of-six = refl;
      too_large = refl;
      too_large_for_five = refl;
      too_many = refl;
      no_infinity = refl;
      no_nan = refl;
      digits = refl;
    }
