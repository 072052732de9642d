-- Definitions only. The numbers that document 01 writes in decimal, as doubles, and whole numbers as doubles.
use Rattle.std.specs.Prelude.{ℕ, pos, Float}
use Rattle.std.specs.Float.{binary64}
use Rattle.std.specs.Float.Ieee.{of_bits, of_int}

-- A whole number as a double.
abbrev pub float : ℕ → Float
float n = of_int binary64 (pos n)

-- 1e12, 1e6, 1e15
abbrev pub amount_limit : Float
amount_limit = of_bits binary64 0x426d_1a94_a200_0000

abbrev pub million : Float
million = of_bits binary64 0x412e_8480_0000_0000

abbrev pub target_limit : Float
target_limit = of_bits binary64 0x430c_6bf5_2634_0000

-- 1e-12, 1e-14, 2^−52
abbrev pub tolerance : Float
tolerance = of_bits binary64 0x3d71_9799_812d_ea11

abbrev pub width_tolerance : Float
width_tolerance = of_bits binary64 0x3d06_849b_86a1_2b9b

abbrev pub epsilon : Float
epsilon = of_bits binary64 0x3cb0_0000_0000_0000
