-- Cells, shifts and pages as they are printed, computed by the checker.
use Rattle.std.specs.Prelude.{ℕ, ◌≡◌, true, false, List, [], ◌∷◌, ◌++◌, length, replicate, Float, Ok, Err}
use Rattle.std.specs.Float.{nan, inf, binary64}
use Rattle.std.specs.Float.Ieee.{of_bits}
use Rattle.std.specs.Float.Ieee as ieee
use Rattle.floats.specs.Answers.{plus_zero}
use Rattle.decimal.specs.Examples.{bytes}
use Rattle.terms.specs.Numbers.{float}
use Rattle.spreadtable.specs.Cells.{hash_cell, value_text, cell_text}
use Rattle.spreadtable.specs.Page.{page_text, at}
use Rattle.spreadtable.specs.Table.{shifted, any_outside, wrong_count}
use Rattle.floats.specs.declared.Reason.TheVariants as reason

abbrev minus5 : Float
minus5 = ieee.neg (float 5)

-- The largest double, and a trillion.
abbrev largest : Float
largest = of_bits binary64 0x7fef_ffff_ffff_ffff

abbrev trillion : Float
trillion = of_bits binary64 0x426d_1a94_a200_0000

-- Two columns for each of two rows, whatever the cells' own texts are.
abbrev named : Float → Float → List ℕ
named h s = hash_cell 4

pub record Starred : Type 0 where
  -- A number right behind a hash sign, right-justified.
  pub hash_4 : hash_cell 4 ≡ bytes "              #4"
  pub hash_46 : hash_cell 46 ≡ bytes "             #46"
  -- A value as on the closing sheet: right-justified, halves to the even cent, no sign on a zero.
  pub ninety_nine_lem : value_text (float 99) ≡ bytes "           99.00"
  pub half : value_text (of_bits binary64 0x3fc0_0000_0000_0000) ≡ bytes "            0.12"
  pub minus-zero : value_text (ieee.neg plus_zero) ≡ bytes "            0.00"
  pub widest : value_text (of_bits binary64 0xc26d_1a94_a1ff_ffae) ≡ bytes "-999999999999.99"
  -- 32 by the value, and not by the count.
  pub too_wide : cell_text (Ok (record { value = trillion; nodes = 2 })) ≡ bytes "             #32"
  pub many-nodes : cell_text (Ok (record { value = (float 99); nodes = 100000000 })) ≡ bytes "           99.00"
  -- A refusal shows its number and not its place.
  pub refused : cell_text (Err (at reason.NotFinite 3)) ≡ bytes "             #27"
  -- 12 with a shift of -5 is 7. A sigma below 0, above 10, not finite, and one among others.
  pub inside : any_outside (shifted minus5 (float 12 ∷ [])) ≡ false
  pub below : any_outside (shifted minus5 (float 4 ∷ [])) ≡ true
  pub above : any_outside (shifted (float 5) (float 4 ∷ float 6 ∷ [])) ≡ true
  pub not_a_number : any_outside (shifted nan (float 1 ∷ [])) ≡ true
  pub infinite : any_outside (shifted largest (largest ∷ [])) ≡ true
  pub no_sigmas : any_outside (shifted (inf false) []) ≡ false
  -- 1 to 16 of either.
  pub no_spreads : wrong_count [] (plus_zero ∷ []) ≡ true
  pub seventeen_shifts : wrong_count (plus_zero ∷ []) (replicate 17 plus_zero) ≡ true
  pub sixteen : wrong_count (replicate 16 plus_zero) (replicate 16 plus_zero) ≡ false
  -- A newline after each row: 16 rows of 257 bytes.
  pub two_rows : page_text named (plus_zero ∷ plus_zero ∷ []) (plus_zero ∷ plus_zero ∷ []) ≡ bytes "              #4              #4" ++ 10 ∷ bytes "              #4              #4" ++ 10 ∷ []
  pub full : length (page_text named (replicate 16 plus_zero) (replicate 16 plus_zero)) ≡ 4112
