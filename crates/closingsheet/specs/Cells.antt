-- Definitions only. A value in 16 columns of the closing sheet.
use Rattle.std.specs.Option.{option_map_or}
use Rattle.std.specs.Prelude.{Bool, true, false, cond, ltb, List, take, replicate, Float, ℕ}
use Rattle.decimal.specs.declared.Rounded.{Rounded}
use Rattle.std.specs.Prelude.{Option, Some, None}
use Rattle.decimal.specs.Writing.{decimals_of}
use Rattle.bondreport.specs.Columns.{blank_line}
use Rattle.bondreport.specs.Figures.{before, decimals_left}

-- A value in 16 columns, and whether it is too wide for them.
pub record ValueCell : Type 0 where
  pub wide : Bool
  pub cell : List ℕ

-- Nothing beyond ±999,999,999,999.99 after rounding is printed.
abbrev pub fitting : Rounded → Option Rounded
fitting shown = cond (ltb 999999999999 shown.whole) None (Some shown)

-- A value is rounded as the report rounds to two decimals: from the exact value of the double, an exact half going to the even cent. An infinity or a NaN has none.
unfoldable pub printed_of : Float → Option Rounded
unfolding decimals_of
printed_of x = option_map_or fitting (decimals_of 2 x) None

-- Two decimals, right-justified in 16 columns, without a sign on a zero. Where the value is too wide, the columns are blank.
abbrev pub cell_of : Option Rounded → ValueCell
cell_of value =
    option_map_or
    (λ shown. record { wide = false; cell = take 16 (decimals_left (before blank_line 16) 2 shown).line })
    value
    (record { wide = true; cell = replicate 16 32 })

-- The columns, where the value isn't too wide for them.
abbrev pub fitted_cell : ValueCell → Option (List ℕ)
fitted_cell value = cond value.wide None (Some value.cell)

abbrev pub value_cell : Float → ValueCell
value_cell x = cell_of (printed_of x)
