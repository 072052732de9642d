-- Cells, shifts and pages are printed as the examples say, computed by the checker.
use Rattle.std.specs.Prelude.{refl}
use Rattle.std.specs.Float.Ieee.{of_bits}
use Rattle.std.specs.Float.Ieee as ieee
use Rattle.bondreport.specs.Numbers.{byte_left, digits_left, width_of, whole_left}
use Rattle.bondreport.specs.Figures.{point_left, minus_left}
use Rattle.closingsheet.specs.Cells.{printed_of}
use Rattle.spreadtable.specs.Cells.{hash_cell, cell_text}
use Rattle.spreadtable.specs.Page.{row_text, page_text}
use Rattle.spreadtable.specs.Table.{any_outside}
use Rattle.spreadtable.specs.Examples.{Starred}

pub starred : Starred
unfolding hash_cell cell_text row_text page_text any_outside printed_of byte_left digits_left width_of whole_left point_left minus_left ieee.of_bits ieee.of_int ieee.add ieee.neg ieee.lt ieee.le
starred =
    record {
      hash_4 = refl;
      hash_46 = refl;
      ninety_nine_lem = refl;
      half = refl;
      minus-zero = refl;
      widest = refl;
      too_wide = refl;
      many-nodes = refl;
      refused = refl;
      inside = refl;
      below = refl;
      above = refl;
      not_a_number = refl;
      infinite = refl;
      no_sigmas = refl;
      no_spreads = refl;
      seventeen_shifts = refl;
      sixteen = refl;
      two_rows = refl;
      full = refl;
    }
