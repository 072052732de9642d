-- Definitions only. The lines of the report.
use Rattle.std.specs.Prelude.{ℕ, ◌+◌, ◌-◌, Bool, false, cond, List, length, eqb, leb, ltb, Float}
use Rattle.decimal.specs.Examples.{bytes}
use Rattle.bondreport.specs.Columns.{blank_line, put_at}
use Rattle.bondreport.specs.Numbers.{width_of}
use Rattle.bondreport.specs.Figures.{put_whole, put_date, put_decimals, put_bits}

-- A label stands at column 0, and what is said of it from column 17 on.
abbrev pub labelled : List ℕ → List ℕ
labelled label = put_at blank_line 0 label

abbrev pub said_line : List ℕ → List ℕ → List ℕ
said_line label text = put_at (labelled label) 17 text

abbrev pub text_line : List ℕ → List ℕ
text_line text = put_at blank_line 17 text

-- Above the calls their columns are named; no calls are said so.
abbrev pub call_heading : List ℕ
call_heading = said_line (bytes "Call list") (bytes "from        to                 strike    exact bits")

abbrev pub no_calls : List ℕ
no_calls = said_line (bytes "Call list") (bytes "no calls")

-- A strike stands as it was typed, and ends at column 53. More than 13 letters would come too near to the days: they stand on the next line, which has room for 63.
abbrev pub put_strike : List ℕ → List ℕ → List ℕ
put_strike line typed =
    cond (ltb 63 (length typed)) (put_at line 48 (bytes "beyond")) (cond (ltb 13 (length typed)) (put_at line 45 (bytes "next line")) (put_at line (54 - length typed) typed))

abbrev pub stands_apart : List ℕ → Bool
stands_apart typed = cond (ltb 13 (length typed)) (leb (length typed) 63) false

abbrev pub strike_line : List ℕ → List ℕ
strike_line typed = said_line (bytes "  strike") typed

-- A call: its first day at columns 17 to 26, its last at 29 to 38, its strike as it was typed, and the strike's bits from 58 on.
abbrev pub call_line : ℕ → ℕ → List ℕ → Float → List ℕ
call_line start end typed strike = put_bits (put_strike (put_date (put_date blank_line 27 start) 39 end) typed) 58 strike

-- A day stands at columns 17 to 26.
abbrev pub day_line : List ℕ → ℕ → List ℕ
day_line label day = put_date (labelled label) 27 day

abbrev pub no_pillar : List ℕ
no_pillar = said_line (bytes "Curve date") (bytes "no pillar")

-- A number ends at column 44, and its bits stand from 49 on.
abbrev pub number_line : List ℕ → Float → ℕ → List ℕ
number_line label x places = put_bits (put_decimals (labelled label) 45 x places) 49 x

-- A count ends at column 44.
abbrev pub count_line : List ℕ → ℕ → List ℕ
count_line label n = put_whole (labelled label) 45 n

-- A refusal's number, and the line of the file that it stands for, where there is one.
abbrev pub refused_number : ℕ → List ℕ
refused_number number = put_whole (labelled (bytes "Refused")) (17 + width_of number) number

abbrev pub refused_line : ℕ → ℕ → List ℕ
refused_line number line =
    cond
    (eqb line 0)
    (refused_number number)
    (put_whole (put_at (refused_number number) (17 + width_of number) (bytes " at line ")) (17 + width_of number + 9 + width_of line) line)
