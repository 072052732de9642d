-- Definitions only. What a line of the sheet shows: what stands in its columns, and the value read back as a decimal number and held against a double.
use Rattle.std.specs.Prelude.{ℕ, ◌+◌, ◌-◌, ◌*◌, ◌≤◌, ◌<◌, ◌≡◌, Bool, true, false, cond, List, [], ◌∷◌, T, eqb, length, get_or, Float}
use Rattle.std.specs.Float.Ieee.Scale.{finite}
use Rattle.std.specs.Float.Ieee.Positive.{den}
use Rattle.floats.specs.laws.Fractions.{pl, mi}
use Rattle.bondreport.specs.Columns.{blank_line}
use Rattle.bondreport.specs.Figures.{put_whole}

-- ---- the columns

-- The bond number in columns 1 to 6, the cell in 7 to 22, the count in 23 to 30, blanks in 31 to 34, and a newline.
pub record ValueColumns (bond count : ℕ) (cell line : List ℕ) : Type 0 where
  pub size : length line ≡ 35
  pub number : (i : ℕ) → i < 6 → get_or line i 0 ≡ get_or (put_whole blank_line 6 bond) i 0
  pub value : (i : ℕ) → i < 16 → get_or line (6 + i) 0 ≡ get_or cell i 0
  pub counted : (i : ℕ) → 22 ≤ i → i < 30 → get_or line i 0 ≡ get_or (put_whole blank_line 30 count) i 0
  pub blank : (i : ℕ) → 30 ≤ i → i < 34 → get_or line i 0 ≡ 32
  pub newline : get_or line 34 0 ≡ 10

-- The bond number in columns 1 to 6, blanks in 7 to 30, the refusal in 31 to 34, and a newline.
pub record RefusedColumns (bond n : ℕ) (line : List ℕ) : Type 0 where
  pub size : length line ≡ 35
  pub number : (i : ℕ) → i < 6 → get_or line i 0 ≡ get_or (put_whole blank_line 6 bond) i 0
  pub blank : (i : ℕ) → 6 ≤ i → i < 30 → get_or line i 0 ≡ 32
  pub refusal : (i : ℕ) → 30 ≤ i → i < 34 → get_or line i 0 ≡ get_or (put_whole blank_line 34 n) i 0
  pub newline : get_or line 34 0 ≡ 10

-- ---- the value, read back

-- Whether a minus stood, the digits as one number, how many of them stood behind the point, and whether the point stood.
pub record Decimal : Type 0 where
  pub negative : Bool
  pub digits : ℕ
  pub places : ℕ
  pub pointed : Bool

abbrev pub decimal : Bool → ℕ → ℕ → Bool → Decimal
decimal negative digits places pointed = record { negative = negative; digits = digits; places = places; pointed = pointed }

-- One column more: a blank is passed over, a minus and a point are kept in mind, and a digit stands behind those before it.
unfoldable pub one_more : Decimal → ℕ → Decimal
one_more d byte =
    cond (eqb byte 32) d
    (cond (eqb byte 45) (decimal true d.digits d.places d.pointed)
    (cond (eqb byte 46) (decimal d.negative d.digits d.places true)
    (decimal d.negative (d.digits * 10 + (byte - 48)) (cond d.pointed (d.places + 1) d.places) d.pointed)))

unfoldable pub read_on : Decimal → List ℕ → Decimal
unfolding one_more
read_on d [] = d
read_on d (byte ∷ columns) = read_on (one_more d byte) columns

abbrev pub read_back : List ℕ → Decimal
read_back columns = read_on (decimal false 0 0 false) columns

-- What a decimal has above 0, and what it has below, in units of its last place.
abbrev pub above : Decimal → ℕ
above d = cond d.negative 0 d.digits

abbrev pub below : Decimal → ℕ
below d = cond d.negative d.digits 0

-- A decimal with two places, no more than half a cent away from the exact value (pl x − mi x) / den x of a double, either way.
pub record HalfCent (x : Float) (d : Decimal) : Type 0 where
  pub finite : T (finite x)
  pub places : d.places ≡ 2
  pub not_above_lem : 2 * (above d * den x + 100 * mi x) ≤ 2 * (100 * pl x + below d * den x) + den x
  pub not_below_lem : 2 * (100 * pl x + below d * den x) ≤ 2 * (above d * den x + 100 * mi x) + den x

-- Two decimals with two places each, the second no lower.
pub record NoLower (first second : Decimal) : Type 0 where
  pub first_places : first.places ≡ 2
  pub second-places : second.places ≡ 2
  pub no_lower : above first + below second ≤ above second + below first
