-- Definitions only. A word that is a decimal number: perhaps a minus, digits, and perhaps a point with digits behind it. Its value is the double nearest to it.
use Rattle.std.specs.Prelude.{ℕ, ◌+◌, ◌-◌, ◌*◌, ◌^◌, Bool, true, false, cond, List, [], ◌∷◌, eqb, leb, ltb, Float, Result, Ok, Err}
use Rattle.std.specs.Float.{binary64}
use Rattle.std.specs.Float.Ieee as ieee
use Rattle.decimal.specs.declared.ReadError.{ReadError}
use Rattle.decimal.specs.declared.ReadError.TheVariants.{Malformed, TooLong}
use Rattle.decimal.specs.declared.reading.Reading.{Reading}

-- The bytes that a number is written with.
abbrev pub minus : ℕ
minus = 45

abbrev pub point : ℕ
point = 46

abbrev pub nought : ℕ
nought = 48

abbrev pub nine : ℕ
nine = 57

-- The most decimals, and the least number that has 17 digits.
abbrev pub most_places : ℕ
most_places = 22

abbrev pub seventeen_digits : ℕ
seventeen_digits = 10000000000000000

-- The digits read so far as one number, how many of them are decimals, whether the point stood, and whether a digit came last.
abbrev pub reading : ℕ → ℕ → Bool → Bool → Reading
reading digits places pointed ready = record { digits = digits; places = places; pointed = pointed; ready = ready }

abbrev pub fresh : Reading
fresh = reading 0 0 false false

-- A point stands behind a digit, and once.
unfoldable pub with_point : Reading → ℕ → Result Reading ReadError
with_point s column = cond s.pointed (Err (Malformed column)) (cond s.ready (Ok (reading s.digits s.places true false)) (Err (Malformed column)))

-- No digit follows 17 significant ones, nor 22 decimals.
unfoldable pub with_digit : Reading → ℕ → ℕ → Result Reading ReadError
with_digit s digit column =
    cond
    (leb seventeen_digits s.digits)
    (Err (TooLong column))
    (cond
    s.pointed
    (cond (leb most_places s.places) (Err (TooLong column)) (Ok (reading (s.digits * 10 + digit) (s.places + 1) true true)))
    (Ok (reading (s.digits * 10 + digit) s.places false true)))

-- One byte more: the point, or a digit from 0 to 9. A byte that doesn't fit, and a digit too many, are refused where they stand.
unfoldable pub step : Reading → ℕ → ℕ → Result Reading ReadError
unfolding with_point with_digit
step s byte column =
    cond (eqb byte point) (with_point s column) (cond (ltb byte nought) (Err (Malformed column)) (cond (ltb nine byte) (Err (Malformed column)) (with_digit s (byte - nought) column)))

-- A number ends with a digit. It is the digits over a power of ten, rounded once.
unfoldable pub finish : Bool → Reading → ℕ → Result Float ReadError
unfolding ieee.round
finish negative s column = cond s.ready (Ok (ieee.round binary64 negative s.digits (10 ^ s.places))) (Err (Malformed column))

-- On with what has been read, unless a byte was refused.
unfoldable pub on_step : Result Reading ReadError → (Reading → Result Float ReadError) → Result Float ReadError
on_step (Ok s) next = next s
on_step (Err e) next = Err e

-- From a column on, byte by byte.
unfoldable pub read_from : Bool → Reading → ℕ → List ℕ → Result Float ReadError
unfolding on_step step finish
read_from negative s column [] = finish negative s column
read_from negative s column (byte ∷ bytes) = on_step (step s byte column) λ s. read_from negative s (column + 1) bytes

-- A word is read behind its sign.
unfoldable pub read_decimal : List ℕ → Result Float ReadError
unfolding read_from
read_decimal [] = Err (Malformed 0)
read_decimal (byte ∷ bytes) = cond (eqb byte minus) (read_from true fresh 1 bytes) (read_from false fresh 0 (byte ∷ bytes))
