-- Definitions only. A number to at most six decimals, and the hexadecimal digits of its bits.
use Rattle.std.specs.Prelude.{ℕ, zero, suc, ◌+◌, ◌*◌, ◌/◌, ◌%◌, ◌^◌, Bool, cond, ◌||◌, List, [], ◌∷◌, leb, ltb, Float, Option, Some, None}
use Rattle.std.specs.Float.{nan, inf, fin}
use Rattle.std.specs.Float.Ieee.{up, down}
use Rattle.std.specs.Float.Ieee.Nearest.{closest}
use Rattle.decimal.specs.declared.Rounded.{Rounded}

-- Units of the last decimal by their sign, their whole part and what is left.
abbrev pub in_units : Bool → ℕ → ℕ → Rounded
in_units negative places units = record { negative = negative; whole = units / 10 ^ places; part = units % 10 ^ places }

-- The whole part of a number that is shown has at most 49 binary digits, and 41 where it is shown to more than four decimals.
abbrev pub whole_digits : ℕ → ℕ
whole_digits places = cond (ltb 4 places) 41 49

-- It is shown as the nearest units of the last decimal to its exact value, a tie going to the even one; to six decimals at most.
unfoldable pub decimals_of : ℕ → Float → Option Rounded
decimals_of places nan = None
decimals_of places (inf s) = None
decimals_of places (fin s m e) =
    cond
    (ltb 6 places || leb (2 ^ whole_digits places * down e) (m * up e))
    None
    (Some (in_units s places (closest (10 ^ places * (m * up e)) (down e))))

-- 0 to 9, then a to f.
unfoldable pub hex_digit : ℕ → ℕ
hex_digit value = cond (ltb value 10) (48 + value) (87 + value)

-- The last digits of a number, the highest first.
unfoldable pub hex_from : ℕ → ℕ → List ℕ
unfolding hex_digit
hex_from zero n = []
hex_from (suc k) n = hex_digit (n / 2 ^ (4 * k) % 16) ∷ hex_from k n

-- A double has 64 bits.
unfoldable pub hex_digits : ℕ → List ℕ
unfolding hex_from
hex_digits n = hex_from 16 n
