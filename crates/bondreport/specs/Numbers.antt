-- Definitions only. Numbers, put leftwards from the column that they end before.
use Rattle.std.specs.Prelude.{ℕ, zero, suc, ◌+◌, ◌-◌, ◌/◌, ◌%◌, cond, eqb, ltb, set}
use Rattle.bondreport.specs.declared.Leftward.{Leftward}

-- A byte stands in the column before the end, which is the next end; before the first column there is none.
unfoldable pub byte_left : Leftward → ℕ → Leftward
byte_left c byte = cond (eqb c.end 0) c (record { line = set c.line (c.end - 1) byte; end = c.end - 1 })

-- The last digits of a number, the last first.
unfoldable pub digits_left : ℕ → Leftward → ℕ → Leftward
unfolding byte_left
digits_left zero c n = c
digits_left (suc count) c n = digits_left count (byte_left c (48 + n % 10)) (n / 10)

-- The digits counted so far, and those that are left; there is room for some more.
unfoldable pub width_from : ℕ → ℕ → ℕ → ℕ
width_from zero count n = count
width_from (suc room) count n = cond (ltb n 10) count (width_from room (suc count) (n / 10))

-- A number of 64 bits has 20 digits at the most.
unfoldable pub width_of : ℕ → ℕ
unfolding width_from
width_of n = width_from 19 1 n

-- A whole number has all its digits.
unfoldable pub whole_left : Leftward → ℕ → Leftward
unfolding digits_left width_of
whole_left c n = digits_left (width_of n) c n
