-- Definitions only. The one node count of a book, as it was before each desk had its own.
use Rattle.std.specs.Prelude.{ℕ, zero, suc, ◌+◌, List, get_or}

-- The sum of the bonds' counts.
unfoldable pub total_to : List ℕ → ℕ → ℕ
total_to counts zero = 0
total_to counts (suc n) = total_to counts n + get_or counts n 0
