-- Definitions only. For each series the highest version stands, and a withdrawn one yields no entry.
use Rattle.std.specs.Prelude.{ℕ, zero, suc, Bool, cond, ◌&&◌, List, [], ◌∷◌, ◌++◌, length, get_or, eqb, ltb}
use Rattle.callnotices.specs.Notices.{Notices, is_set}

-- The lowest of count indices from i on at which a test holds, the one after them where it holds at none.
unfoldable pub first_from : (ℕ → Bool) → ℕ → ℕ → ℕ
first_from test zero i = i
first_from test (suc count) i = cond (test i) i (first_from test count (suc i))

-- The lowest index below count at which a test holds, count where it holds at none.
abbrev pub first : (ℕ → Bool) → ℕ → ℕ
first test count = first_from test count 0

-- The version at an index where it is of the series and above the highest so far, else the highest so far.
abbrev pub higher : List ℕ → List ℕ → ℕ → ℕ → ℕ → ℕ
higher series versions s so_far i =
    cond (eqb (get_or series i 0) s && ltb so_far (get_or versions i 0)) (get_or versions i 0) so_far

-- The highest version of a series among count notices from i on, and so far.
unfoldable pub highest_from : List ℕ → List ℕ → ℕ → ℕ → ℕ → ℕ → ℕ
highest_from series versions s so_far zero i = so_far
highest_from series versions s so_far (suc count) i = highest_from series versions s (higher series versions s so_far i) count (suc i)

-- The highest version of a series, 0 without one.
abbrev pub highest : List ℕ → List ℕ → ℕ → ℕ
highest series versions s = highest_from series versions s 0 (length series) 0

-- The notice at an index is of the series and has the version.
abbrev pub is_version : List ℕ → List ℕ → ℕ → ℕ → ℕ → Bool
is_version series versions s version i = eqb (get_or series i 0) s && eqb (get_or versions i 0) version

-- The notice of a series that stands; the count of notices where the series has none.
abbrev pub standing : List ℕ → List ℕ → ℕ → ℕ
standing series versions s = first (is_version series versions s (highest series versions s)) (length series)

-- There is a notice at this index, and it is a set.
abbrev pub yields : List ℕ → ℕ → Bool
yields actions i = ltb i (length actions) && is_set actions i

-- The notices that yield an entry, of series 1 to s, by series, rising.
unfoldable pub entries_to : Notices → ℕ → List ℕ
entries_to n zero = []
entries_to n (suc s) =
    let i = standing n.series n.versions (suc s) in
    cond (yields n.actions i) (entries_to n s ++ (i ∷ [])) (entries_to n s)

abbrev pub entries : Notices → List ℕ
entries n = entries_to n 64
