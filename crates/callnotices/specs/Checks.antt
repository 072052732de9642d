-- Definitions only. The checks of notices: 2, 41, 42, 43, then 3, 4 and 5 as 01 checks calls, over every set notice, superseded or not. A withdrawal's call fields aren't read.
use Rattle.std.specs.Prelude.{ℕ, Bool, not, ◌&&◌, ◌||◌, List, [], ◌∷◌, length, get_or, eqb, ltb, Float}
use Rattle.floats.specs.Answers.{plus_zero, Check}
use Rattle.terms.specs.Numbers.{million}
use Rattle.terms.specs.Checks.{first_of, single, indexed, outside, no_day, not_above}
use Rattle.callnotices.specs.Notices.{Notices, is_set}
use Rattle.callnotices.specs.Standing.{first, is_version}
use Rattle.floats.specs.declared.Reason.TheVariants as reason

-- ---- 2: unequal slices

abbrev pub unequal : ℕ → ℕ → ℕ → ℕ → ℕ → ℕ → Bool
unequal count versions actions starts ends strikes =
    not (eqb versions count)
    || (not (eqb actions count) || (not (eqb starts count) || (not (eqb ends count) || not (eqb strikes count))))

abbrev pub notice_count : Notices → Check
notice_count n =
    single reason.Count 0
    (unequal (length n.series) (length n.versions) (length n.actions) (length n.starts) (length n.ends) (length n.strikes))

-- ---- 41: more than 256 notices

abbrev pub too_many : List ℕ → Check
too_many series = single reason.NoticeCount 0 (ltb 256 (length series))

-- ---- 42: a series, version or action out of range

abbrev pub wrong_at : List ℕ → List ℕ → List ℕ → ℕ → Bool
wrong_at series versions actions i =
    outside 1 64 (get_or series i 0) || (outside 1 65535 (get_or versions i 0) || ltb 1 (get_or actions i 0))

abbrev pub notice_range : List ℕ → List ℕ → List ℕ → Check
notice_range series versions actions = indexed reason.NoticeRange (wrong_at series versions actions) series

-- ---- 43: the same series and version twice, at the lowest index that repeats an earlier notice

abbrev pub repeats_at : List ℕ → List ℕ → ℕ → Bool
repeats_at series versions i = ltb (first (is_version series versions (get_or series i 0) (get_or versions i 0)) i) i

abbrev pub no_repeats : List ℕ → List ℕ → Check
no_repeats series versions = indexed reason.NoticeRepeated (repeats_at series versions) series

-- ---- 3, 4, 5: of set notices

abbrev pub set_day_wrong : List ℕ → List ℕ → List ℕ → ℕ → Bool
set_day_wrong actions starts ends i = is_set actions i && (no_day (get_or starts i 0) || no_day (get_or ends i 0))

abbrev pub set_days : List ℕ → List ℕ → List ℕ → Check
set_days actions starts ends = indexed reason.Day (set_day_wrong actions starts ends) actions

abbrev pub set_strike_wrong : List ℕ → List Float → ℕ → Bool
set_strike_wrong actions strikes i = is_set actions i && not_above million (get_or strikes i plus_zero)

abbrev pub set_strikes : List ℕ → List Float → Check
set_strikes actions strikes = indexed reason.Number (set_strike_wrong actions strikes) actions

abbrev pub set_ends_early : List ℕ → List ℕ → List ℕ → ℕ → Bool
set_ends_early actions starts ends i = is_set actions i && ltb (get_or ends i 0) (get_or starts i 0)

abbrev pub set_order : List ℕ → List ℕ → List ℕ → Check
set_order actions starts ends = indexed reason.CallOrder (set_ends_early actions starts ends) actions

-- ---- all of them

unfoldable pub notice_checks : Notices → Check
unfolding first_of
notice_checks n =
    first_of
    (notice_count n
    ∷ too_many n.series
    ∷ notice_range n.series n.versions n.actions
    ∷ no_repeats n.series n.versions
    ∷ set_days n.actions n.starts n.ends
    ∷ set_strikes n.actions n.strikes
    ∷ set_order n.actions n.starts n.ends
    ∷ [])
