-- For every code, a later day never has a smaller time. Assumes nothing.
use Rattle.std.specs.Prelude.{ℕ, ◌≤◌, Bool, true, false, cond, T, eqb, ltb, Float}
use Rattle.std.proofs.Common.{arith}
use Rattle.std.specs.Float.{nan, inf, fin, binary64}
use Rattle.std.specs.Float.Ieee.{sub, le, lt, of_int, of_bits, round}
use Rattle.std.specs.Float.Ieee.Scale.{finite}
use Rattle.std.specs.Float.Ieee.Exact.{HasValue}
use Rattle.std.specs.Float.Ieee.Back.{round_whole}
use Rattle.std.specs.Float.Ieee.Order.{round_mono}
use Rattle.floats.specs.Answers.{plus_zero}
use Rattle.floats.specs.laws.Arithmetic.{sub-mono, sub_mono_left, div_mono_left}
use Rattle.floats.specs.laws.Order.{between}
use Rattle.calendar.specs.Calendar.{thirties}
use Rattle.calendar.specs.laws.Thirties.{later-no_less, thirties-few}
use Rattle.terms.specs.declared.Settlement.{Settlement}
use Rattle.terms.specs.Numbers.{float}
use Rattle.terms.specs.Times.{count_of, year_of, time_from, year_fraction}

-- ---- what is counted

count-no_less : (code a b : ℕ) → a ≤ b → count_of code a ≤ count_of code b
unfolding count_of
count-no_less code a b h = go (ltb code 2)
  where
    go : (t : Bool) → cond t a (thirties a) ≤ cond t b (thirties b)
    go true = h
    go false = later-no_less a b h

count-few : (code day : ℕ) → day ≤ 200000 → count_of code day ≤ 882000
unfolding count_of
count-few code day h = go (ltb code 2)
  where
    go : (t : Bool) → cond t day (thirties day) ≤ 882000
    go true = omega arith
    go false = thirties-few day

-- ---- as floats

finite-of_value : (x : Float) (s : Bool) (a c : ℕ) → HasValue x s a c → T (finite x)
finite-of_value nan s a c h = absurd h
finite-of_value (inf t) s a c h = absurd h
finite-of_value (fin t m e) s a c h = tt

float-finite : (n : ℕ) → n ≤ 882000 → T (finite (float n))
unfolding of_int
float-finite n h = finite-of_value (round binary64 false n 1) false n 1 (round_whole binary64 false n (omega arith))

float-no_less : (a b : ℕ) → a ≤ b → T (le (float a) (float b))
unfolding of_int
float-no_less a b h = round_mono binary64 a 1 b 1 (omega arith) (omega arith) (omega arith)

year-above : (code : ℕ) → T (finite (float (year_of code))) × T (lt plus_zero (float (year_of code)))
unfolding of_int of_bits lt
year-above code = go (eqb code 0)
  where
    go : (t : Bool) → T (finite (float (cond t 365 360))) × T (lt plus_zero (float (cond t 365 360)))
    go true = (tt, tt)
    go false = (tt, tt)

-- A difference of two counts is finite.
sub-finite : (a b : ℕ) → a ≤ 882000 → b ≤ 882000 → T (finite (sub binary64 (float a) (float b)))
unfolding of_int sub
sub-finite a b h k =
    let top : ℕ = 882000 in
    between (sub binary64 (float 0) (float top)) (sub binary64 (float a) (float b)) (sub binary64 (float top) (float 0)) tt tt
    (sub-mono binary64 (float 0) (float a) (float top) (float b) tt (float-finite a h) tt (float-finite b k) (float-no_less 0 a (omega arith)) (float-no_less b top k))
    (sub-mono binary64 (float a) (float top) (float b) (float 0) (float-finite a h) tt (float-finite b k) tt (float-no_less a top h) (float-no_less 0 b (omega arith)))

-- For every code, a later day never has a smaller time.
pub later_no_smaller : (s : Settlement) (day later : ℕ) → s.day ≤ 200000 → later ≤ 200000 → day ≤ later → T (le (year_fraction s day) (year_fraction s later))
unfolding time_from
later_no_smaller s day later k l h =
    let c = s.code in
    let from = count_of c s.day in
    let a = count_of c day in
    let b = count_of c later in
    let f = count-few c s.day k in
    let p = count-few c day (omega arith) in
    let q = count-few c later l in
    let y = year-above c in
    div_mono_left binary64 (sub binary64 (float a) (float from)) (sub binary64 (float b) (float from)) (float (year_of c))
    (sub-finite a from p f) (sub-finite b from q f) y.0 y.1
    (sub_mono_left binary64 (float a) (float b) (float from) (float-finite a p) (float-finite b q) (float-finite from f) (float-no_less a b (count-no_less c day later h)))
